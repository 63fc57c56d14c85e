-- The lines of a text, one after another.
use Rattle.std.proofs.Common.{◌≡◌, ℕ, List, [], ◌∷◌, Bool, true, false, cond, eqb, refl, sym, ap, ◌∙◌}
use Rattle.nats_text.specs.Pieces.{pieces, onto_first}
use Rattle.leafd_cli.specs.ScriptLines.{ScriptLine, lines_of, lines_from}

-- the parts of a text have a first one
abbrev pub HasFirst : List (List ℕ) → Type 0
HasFirst parts = (first : List ℕ) × (rest : List (List ℕ)) × (parts ≡ first ∷ rest)

onto_has_first : (b : ℕ) (parts : List (List ℕ)) → HasFirst (onto_first b parts)
onto_has_first b [] = (b ∷ [], [], refl)
onto_has_first b (p ∷ parts) = (b ∷ p, parts, refl)

pieces_first : (c : ℕ) (bs : List ℕ) → HasFirst (pieces c bs)
pieces_first c [] = ([], [], refl)
pieces_first c (b ∷ bs) =
    let P : Bool → Type 0 = λ x. HasFirst (cond x ([] ∷ pieces c bs) (onto_first b (pieces c bs))) in
    let go : (x : Bool) → P x = λ x. elim x as P [ true ↦ ([], pieces c bs, refl) | false ↦ onto_has_first b (pieces c bs) ] in
    go (eqb b c)

pub lines_of-cut : (rest line after : List ℕ) → pieces 10 rest ≡ line ∷ pieces 10 after → lines_of rest ≡ record { bytes = line; ended = true } ∷ lines_of after
lines_of-cut rest line after e =
    let f = pieces_first 10 after in
    let row : ScriptLine = record { bytes = line; ended = true } in
    ap lines_from (e ∙ ap (λ ps. line ∷ ps) f.2) ∙ ap (λ ps. row ∷ lines_from ps) (sym f.2)
