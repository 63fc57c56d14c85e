-- Texts as the lines that a byte ends.
use Rattle.std.proofs.Common.{◌≡◌, ℕ, ◌+◌, List, [], ◌∷◌, ◌++◌, length, Bool, true, false, not, cond, eqb, None, refl, sym, ap, ◌∙◌, arith, length-append}
use Rattle.std.specs.List.{list_all}
use Rattle.std.proofs.lemmas.Bool.{true≢false, and_parts, not-true, eqb-true, eq-eqb}
use Rattle.nats_text.specs.Pieces.{onto_first, pieces}
use Rattle.nats_text.specs.Headers.{before_cr}
use Rattle.nats_text.proofs.Tokens.{HasFirst, pieces_first}

-- the byte isn't in the text
abbrev pub is_free : ℕ → List ℕ → Bool
is_free c bs = list_all (λ b. not (eqb b c)) bs

-- the parts with the byte between them
abbrev pub joined : ℕ → List (List ℕ) → List ℕ
joined c [] = []
joined c (part ∷ []) = part
joined c (part ∷ next ∷ parts) = part ++ c ∷ joined c (next ∷ parts)

joined-onto_first : (c b : ℕ) (parts : List (List ℕ)) → joined c (onto_first b parts) ≡ b ∷ joined c parts
joined-onto_first c b [] = refl
joined-onto_first c b (part ∷ []) = refl
joined-onto_first c b (part ∷ next ∷ parts) = refl

joined-more : (c : ℕ) (part : List ℕ) (parts : List (List ℕ)) → HasFirst parts → joined c (part ∷ parts) ≡ part ++ c ∷ joined c parts
joined-more c part parts h = rw h.is

pub joined-pieces : (c : ℕ) (bs : List ℕ) → joined c (pieces c bs) ≡ bs
joined-pieces c [] = refl
joined-pieces c (b ∷ bs) =
    let P : Bool → Type 0 = λ t. eqb b c ≡ t → joined c (cond t ([] ∷ pieces c bs) (onto_first b (pieces c bs))) ≡ b ∷ bs in
    let go : (t : Bool) → P t = λ t. elim t as P [
      | true ↦ (λ e. joined-more c [] (pieces c bs) (pieces_first c bs) ∙ (ap (λ x. x ∷ joined c (pieces c bs)) (sym (eqb-true b c e)) ∙ ap (λ xs. b ∷ xs) (joined-pieces c bs)))
      | false ↦ (λ e. joined-onto_first c b (pieces c bs) ∙ ap (λ xs. b ∷ xs) (joined-pieces c bs))
    ] in
    go (eqb b c) refl

-- a text that is cut into a part and the pieces of a rest
pub cut_is : (c : ℕ) (bs part rest : List ℕ) → pieces c bs ≡ part ∷ pieces c rest → bs ≡ part ++ c ∷ rest
cut_is c bs part rest e =
    sym (joined-pieces c bs) ∙ (ap (joined c) e ∙ (joined-more c part (pieces c rest) (pieces_first c rest) ∙ ap (λ xs. part ++ c ∷ xs) (joined-pieces c rest)))

pub length-cut : (c : ℕ) (bs part rest : List ℕ) → pieces c bs ≡ part ∷ pieces c rest → length bs ≡ length part + 1 + length rest
length-cut c bs part rest e = ap length (cut_is c bs part rest e) ∙ (length-append part (c ∷ rest) ∙ omega arith)

free-onto_first : (c b : ℕ) (parts : List (List ℕ)) → eqb b c ≡ false → list_all (is_free c) parts ≡ true → list_all (is_free c) (onto_first b parts) ≡ true
free-onto_first c b [] e h = rw e refl
free-onto_first c b (part ∷ parts) e h = rw e h

-- no part has the byte
pub pieces_free : (c : ℕ) (bs : List ℕ) → list_all (is_free c) (pieces c bs) ≡ true
pieces_free c [] = refl
pieces_free c (b ∷ bs) =
    let P : Bool → Type 0 = λ t. eqb b c ≡ t → list_all (is_free c) (cond t ([] ∷ pieces c bs) (onto_first b (pieces c bs))) ≡ true in
    let go : (t : Bool) → P t = λ t. elim t as P [
      | true ↦ (λ e. pieces_free c bs)
      | false ↦ (λ e. free-onto_first c b (pieces c bs) e (pieces_free c bs))
    ] in
    go (eqb b c) refl

-- a part, the byte and a rest are cut so
pub pieces-append : (c : ℕ) (part rest : List ℕ) → is_free c part ≡ true → pieces c (part ++ c ∷ rest) ≡ part ∷ pieces c rest
pieces-append c [] rest h = rw (eq-eqb c c refl) refl
pieces-append c (b ∷ part) rest h =
    let parts = and_parts (not (eqb b c)) (is_free c part) h in
    let other : eqb b c ≡ false = not-true (eqb b c) parts.0 in
    rw (other, pieces-append c part rest parts.1) refl

-- a line with two CRs
two_cr : (text : List ℕ) (parts : List (List ℕ)) → HasFirst parts → before_cr (text ∷ [] ∷ parts) ≡ None
two_cr text parts h = rw h.is

filled_cr : (text : List ℕ) (b : ℕ) (parts : List (List ℕ)) → before_cr (text ∷ onto_first b parts) ≡ None
filled_cr text b [] = refl
filled_cr text b (part ∷ parts) = refl

pub more_behind_cr : (text rest : List ℕ) → eqb (length rest) 0 ≡ false → before_cr (text ∷ pieces 13 rest) ≡ None
more_behind_cr text [] h = absurd (true≢false h)
more_behind_cr text (b ∷ bs) h =
    let P : Bool → Type 0 = λ t. before_cr (text ∷ cond t ([] ∷ pieces 13 bs) (onto_first b (pieces 13 bs))) ≡ None in
    let go : (t : Bool) → P t = λ t. elim t as P [ true ↦ two_cr text (pieces 13 bs) (pieces_first 13 bs) | false ↦ filled_cr text b (pieces 13 bs) ] in
    go (eqb b 13)
