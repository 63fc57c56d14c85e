-- A text that is joined of parts is cut into them again.
use Rattle.std.proofs.Common.{◌≡◌, ℕ, List, [], ◌∷◌, ◌++◌, Bool, true, false, not, ◌==◌, cond, eqb, refl, sym, ap, ◌∙◌}
use Rattle.std.specs.List.{list_all, join_with_byte}
use Rattle.std.proofs.lemmas.Bool.{and_parts, eqb-true, eq-eqb}
use Rattle.nats_text.specs.Pieces.{pieces, onto_first}
use Rattle.js_wire.proofs.Bytes.{not_true}

-- no byte of the text is this one
abbrev pub free_of : ℕ → List ℕ → Bool
free_of c w = list_all (λ b. not (b == c)) w

pub record HasFirst (parts : List (List ℕ)) : Type 0 where
  pub first : List ℕ
  pub others : List (List ℕ)
  pub is : parts ≡ first ∷ others

onto_first_first : (b : ℕ) (parts : List (List ℕ)) → HasFirst (onto_first b parts)
onto_first_first b [] = record { first = b ∷ []; others = []; is = refl }
onto_first_first b (part ∷ parts) = record { first = b ∷ part; others = parts; is = refl }

pub pieces_first : (c : ℕ) (bs : List ℕ) → HasFirst (pieces c bs)
pieces_first c [] = record { first = []; others = []; is = refl }
pieces_first c (b ∷ bs) =
    let P : Bool → Type 0 = λ t. HasFirst (cond t ([] ∷ pieces c bs) (onto_first b (pieces c bs))) in
    elim (eqb b c) as P [ true ↦ record { first = []; others = pieces c bs; is = refl } | false ↦ onto_first_first b (pieces c bs) ]

onto_append : (b : ℕ) (ps qs : List (List ℕ)) → HasFirst ps → onto_first b (ps ++ qs) ≡ onto_first b ps ++ qs
onto_append b ps qs h = rw h.is refl

pub pieces_append : (c : ℕ) (a b : List ℕ) → pieces c (a ++ c ∷ b) ≡ pieces c a ++ pieces c b
pieces_append c [] b = let e : eqb c c ≡ true = eq-eqb c c refl in rw e refl
pieces_append c (x ∷ a) b =
    let i = pieces_append c a b in
    let P : Bool → Type 0 = λ t. cond t ([] ∷ pieces c (a ++ c ∷ b)) (onto_first x (pieces c (a ++ c ∷ b))) ≡ cond t ([] ∷ pieces c a) (onto_first x (pieces c a)) ++ pieces c b in
    let go : (t : Bool) → P t = λ t. elim t as P [ true ↦ ap (λ r. [] ∷ r) i | false ↦ ap (λ r. onto_first x r) i ∙ onto_append x (pieces c a) (pieces c b) (pieces_first c a) ] in
    go (eqb x c)

pub alone : (c : ℕ) (w : List ℕ) → free_of c w ≡ true → pieces c w ≡ w ∷ []
alone c [] h = refl
alone c (b ∷ bs) h =
    let p = and_parts (not (b == c)) (free_of c bs) h in
    let e : (b == c) ≡ false = not_true (b == c) p.0 in
    rw e (ap (λ ps. onto_first b ps) (alone c bs p.1))

-- the parts of what was joined of parts
pub pieces_join : (c : ℕ) (w : List ℕ) (ws : List (List ℕ)) → list_all (free_of c) (w ∷ ws) ≡ true → pieces c (join_with_byte c (w ∷ ws)) ≡ w ∷ ws
pieces_join c w [] h = alone c w (and_parts (free_of c w) true h).0
pieces_join c w (v ∷ ws) h =
    let p = and_parts (free_of c w) (list_all (free_of c) (v ∷ ws)) h in
    pieces_append c w (join_with_byte c (v ∷ ws)) ∙ (ap (λ ps. ps ++ pieces c (join_with_byte c (v ∷ ws))) (alone c w p.0) ∙ ap (λ ps. w ∷ ps) (pieces_join c v ws p.1))

join_onto : (c b : ℕ) (p : List ℕ) (ps : List (List ℕ)) → join_with_byte c (onto_first b (p ∷ ps)) ≡ b ∷ join_with_byte c (p ∷ ps)
join_onto c b p [] = refl
join_onto c b p (q ∷ ps) = refl

join_first : (c b : ℕ) (parts : List (List ℕ)) → HasFirst parts → join_with_byte c (onto_first b parts) ≡ b ∷ join_with_byte c parts
join_first c b parts h = rw h.is (join_onto c b h.first h.others)

join_cut : (c : ℕ) (parts : List (List ℕ)) → HasFirst parts → join_with_byte c ([] ∷ parts) ≡ c ∷ join_with_byte c parts
join_cut c parts h = rw h.is refl

-- what is joined of the parts of a text is the text
pub join_pieces : (c : ℕ) (bs : List ℕ) → join_with_byte c (pieces c bs) ≡ bs
join_pieces c [] = refl
join_pieces c (b ∷ bs) =
    let h = pieces_first c bs in
    let i = join_pieces c bs in
    let P : Bool → Type 0 = λ t. eqb b c ≡ t → join_with_byte c (cond t ([] ∷ pieces c bs) (onto_first b (pieces c bs))) ≡ b ∷ bs in
    let go : (t : Bool) → P t = λ t. elim t as P [ true ↦ (λ e. join_cut c (pieces c bs) h ∙ (ap (λ r. c ∷ r) i ∙ ap (λ x. x ∷ bs) (sym (eqb-true b c e)))) | false ↦ (λ e. join_first c b (pieces c bs) h ∙ ap (λ r. b ∷ r) i) ] in
    go (eqb b c) refl
