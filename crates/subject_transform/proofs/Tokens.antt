-- The tokens of a source and of a subject, one after the other.
use Rattle.std.proofs.Common.{◌≡◌, ℕ, ◌+◌, ◌-◌, List, [], ◌∷◌, ◌++◌, length, drop, Bool, true, false, ◌||◌, cond, eqb, refl, sym, ap, ◌∙◌}
use Rattle.std.proofs.lemmas.Bool.{eqb-true}
use Rattle.std.specs.List.{join_with_byte}
use Rattle.std.specs.Str.{bytes_eq}
use Rattle.nats_text.specs.Pieces.{onto_first, pieces}
use Rattle.nats_text.specs.Text.{star}
use Rattle.subject_transform.specs.Values.{taken, last_taken}

-- a list that has a first item
pub record HasFirst (parts : List (List ℕ)) : Type 0 where
  pub first : List ℕ
  pub others : List (List ℕ)
  pub is : parts ≡ first ∷ others

onto_first_first : (b : ℕ) (parts : List (List ℕ)) → HasFirst (onto_first b parts)
onto_first_first b [] = record { first = b ∷ []; others = []; is = refl }
onto_first_first b (part ∷ parts) = record { first = b ∷ part; others = parts; is = refl }

pub pieces_first : (c : ℕ) (bs : List ℕ) → HasFirst (pieces c bs)
pieces_first c [] = record { first = []; others = []; is = refl }
pieces_first c (b ∷ bs) =
    let P : Bool → Type 0 = λ t. HasFirst (cond t ([] ∷ pieces c bs) (onto_first b (pieces c bs))) in
    elim (eqb b c) as P [ true ↦ record { first = []; others = pieces c bs; is = refl } | false ↦ onto_first_first b (pieces c bs) ]

-- ---- what a `*` took

pub taken_none : (ps : List (List ℕ)) (n : ℕ) → taken ps [] n ≡ []
taken_none [] n = refl
taken_none (p ∷ ps) n = refl

pub taken_other : (p t : List ℕ) (ps ts : List (List ℕ)) (n : ℕ) → bytes_eq p star ≡ false → taken (p ∷ ps) (t ∷ ts) n ≡ taken ps ts n
taken_other p t ps ts n e = rw e refl

pub taken_here : (p t : List ℕ) (ps ts : List (List ℕ)) (n : ℕ) → bytes_eq p star ≡ true → eqb n 1 ≡ true → taken (p ∷ ps) (t ∷ ts) n ≡ t
taken_here p t ps ts n e f = rw (e, f) refl

pub taken_later : (p t : List ℕ) (ps ts : List (List ℕ)) (n : ℕ) → bytes_eq p star ≡ true → eqb n 1 ≡ false → taken (p ∷ ps) (t ∷ ts) n ≡ taken ps ts (n - 1)
taken_later p t ps ts n e f = rw (e, f) refl

-- ---- what a `>` took

last_of_none : (ps : List (List ℕ)) → last_taken ps [] ≡ []
last_of_none [] = refl
last_of_none (p ∷ []) = refl
last_of_none (p ∷ q ∷ ps) = refl

last_of_first : (p t : List ℕ) (ps ts : List (List ℕ)) → HasFirst ps → last_taken (p ∷ ps) (t ∷ ts) ≡ last_taken ps ts
last_of_first p t ps ts h = rw h.is refl

last_of_last : (p t : List ℕ) (ps : List (List ℕ)) → HasFirst ps → last_taken (p ∷ ps) (t ∷ []) ≡ []
last_of_last p t ps h = rw h.is (last_of_none (h.first ∷ h.others))

pub last_more : (w r p t w' r' : List ℕ) → pieces 46 w ≡ p ∷ pieces 46 w' → pieces 46 r ≡ t ∷ pieces 46 r' → last_taken (pieces 46 w) (pieces 46 r) ≡ last_taken (pieces 46 w') (pieces 46 r')
last_more w r p t w' r' e f = rw (e, f) (last_of_first p t (pieces 46 w') (pieces 46 r') (pieces_first 46 w'))

pub last_short : (w r p w' : List ℕ) → pieces 46 w ≡ p ∷ pieces 46 w' → pieces 46 r ≡ r ∷ [] → last_taken (pieces 46 w) (pieces 46 r) ≡ []
last_short w r p w' e f = rw (e, f) (last_of_last p r (pieces 46 w') (pieces_first 46 w'))

-- ---- pieces put together

join_onto : (c b : ℕ) (p : List ℕ) (ps : List (List ℕ)) → join_with_byte c (onto_first b (p ∷ ps)) ≡ b ∷ join_with_byte c (p ∷ ps)
join_onto c b p [] = refl
join_onto c b p (q ∷ ps) = refl

join_first : (c b : ℕ) (parts : List (List ℕ)) → HasFirst parts → join_with_byte c (onto_first b parts) ≡ b ∷ join_with_byte c parts
join_first c b parts h = rw h.is (join_onto c b h.first h.others)

join_cut : (c : ℕ) (parts : List (List ℕ)) → HasFirst parts → join_with_byte c ([] ∷ parts) ≡ c ∷ join_with_byte c parts
join_cut c parts h = rw h.is refl

pub join_pieces : (c : ℕ) (bs : List ℕ) → join_with_byte c (pieces c bs) ≡ bs
join_pieces c [] = refl
join_pieces c (b ∷ bs) =
    let h = pieces_first c bs in
    let i = join_pieces c bs in
    let P : Bool → Type 0 = λ t. eqb b c ≡ t → join_with_byte c (cond t ([] ∷ pieces c bs) (onto_first b (pieces c bs))) ≡ b ∷ bs in
    let go : (t : Bool) → P t = λ t. elim t as P [ true ↦ (λ e. join_cut c (pieces c bs) h ∙ (ap (λ r. c ∷ r) i ∙ ap (λ x. x ∷ bs) (sym (eqb-true b c e)))) | false ↦ (λ e. join_first c b (pieces c bs) h ∙ ap (λ r. b ∷ r) i) ] in
    go (eqb b c) refl
