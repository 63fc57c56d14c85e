-- A text and its parts between dots.
use Rattle.std.proofs.Common.{◌≡◌, ℕ, List, [], ◌∷◌, length, Bool, true, false, ◌&&◌, not, ◌==◌, cond, eqb, nat_lt, refl, sym, ap, ◌∙◌}
use Rattle.std.specs.Prelude.{nat_le}
use Rattle.std.specs.List.{list_all, join_with_byte}
use Rattle.std.specs.Str.{bytes_eq}
use Rattle.std.proofs.lemmas.Bool.{and_parts, eqb-true}
use Rattle.std.proofs.lemmas.Slice.Eq.{bytes_eq-Decides}
use Rattle.nats_text.specs.Pieces.{pieces, onto_first}
use Rattle.nats_text.specs.Text.{is_name, is_name_byte}

pub equal_bytes : (s t : List ℕ) → bytes_eq s t ≡ true → s ≡ t
equal_bytes s t h = (bytes_eq-Decides s t).0 h

not_true : (b : Bool) → not b ≡ true → b ≡ false
not_true true h = sym h
not_true false h = refl

-- a name has no dot
no_dot : (b : ℕ) → is_name_byte b ≡ true → (b == 46) ≡ false
no_dot b h =
    let f = nat_lt 32 b && nat_lt b 127 in
    let p5 = and_parts (f && not (b == 46) && not (b == 42) && not (b == 62) && not (b == 47)) (not (b == 92)) h in
    let p4 = and_parts (f && not (b == 46) && not (b == 42) && not (b == 62)) (not (b == 47)) p5.0 in
    let p3 = and_parts (f && not (b == 46) && not (b == 42)) (not (b == 62)) p4.0 in
    let p2 = and_parts (f && not (b == 46)) (not (b == 42)) p3.0 in
    not_true (b == 46) (and_parts f (not (b == 46)) p2.0).1

dotless : (w : List ℕ) → list_all is_name_byte w ≡ true → pieces 46 w ≡ w ∷ []
dotless [] h = refl
dotless (b ∷ bs) h =
    let p = and_parts (is_name_byte b) (list_all is_name_byte bs) h in
    let e = no_dot b p.0 in
    rw e (ap (λ ps. onto_first b ps) (dotless bs p.1))

-- a name is one part
pub name_alone : (w : List ℕ) → is_name w ≡ true → pieces 46 w ≡ w ∷ []
name_alone w h = dotless w (and_parts (nat_lt 0 (length w) && nat_le (length w) 64) (list_all is_name_byte w) h).1

-- ---- what is joined of the parts of a text is the text

record HasFirst (parts : List (List ℕ)) : Type 0 where
  first : List ℕ
  others : List (List ℕ)
  is : parts ≡ first ∷ others

onto_first_first : (b : ℕ) (parts : List (List ℕ)) → HasFirst (onto_first b parts)
onto_first_first b [] = record { first = b ∷ []; others = []; is = refl }
onto_first_first b (part ∷ parts) = record { first = b ∷ part; others = parts; is = refl }

pieces_first : (c : ℕ) (bs : List ℕ) → HasFirst (pieces c bs)
pieces_first c [] = record { first = []; others = []; is = refl }
pieces_first c (b ∷ bs) =
    let P : Bool → Type 0 = λ t. HasFirst (cond t ([] ∷ pieces c bs) (onto_first b (pieces c bs))) in
    elim (eqb b c) as P [ true ↦ record { first = []; others = pieces c bs; is = refl } | false ↦ onto_first_first b (pieces c bs) ]

join_onto : (c b : ℕ) (p : List ℕ) (ps : List (List ℕ)) → join_with_byte c (onto_first b (p ∷ ps)) ≡ b ∷ join_with_byte c (p ∷ ps)
join_onto c b p [] = refl
join_onto c b p (q ∷ ps) = refl

join_first : (c b : ℕ) (parts : List (List ℕ)) → HasFirst parts → join_with_byte c (onto_first b parts) ≡ b ∷ join_with_byte c parts
join_first c b parts h = rw h.is (join_onto c b h.first h.others)

join_cut : (c : ℕ) (parts : List (List ℕ)) → HasFirst parts → join_with_byte c ([] ∷ parts) ≡ c ∷ join_with_byte c parts
join_cut c parts h = rw h.is refl

pub join_pieces : (c : ℕ) (bs : List ℕ) → join_with_byte c (pieces c bs) ≡ bs
join_pieces c [] = refl
join_pieces c (b ∷ bs) =
    let h = pieces_first c bs in
    let i = join_pieces c bs in
    let P : Bool → Type 0 = λ t. eqb b c ≡ t → join_with_byte c (cond t ([] ∷ pieces c bs) (onto_first b (pieces c bs))) ≡ b ∷ bs in
    let go : (t : Bool) → P t = λ t. elim t as P [
      | true ↦ (λ e. join_cut c (pieces c bs) h ∙ (ap (λ r. c ∷ r) i ∙ ap (λ x. x ∷ bs) (sym (eqb-true b c e))))
      | false ↦ (λ e. join_first c b (pieces c bs) h ∙ ap (λ r. b ∷ r) i)
    ] in
    go (eqb b c) refl
