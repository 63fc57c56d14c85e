-- One step of a walk: what it reaches, and what it has added.
use Rattle.std.proofs.Common.{◌≡◌, ◌⊎◌, inl, inr, ℕ, List, [], ◌∷◌, ◌++◌, Option, None, Result, Ok, Err, IfOk, Bor, true, refl, sym, ap, ◌∙◌, subst, BTreeMap, append_assoc, length, take}
use Rattle.std.proofs.lemmas.Bool.{and_from, eq-eqb}
use Rattle.std.specs.Cmp.Lexicographic.{pointwise}
use Rattle.std.specs.Global.{Vec}
use Rattle.nats_text.specs.declared.fault.NoMemory.{NoMemory}
use Rattle.std.specs.List.{starts_with}
use Rattle.std.specs.Prelude.{nat_eq}
use Rattle.nats_text.specs.Pieces.{pieces}
use Rattle.nats_text.specs.Text.{star, tail}
use Rattle.pattern_tree.specs.Reached.{Adds, Reached, in_option, seen, value_at}
use Rattle.pattern_tree.proofs.Added.{adds_one, adds_none, adds_both, adds_same}
use Rattle.pattern_tree.proofs.Steps.{last_found, last_from, more_found, more_from}

-- ---- what is reached

-- what a walk looks at where one token is left
abbrev pub AtLast : List ℕ → List ℕ → List ℕ → Type 0
AtLast front r k = ((k ≡ front ++ tail) ⊎ (k ≡ front ++ star)) ⊎ (k ≡ front ++ r)

-- what it looks at where more follow
abbrev pub AtMore : List ℕ → List ℕ → List ℕ → List ℕ → Type 0
AtMore front t after k = ((k ≡ front ++ tail) ⊎ Reached (front ++ (star ++ 46 ∷ [])) after k) ⊎ Reached (front ++ (t ++ 46 ∷ [])) after k

pub last_reached : (front r : List ℕ) → pieces 46 r ≡ r ∷ [] → (k : List ℕ) → AtLast front r k → Reached front r k
last_reached front r e k (inl (inl h)) = (tail, h, last_from tail r refl e (inl refl))
last_reached front r e k (inl (inr h)) = (star, h, last_from star r refl e (inr (inl refl)))
last_reached front r e k (inr h) = (r, h, last_from r r e e (inr (inr refl)))

pub reached_last : (front r : List ℕ) → pieces 46 r ≡ r ∷ [] → (k : List ℕ) → Reached front r k → AtLast front r k
reached_last front r e k (j, is, m) = elim (last_found j r e m) [
  | inl h ↦ inl (inl (is ∙ ap (λ x. front ++ x) h))
  | inr g ↦ elim g [ inl h ↦ inl (inr (is ∙ ap (λ x. front ++ x) h)) | inr h ↦ inr (is ∙ ap (λ x. front ++ x) h) ]
]

dotted : (front x j : List ℕ) → (front ++ (x ++ 46 ∷ [])) ++ j ≡ front ++ (x ++ 46 ∷ j)
dotted front x j = append_assoc front (x ++ 46 ∷ []) j ∙ ap (λ y. front ++ y) (append_assoc x (46 ∷ []) j)

pub more_reached : (front r t after : List ℕ) → pieces 46 r ≡ t ∷ pieces 46 after → (k : List ℕ) → AtMore front t after k → Reached front r k
more_reached front r t after e k (inl (inl h)) = (tail, h, more_from tail r t after e (inl refl))
more_reached front r t after e k (inl (inr (j, is, m))) = (star ++ 46 ∷ j, is ∙ dotted front star j, more_from (star ++ 46 ∷ j) r t after e (inr (j, inl refl, m)))
more_reached front r t after e k (inr (j, is, m)) = (t ++ 46 ∷ j, is ∙ dotted front t j, more_from (t ++ 46 ∷ j) r t after e (inr (j, inr refl, m)))

pub reached_more : (front r t after : List ℕ) → pieces 46 r ≡ t ∷ pieces 46 after → (k : List ℕ) → Reached front r k → AtMore front t after k
reached_more front r t after e k (j, is, m) = elim (more_found j r t after e m) [
  | inl h ↦ inl (inl (is ∙ ap (λ x. front ++ x) h))
  | inr p ↦ elim p.1 [
    | inl any ↦ inl (inr (p.0, is ∙ (ap (λ x. front ++ x) any ∙ sym (dotted front star p.0)), p.2))
    | inr one ↦ inr (p.0, is ∙ (ap (λ x. front ++ x) one ∙ sym (dotted front t p.0)), p.2)
  ]
]

-- ---- what is added

begins : (p j : List ℕ) → starts_with nat_eq (p ++ j) p ≡ true
begins [] j = refl
begins (a ∷ p) j = and_from (nat_eq a a) (pointwise nat_eq p (take (length p) (p ++ j))) (eq-eqb a a refl) (begins p j)

module _ {V : Type 0} (m : BTreeMap (Vec ℕ) V) where
  pub took : (key at : List ℕ) (old new : List V) → new ≡ old ++ in_option (value_at key m) → key ≡ at → Adds (λ k. k ≡ at) m old new
  took key at old new is e = adds_one m at old new (is ∙ ap (λ q. old ++ in_option (value_at q m)) e)

  pub went : (front at after : List ℕ) (old mid new : List V) → front ≡ at → Adds (Reached front after) m old mid → new ≡ mid → Adds (Reached at after) m old new
  went front at after old mid new e h is = subst (λ xs. Adds (Reached at after) m old xs) (sym is) (subst (λ q. Adds (Reached q after) m old mid) e h)

  pub stayed : (front at after : List ℕ) (old new : List V) → front ≡ at → ((k : List ℕ) → starts_with nat_eq k front ≡ true → value_at k m ≡ None) → new ≡ old → Adds (Reached at after) m old new
  stayed front at after old new e none is =
      subst (λ xs. Adds (Reached at after) m old xs) (sym is) (adds_none m (Reached at after) old (λ k p. none k (subst (λ q. starts_with nat_eq q front ≡ true) (sym (p.1 ∙ ap (λ x. x ++ p.0) (sym e))) (begins front p.0))))

  pub more_added : (f r t after : List ℕ) (old one two new : List V) → pieces 46 r ≡ t ∷ pieces 46 after → Adds (λ k. k ≡ f ++ tail) m old one → Adds (Reached (f ++ (star ++ 46 ∷ [])) after) m one two → Adds (Reached (f ++ (t ++ 46 ∷ [])) after) m two new → Adds (Reached f r) m old new
  more_added f r t after old one two new e a b d =
      adds_same m (AtMore f t after) (Reached f r) old new (more_reached f r t after e) (reached_more f r t after e)
      (adds_both m (λ k. (k ≡ f ++ tail) ⊎ Reached (f ++ (star ++ 46 ∷ [])) after k) (Reached (f ++ (t ++ 46 ∷ [])) after) old two new
      (adds_both m (λ k. k ≡ f ++ tail) (Reached (f ++ (star ++ 46 ∷ [])) after) old one two a b) d)

  last_one : (f r key : List ℕ) (old one two new : List V) → pieces 46 r ≡ r ∷ [] → Adds (λ k. k ≡ f ++ tail) m old one → Adds (λ k. k ≡ f ++ star) m one two → key ≡ f ++ r → new ≡ two ++ in_option (value_at key m) → Adds (Reached f r) m old new
  last_one f r key old one two new e a b is h =
      adds_same m (AtLast f r) (Reached f r) old new (last_reached f r e) (reached_last f r e)
      (adds_both m (λ k. (k ≡ f ++ tail) ⊎ (k ≡ f ++ star)) (λ k. k ≡ f ++ r) old two new
      (adds_both m (λ k. k ≡ f ++ tail) (λ k. k ≡ f ++ star) old one two a b) (took key (f ++ r) two new h is))

  pub last_added : (f r key : List ℕ) (old one two : List V) (result : Result (Vec (Bor V)) NoMemory) → pieces 46 r ≡ r ∷ [] → Adds (λ k. k ≡ f ++ tail) m old one → Adds (λ k. k ≡ f ++ star) m one two → key ≡ f ++ r → IfOk result (λ it. seen it.items ≡ two ++ in_option (value_at key m)) → IfOk result (λ it. Adds (Reached f r) m old (seen it.items))
  last_added f r key old one two (Ok it) e a b is h = last_one f r key old one two (seen it.items) e a b is h
  last_added f r key old one two (Err fault) e a b is h = tt
