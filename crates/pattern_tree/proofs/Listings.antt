-- Patterns in byte order: what a change under one pattern leaves under any pattern.
use Rattle.std.proofs.Common.{◌≡◌, ℕ, Bool, true, false, cond, if◌then◌else◌, List, [], Option, Some, None, inl, inr, refl, sym, ap, ◌∙◌, subst, Ordering}
use Rattle.std.specs.Prelude.{Result, Ok, Err, OnErr}
use Rattle.std.proofs.lemmas.Bool.{cases_Bool}
use Rattle.std.proofs.lemmas.Map.Text.{is_eq-slice_cmp}
use Rattle.std.proofs.lemmas.Slice.Eq.{bytes_eq-Decides}
use Rattle.std.specs.BTreeMap.{UpdatesBy, WritesThrough}
use Rattle.std.specs.BTreeSet.{BTreeSet}
use Rattle.std.specs.Cmp.{eq_by_cmp_equiv}
use Rattle.std.specs.Cmp.Lexicographic.{nat_list_cmp_total, nat_list_eq_equiv, slice_cmp}
use Rattle.std.specs.Global.{Vec}
use Rattle.std.specs.Map.{KeepsOthers}
use Rattle.std.specs.Ordering.{is_eq, nat_cmp}
use Rattle.std.specs.Str.{bytes_eq}
use Rattle.interest_list.specs.declared.subscription.Subscription.{Subscription}
use Rattle.pattern_tree.specs.Reached.{value_at}
use Rattle.pattern_tree.specs.Standing.{Listing, keys_in, listed}

-- the order of the keys
abbrev pub key_cmp : Vec ℕ → Vec ℕ → Ordering
key_cmp a b = slice_cmp nat_cmp a.items b.items

-- w is held under this pattern, and under each other one what was held
abbrev pub Puts : List ℕ → Option (BTreeSet Subscription) → Listing → Listing → Type 0
Puts pattern w old new = (q : List ℕ) → value_at q new ≡ (if bytes_eq pattern q then w else value_at q old)

apart : (a b ks : List ℕ) → bytes_eq a b ≡ false → is_eq (slice_cmp nat_cmp a ks) ≡ true → is_eq (slice_cmp nat_cmp b ks) ≡ false
apart a b ks n y = is_eq-slice_cmp b ks ∙ nat_list_eq_equiv.symm b ks ∙ sym (nat_list_eq_equiv.congr a ks b (sym (is_eq-slice_cmp a ks) ∙ y)) ∙ n

under_others : (pattern : List ℕ) (w : Option (BTreeSet Subscription)) (old new : Listing) → UpdatesBy key_cmp (λ key. slice_cmp nat_cmp pattern key.items) old new w → (q : List ℕ) → bytes_eq pattern q ≡ false → value_at q new ≡ value_at q old
unfolding KeepsOthers
under_others pattern w old new h q n = h.3 _ (λ x y. (eq_by_cmp_equiv nat_list_cmp_total).congr q x.items y.items) (λ k. apart pattern q k.items n)

pub puts : (pattern : List ℕ) (w : Option (BTreeSet Subscription)) (old new : Listing) → UpdatesBy key_cmp (λ key. slice_cmp nat_cmp pattern key.items) old new w → Puts pattern w old new
puts pattern w old new h = λ q. elim (cases_Bool (bytes_eq pattern q)) [
  | inl same ↦ rw same (subst (λ (p : List ℕ). value_at p new ≡ w) ((bytes_eq-Decides pattern q).0 same) h.1)
  | inr other ↦ rw other (under_others pattern w old new h q other)
]

-- a value that was written through a borrow
pub writes : (pattern : List ℕ) (v w : BTreeSet Subscription) (old new : Listing) → value_at pattern old ≡ Some v → WritesThrough key_cmp (λ key. slice_cmp nat_cmp pattern key.items) old w new → Puts pattern (Some w) old new
writes pattern v w old new here h = puts pattern (Some w) old new (h.3 (rw here refl))

by_pattern : {A : Type 0} (F : Option (BTreeSet Subscription) → A) (b : Bool) (w o : Option (BTreeSet Subscription)) → F (cond b w o) ≡ cond b (F w) (F o)
by_pattern F true w o = refl
by_pattern F false w o = refl

pub listed_after : (pattern : List ℕ) (w : Option (BTreeSet Subscription)) (old new : Listing) → Puts pattern w old new → (q : List ℕ) → listed q new ≡ (if bytes_eq pattern q then keys_in w else listed q old)
listed_after pattern w old new h q = ap (λ o. keys_in o) (h q) ∙ by_pattern keys_in (bytes_eq pattern q) w (value_at q old)

-- a change of the list under a pattern
pub relisted : (F : List Subscription → List Subscription) (pattern : List ℕ) (v w : Option (BTreeSet Subscription)) (old new : Listing) → value_at pattern old ≡ v → keys_in w ≡ F (keys_in v) → Puts pattern w old new → (q : List ℕ) → listed q new ≡ (if bytes_eq pattern q then F (listed q old) else listed q old)
relisted F pattern v w old new here changed h q = elim (cases_Bool (bytes_eq pattern q)) [
  | inl same ↦ listed_after pattern w old new h q ∙ rw same (changed ∙ ap (λ o. F (keys_in o)) (sym here ∙ ap (λ p. value_at p old) ((bytes_eq-Decides pattern q).0 same)))
  | inr other ↦ listed_after pattern w old new h q ∙ rw other refl
]

-- the list under a pattern stays
pub stays : (pattern : List ℕ) (v w : Option (BTreeSet Subscription)) (old new : Listing) → value_at pattern old ≡ v → keys_in w ≡ keys_in v → Puts pattern w old new → (q : List ℕ) → listed q new ≡ listed q old
stays pattern v w old new here is h q = elim (cases_Bool (bytes_eq pattern q)) [
  | inl same ↦ listed_after pattern w old new h q ∙ rw same (is ∙ ap (λ o. keys_in o) (sym here ∙ ap (λ p. value_at p old) ((bytes_eq-Decides pattern q).0 same)))
  | inr other ↦ listed_after pattern w old new h q ∙ rw other refl
]

-- nothing stands under a pattern that isn't there, and nothing was to be changed
pub untouched : (F : List Subscription → List Subscription) (pattern : List ℕ) (old : Listing) → value_at pattern old ≡ None → F [] ≡ [] → (q : List ℕ) → listed q old ≡ (if bytes_eq pattern q then F (listed q old) else listed q old)
untouched F pattern old none empty q = elim (cases_Bool (bytes_eq pattern q)) [
  | inl same ↦ rw same (let e : listed q old ≡ [] = ap (λ o. keys_in o) (ap (λ p. value_at p old) (sym ((bytes_eq-Decides pattern q).0 same)) ∙ none) in e ∙ sym empty ∙ ap F (sym e))
  | inr other ↦ rw other refl
]

-- the list under a pattern is changed so, and under each other one it stays
abbrev pub Lists : (List Subscription → List Subscription) → List ℕ → Listing → Listing → Type 0
Lists F pattern old new = (q : List ℕ) → listed q new ≡ (if bytes_eq pattern q then F (listed q old) else listed q old)

pub on_err : {T E : Type 0} {P : Type 0} (r : Result T E) → P → OnErr r P
on_err (Ok x) p = tt
on_err (Err e) p = p
