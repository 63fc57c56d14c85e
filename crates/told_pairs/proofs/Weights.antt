-- What a change of one entry makes of the weights.
use Rattle.std.proofs.Common.{◌≡◌, ℕ, ◌-◌, ◌<◌, false, cond, ◌&&◌, eqb, List, Option, Some, None, Result, Ok, Err, OnOk, OnErr, IfOk, inl, inr, refl, sym, ap, ◌∙◌, subst, BTreeMap, unwrap_or, arith}
use Rattle.std.specs.BTreeMap.{WritesThrough}
use Rattle.std.specs.Map.{lookup}
use Rattle.std.specs.Ordering.{is_eq, nat_cmp}
use Rattle.std.proofs.lemmas.Bool.{cases_Bool, eqb-true}
use Rattle.std.proofs.lemmas.Map.Steps.{set_value_same}
use Rattle.told_pairs.specs.declared.pair.Pair.{Pair}
use Rattle.told_pairs.specs.Keys.{key_cmp, same_key}
use Rattle.told_pairs.specs.Wants.{Weight, Wants, Alters, Becomes, HasShare, HasWeight, IsTidied, Shares, is_held, share_at, share_in, total_in, weight_of, total_of, share_of, lowered, to_tell, weight_told}
use Rattle.told_pairs.proofs.Keys.{key_is}

pub number_same : (a b : ℕ) → is_eq (nat_cmp a b) ≡ eqb a b
number_same a b = grind (arith)

-- ---- shares of links

module _ (link : ℕ) (by : ℕ → ℕ) (old new : List (ℕ × ℕ)) where
  abbrev at_link : ℕ → Option ℕ → Type 0
  at_link l w = lookup (λ k. is_eq (nat_cmp l k)) new ≡ cond (is_eq (nat_cmp link l)) w (lookup (λ k. is_eq (nat_cmp l k)) old)

  pub shares_by : (w : Option ℕ) → unwrap_or w 0 ≡ by (share_at link old) → ((l : ℕ) → at_link l w) → Shares link by old new
  shares_by w is put l = elim (cases_Bool (eqb link l)) [
    | inl same ↦ ap (λ o. unwrap_or o 0) (put l) ∙ rw (number_same link l, same) (is ∙ ap (λ (k : ℕ). by (share_at k old)) (eqb-true link l same))
    | inr other ↦ ap (λ o. unwrap_or o 0) (put l) ∙ rw (number_same link l, other) refl
  ]

pub share_there : (link : ℕ) (shares : List (ℕ × ℕ)) → lookup (λ k. is_eq (nat_cmp link k)) shares ≡ None → 0 < share_at link shares → ⊥
share_there link shares none h = let e = ap (λ o. unwrap_or o 0) none in omega (arith, e, h)

-- ---- weights of pairs

module _ (pair : Pair) (held : Option ℕ) (by : ℕ → ℕ) (old new : Wants) where
  abbrev at_pair : Pair → Option Weight → Type 0
  at_pair p w = weight_of p new ≡ cond (same_key pair p) w (weight_of p old)

  pub put_becomes : (w : Weight) → ((p : Pair) → at_pair p (Some w)) → Alters held by (weight_of pair old) w → Becomes pair held by old new
  put_becomes w put a = record {
    totals = λ p. elim (cases_Bool (same_key pair p)) [
      | inl same ↦ ap total_in (put p) ∙ rw same (a.total ∙ ap (λ (q : Pair). by (total_of q old)) (key_is pair p same))
      | inr other ↦ ap total_in (put p) ∙ rw other refl
    ];
    shares = λ link p. elim (cases_Bool (same_key pair p)) [
      | inl same ↦ ap (share_in link) (put p) ∙ rw same (a.shares link ∙ ap (λ (q : Pair). cond (is_held held link) (by (share_of link q old)) (share_of link q old)) (key_is pair p same))
      | inr other ↦ ap (share_in link) (put p) ∙ rw other refl
    ];
  }

-- a weight that was written where one stands
pub written : (pair : Pair) (v w : Weight) (old new : BTreeMap Pair Weight) → weight_of pair old.entries ≡ Some v → WritesThrough key_cmp (key_cmp pair) old w new
    → (p : Pair) → weight_of p new.entries ≡ cond (same_key pair p) (Some w) (weight_of p old.entries)
written pair v w old new here h = (h.3 (rw here refl)).0

pub write_becomes : (pair : Pair) (held : Option ℕ) (by : ℕ → ℕ) (v w : Weight) (old new : BTreeMap Pair Weight) → weight_of pair old.entries ≡ Some v → WritesThrough key_cmp (key_cmp pair) old w new
    → Alters held by (Some v) w → Becomes pair held by old.entries new.entries
write_becomes pair held by v w old new here h a = put_becomes pair held by old.entries new.entries w (written pair v w old new here h) (subst (λ (o : Option Weight). Alters held by o w) (sym here) a)

-- the same value written again
pub write_same : (pair : Pair) (v w : Weight) (old new : BTreeMap Pair Weight) → weight_of pair old.entries ≡ Some v → WritesThrough key_cmp (key_cmp pair) old w new → w ≡ v → new.entries ≡ old.entries
write_same pair v w old new here h same = h.0 ∙ set_value_same (same_key pair) old.entries w (here ∙ ap Some (sym same))

pub on_ok : {T E : Type 0} {A B : Type 0} (r : Result T E) → (A → B) → OnOk r A → OnOk r B
on_ok (Ok x) f h = f h
on_ok (Err e) f h = h

pub on_err : {T E : Type 0} {A B : Type 0} (r : Result T E) → (A → B) → OnErr r A → OnErr r B
on_err (Ok x) f h = h
on_err (Err e) f h = f h

-- a pair that nobody wants can't be wanted less
pub none_lowered : (pair : Pair) (held : Option ℕ) (weight : ℕ) (old new : Wants) → weight_of pair old ≡ None → new ≡ old → Becomes pair held (lowered weight) old new
none_lowered pair held weight old new none same = record {
  totals = λ p. ap (total_of p) same ∙ by_total p;
  shares = λ link p. ap (share_of link p) same ∙ by_share link p;
} where
  by_total : (p : Pair) → total_of p old ≡ cond (same_key pair p) (lowered weight (total_of p old)) (total_of p old)
  by_total p = elim (cases_Bool (same_key pair p)) [
    | inl is ↦ (let z : total_of p old ≡ 0 = ap (λ (q : Pair). total_of q old) (sym (key_is pair p is)) ∙ ap total_in none in rw is (omega (arith, z)))
    | inr other ↦ rw other refl
  ]

  by_share : (link : ℕ) (p : Pair) → share_of link p old ≡ cond (same_key pair p && is_held held link) (lowered weight (share_of link p old)) (share_of link p old)
  by_share link p = elim (cases_Bool (same_key pair p)) [
    | inl is ↦ (let z : share_of link p old ≡ 0 = ap (λ (q : Pair). share_of link q old) (sym (key_is pair p is)) ∙ ap (share_in link) none in rw is (elim (cases_Bool (is_held held link)) [
      | inl y ↦ rw y (omega (arith, z))
      | inr n ↦ rw n refl
    ]))
    | inr other ↦ rw other refl
  ]

-- a pair that has a weight stands
pub weight_there : (pair : Pair) (held : Option ℕ) (wants : Wants) → weight_of pair wants ≡ None → HasWeight pair held wants → ⊥
weight_there pair None wants none h = let e = ap total_in none in omega (arith, e, h)
weight_there pair (Some link) wants none h = let e = ap total_in none in let p = h.0 in omega (arith, e, p)

pub share_of_weight : (pair : Pair) (held : Option ℕ) (v : Weight) (wants : Wants) → weight_of pair wants ≡ Some v → HasWeight pair held wants → HasShare held v
share_of_weight pair None v wants here h = tt
share_of_weight pair (Some link) v wants here h = subst (λ (n : ℕ). 0 < n) (ap (share_in link) here) h.1

-- a pair without weight is taken out
pub tidied : (pair : Pair) (old new : Wants) → total_of pair old ≡ 0 → ((p : Pair) → weight_of p new ≡ cond (same_key pair p) None (weight_of p old)) → IsTidied old new
tidied pair old new none put p = elim (cases_Bool (same_key pair p)) [
  | inl same ↦ inr (ap (λ (q : Pair). total_of q old) (sym (key_is pair p same)) ∙ none, put p ∙ rw same refl)
  | inr other ↦ inl (put p ∙ rw other refl)
]

pub on_err_any : {T E : Type 0} {A : Type 0} (r : Result T E) → A → OnErr r A
on_err_any (Ok x) a = tt
on_err_any (Err e) a = a

pub if_ok : {T E : Type 0} {P Q : T → Type 0} (r : Result T E) → ((x : T) → P x → Q x) → IfOk r P → IfOk r Q
if_ok (Ok x) f h = f x h
if_ok (Err e) f h = h

-- other pairs are told as before
pub other_same : (pair : Pair) (w : Weight) (old new : Wants) → ((p : Pair) → weight_of p new ≡ cond (same_key pair p) (Some w) (weight_of p old)) → (l : ℕ) (p : Pair) → same_key pair p ≡ false → to_tell l p new ≡ to_tell l p old
other_same pair w old new put l p other = ap (λ (o : Option Weight). weight_told p.queue (total_in o - share_in l o)) {y = weight_of p old} (put p ∙ rw other refl)
