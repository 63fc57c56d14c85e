-- What is kept of subscriptions, after one came, went or has another weight.
use Rattle.std.proofs.Common.{◌≡◌, ℕ, ◌+◌, ◌-◌, ◌*◌, ◌≤◌, ◌<◌, Bool, true, false, cond, ◌&&◌, ltb, leb, List, [], ◌∷◌, length, Option, Some, None, inl, inr, refl, sym, ap, ap₂, ◌∙◌, arith}
use Rattle.std.specs.List.{list_all}
use Rattle.std.proofs.lemmas.Bool.{and_parts, and_from, eq-eqb}
use Rattle.std.proofs.lemmas.List.Sums.{sum_by-cons}
use Rattle.subject_transform.specs.Domains.{crosses}
use Rattle.interest_list.specs.declared.subscription.Holder.{Holder}
use Rattle.interest_list.specs.declared.subscription.Holder.TheVariants.{Client, Link, Inner}
use Rattle.interest_list.specs.declared.subscription.Subscription.{Subscription}
use Rattle.interest_list.specs.Changes.{is_weight}
use Rattle.interest_list.specs.Lists.{is_link, max_weight}
use Rattle.told_pairs.specs.declared.pair.Pair.{Pair}
use Rattle.told_pairs.specs.Keys.{same_key}
use Rattle.told_pairs.specs.Wants.{Weight, Wants, IsOf, Becomes, HasWeight, IsTidied, holding, is_for, is_held, is_own, lowered, own, pair_of, raised, reweighed, share_in, share_of, to_tell, total_in, total_of, wanted, weight_told}
use Rattle.told_pairs.proofs.Keys.{by_bytes, key_itself}
use Rattle.told_pairs.proofs.Saying.{weight_of_others}

-- ---- what links are to be told of other pairs

pub becomes_tell : (pair : Pair) (held : Option ℕ) (by : ℕ → ℕ) (old new : Wants) → Becomes pair held by old new → (l : ℕ) (p : Pair) → same_key pair p ≡ false → to_tell l p new ≡ to_tell l p old
becomes_tell pair held by old new h l p other =
    ap₂ (λ (m n : ℕ). weight_told p.queue (m - n)) {y = total_of p old} (h.totals p ∙ rw other refl) (h.shares l p ∙ rw other refl)

pub tidied_tell : (old new : Wants) → IsTidied old new → (l : ℕ) (p : Pair) → to_tell l p new ≡ to_tell l p old
tidied_tell old new h l p = elim (h p) [
  | inl same ↦ ap (λ (o : Option Weight). weight_told p.queue (total_in o - share_in l o)) same
  | inr none ↦
      let z = none.0 in
      let left : 0 ≡ total_of p old - share_of l p old = omega (arith, z) in
      ap (λ (o : Option Weight). weight_told p.queue (total_in o - share_in l o)) none.1 ∙ ap (λ (n : ℕ). weight_told p.queue n) left
]

-- ---- sums

held_is : (link : ℕ) (h : Holder) → is_held (holding h) link ≡ is_link link h
held_is link (Client conn sid) = refl
held_is link (Link conn) = refl
held_is link Inner = refl

for_is : (p : Pair) (s : Subscription) → is_for p s ≡ (crosses s.pattern && same_key (pair_of s) p)
for_is p s = ap (λ (b : Bool). crosses s.pattern && b) (sym (by_bytes (pair_of s) p))

wanted_cons : (p : Pair) (s : Subscription) (ss : List Subscription) → wanted p (s ∷ ss) ≡ cond (crosses s.pattern && same_key (pair_of s) p) s.weight 0 + wanted p ss
wanted_cons p s ss = sum_by-cons (λ (x : Subscription). cond (is_for p x) x.weight 0) s ss ∙ ap (λ (b : Bool). cond b s.weight 0 + wanted p ss) (for_is p s)

own_cons : (link : ℕ) (p : Pair) (s : Subscription) (ss : List Subscription) → own link p (s ∷ ss) ≡ cond ((crosses s.pattern && same_key (pair_of s) p) && is_held (holding s.holder) link) s.weight 0 + own link p ss
own_cons link p s ss =
    sum_by-cons (λ (x : Subscription). cond (is_own link p x) x.weight 0) s ss
    ∙ ap₂ (λ (b c : Bool). cond (b && c) s.weight 0 + own link p ss) (for_is p s) (sym (held_is link s.holder))

weight_most : (s : Subscription) → is_weight s.weight ≡ true → s.weight ≤ max_weight
weight_most s w = let p = (and_parts (ltb 0 s.weight) (leb s.weight max_weight) w).1 in grind (arith, p)

weight_some : (s : Subscription) → is_weight s.weight ≡ true → 1 ≤ s.weight
weight_some s w = let p = (and_parts (ltb 0 s.weight) (leb s.weight max_weight) w).0 in grind (arith, p)

cond_most : (b : Bool) (n m : ℕ) → n ≤ m → cond b n 0 ≤ m
cond_most true n m h = h
cond_most false n m h = omega arith

wanted_most : (p : Pair) (ss : List Subscription) → list_all (λ s. is_weight s.weight) ss ≡ true → wanted p ss ≤ 65536 * length ss
wanted_most p [] h = omega arith
wanted_most p (s ∷ ss) h =
    let w = and_parts (is_weight s.weight) (list_all (λ x. is_weight x.weight) ss) h in
    let one = wanted_cons p s ss in
    let rest = wanted_most p ss w.1 in
    let least = cond_most (crosses s.pattern && same_key (pair_of s) p) s.weight 65536 (weight_most s w.0) in
    omega (arith, one, rest, least)

own_less : (link : ℕ) (p : Pair) (ss : List Subscription) → own link p ss ≤ wanted p ss
own_less link p ss = let e = weight_of_others link p ss in omega (arith, e)

raised_is : (b : Bool) (n w : ℕ) → n ≤ 4294967296 → w ≤ 65536 → cond b (raised w n) n ≡ cond b w 0 + n
raised_is false n w h k = omega arith
raised_is true n w h k = grind (arith, h, k)

lowered_is : (b : Bool) (n w t : ℕ) → t ≡ cond b w 0 + n → cond b (lowered w t) t ≡ n
lowered_is false n w t e = omega (arith, e)
lowered_is true n w t e = omega (arith, e)

-- ---- one more, and one less

module _ (s : Subscription) (ss : List Subscription) (old new : Wants) where
  pub of_raised : crosses s.pattern ≡ true → is_weight s.weight ≡ true → length ss < 65536 → Becomes (pair_of s) (holding s.holder) (raised s.weight) old new → IsOf ss old → IsOf (s ∷ ss) new
  of_raised out w short b h = record {
    weighed = and_from (is_weight s.weight) (list_all (λ x. is_weight x.weight) ss) w h.weighed;
    totals = λ p.
        let most_p = wanted_most p ss h.weighed in
        let known = h.totals p in
        b.totals p ∙ (raised_is (same_key (pair_of s) p) (total_of p old) s.weight (omega (arith, known, most_p, short)) (weight_most s w)
        ∙ (ap (λ (n : ℕ). cond (same_key (pair_of s) p) s.weight 0 + n) known
        ∙ sym (wanted_cons p s ss ∙ ap (λ (c : Bool). cond (c && same_key (pair_of s) p) s.weight 0 + wanted p ss) out)));
    shares = λ link p.
        let most_p = wanted_most p ss h.weighed in
        let less = own_less link p ss in
        let known = h.shares link p in
        b.shares link p ∙ (raised_is (same_key (pair_of s) p && is_held (holding s.holder) link) (share_of link p old) s.weight (omega (arith, known, most_p, less, short)) (weight_most s w)
        ∙ (ap (λ (n : ℕ). cond (same_key (pair_of s) p && is_held (holding s.holder) link) s.weight 0 + n) known
        ∙ sym (own_cons link p s ss ∙ ap (λ (c : Bool). cond ((c && same_key (pair_of s) p) && is_held (holding s.holder) link) s.weight 0 + own link p ss) out)));
  }

  pub of_lowered : crosses s.pattern ≡ true → Becomes (pair_of s) (holding s.holder) (lowered s.weight) old new → IsOf (s ∷ ss) old → IsOf ss new
  of_lowered out b h = record {
    weighed = (and_parts (is_weight s.weight) (list_all (λ x. is_weight x.weight) ss) h.weighed).1;
    totals = λ p. b.totals p ∙ lowered_is (same_key (pair_of s) p) (wanted p ss) s.weight (total_of p old) (h.totals p ∙ (wanted_cons p s ss ∙ ap (λ (c : Bool). cond (c && same_key (pair_of s) p) s.weight 0 + wanted p ss) out));
    shares = λ link p. b.shares link p ∙ lowered_is (same_key (pair_of s) p && is_held (holding s.holder) link) (own link p ss) s.weight (share_of link p old) (h.shares link p ∙ (own_cons link p s ss ∙ ap (λ (c : Bool). cond ((c && same_key (pair_of s) p) && is_held (holding s.holder) link) s.weight 0 + own link p ss) out));
  }

pub of_tidied : (ss : List Subscription) (old new : Wants) → IsTidied old new → IsOf ss old → IsOf ss new
of_tidied ss old new t h = record {
  weighed = h.weighed;
  totals = λ p. elim (t p) [
    | inl same ↦ ap total_in same ∙ h.totals p
    | inr none ↦ ap total_in none.1 ∙ (sym none.0 ∙ h.totals p)
  ];
  shares = λ link p. elim (t p) [
    | inl same ↦ ap (share_in link) same ∙ h.shares link p
    | inr none ↦
        let zero_now : share_of link p new ≡ 0 = ap (share_in link) none.1 in
        let total = none.0 in
        let known = h.totals p in
        let less = own_less link p ss in
        omega (arith, zero_now, total, known, less)
  ];
}

-- one that doesn't cross is nothing to others
module _ (s : Subscription) (ss : List Subscription) (wants : Wants) (in_ : crosses s.pattern ≡ false) where
  same_wanted : (p : Pair) → wanted p (s ∷ ss) ≡ wanted p ss
  same_wanted p = wanted_cons p s ss ∙ ap (λ (c : Bool). cond (c && same_key (pair_of s) p) s.weight 0 + wanted p ss) in_ ∙ omega arith

  same_own : (link : ℕ) (p : Pair) → own link p (s ∷ ss) ≡ own link p ss
  same_own link p = own_cons link p s ss ∙ ap (λ (c : Bool). cond ((c && same_key (pair_of s) p) && is_held (holding s.holder) link) s.weight 0 + own link p ss) in_ ∙ omega arith

  pub of_inward : is_weight s.weight ≡ true → IsOf ss wants → IsOf (s ∷ ss) wants
  of_inward w h = record {
    weighed = and_from (is_weight s.weight) (list_all (λ x. is_weight x.weight) ss) w h.weighed;
    totals = λ p. h.totals p ∙ sym (same_wanted p);
    shares = λ link p. h.shares link p ∙ sym (same_own link p);
  }

  pub without_inward : IsOf (s ∷ ss) wants → IsOf ss wants
  without_inward h = record {
    weighed = (and_parts (is_weight s.weight) (list_all (λ x. is_weight x.weight) ss) h.weighed).1;
    totals = λ p. h.totals p ∙ same_wanted p;
    shares = λ link p. h.shares link p ∙ same_own link p;
  }

-- ---- another weight

reweighed_is : (b : Bool) (n before w t : ℕ) → t ≡ cond b before 0 + n → n ≤ 4294967296 → w ≤ 65536 → cond b (reweighed before w t) t ≡ cond b w 0 + n
reweighed_is false n before w t e h k = omega (arith, e)
reweighed_is true n before w t e h k = let z : t - before ≡ n = omega (arith, e) in ap (raised w) z ∙ raised_is true n w h k

-- the subscription with another weight
abbrev pub with_weight : Subscription → ℕ → Subscription
with_weight s w = record s { weight = w }

has_weight_by : (s : Subscription) (ss : List Subscription) (old : Wants) → crosses s.pattern ≡ true → IsOf (s ∷ ss) old → HasWeight (pair_of s) (holding s.holder) old
has_weight_by s ss old out h = by (holding s.holder) refl where
  some : 1 ≤ s.weight
  some = weight_some s ((and_parts (is_weight s.weight) (list_all (λ x. is_weight x.weight) ss) h.weighed).0)

  itself : (crosses s.pattern && same_key (pair_of s) (pair_of s)) ≡ true
  itself = rw (out, key_itself (pair_of s)) refl

  total : 0 < total_of (pair_of s) old
  total =
      let e : total_of (pair_of s) old ≡ s.weight + wanted (pair_of s) ss = h.totals (pair_of s) ∙ (wanted_cons (pair_of s) s ss ∙ ap (λ (b : Bool). cond b s.weight 0 + wanted (pair_of s) ss) itself) in
      let least = some in
      omega (arith, e, least)

  by : (held : Option ℕ) → holding s.holder ≡ held → HasWeight (pair_of s) held old
  by None q = total
  by (Some link) q =
      let mine : is_held (holding s.holder) link ≡ true = ap (λ (o : Option ℕ). is_held o link) q ∙ eq-eqb link link refl in
      let e : share_of link (pair_of s) old ≡ s.weight + own link (pair_of s) ss = h.shares link (pair_of s) ∙ (own_cons link (pair_of s) s ss ∙ ap (λ (b : Bool). cond b s.weight 0 + own link (pair_of s) ss) {y = true} (rw (itself, mine) refl)) in
      let least = some in
      (total, omega (arith, e, least))

module _ (s : Subscription) (w : ℕ) (ss : List Subscription) (old new : Wants) where
  pub of_reweighed : crosses s.pattern ≡ true → is_weight w ≡ true → length ss < 65536 → (HasWeight (pair_of s) (holding s.holder) old → Becomes (pair_of s) (holding s.holder) (reweighed s.weight w) old new) → IsOf (s ∷ ss) old → IsOf (with_weight s w ∷ ss) new
  of_reweighed out ww short becomes h =
      let b = becomes (has_weight_by s ss old out h) in
      let rest = (and_parts (is_weight s.weight) (list_all (λ x. is_weight x.weight) ss) h.weighed).1 in
      record {
        weighed = and_from (is_weight w) (list_all (λ x. is_weight x.weight) ss) ww rest;
        totals = λ p.
            let most_p = wanted_most p ss rest in
            b.totals p ∙ (reweighed_is (same_key (pair_of s) p) (wanted p ss) s.weight w (total_of p old) (h.totals p ∙ (wanted_cons p s ss ∙ ap (λ (c : Bool). cond (c && same_key (pair_of s) p) s.weight 0 + wanted p ss) out)) (omega (arith, most_p, short)) (weight_most (with_weight s w) ww)
            ∙ sym (wanted_cons p (with_weight s w) ss ∙ ap (λ (c : Bool). cond (c && same_key (pair_of s) p) w 0 + wanted p ss) out));
        shares = λ link p.
            let most_p = wanted_most p ss rest in
            let less = own_less link p ss in
            b.shares link p ∙ (reweighed_is (same_key (pair_of s) p && is_held (holding s.holder) link) (own link p ss) s.weight w (share_of link p old) (h.shares link p ∙ (own_cons link p s ss ∙ ap (λ (c : Bool). cond ((c && same_key (pair_of s) p) && is_held (holding s.holder) link) s.weight 0 + own link p ss) out)) (omega (arith, most_p, less, short)) (weight_most (with_weight s w) ww)
            ∙ sym (own_cons link p (with_weight s w) ss ∙ ap (λ (c : Bool). cond ((c && same_key (pair_of s) p) && is_held (holding s.holder) link) w 0 + own link p ss) out));
      }

  pub inward_reweighed : crosses s.pattern ≡ false → is_weight w ≡ true → IsOf (s ∷ ss) old → IsOf (with_weight s w ∷ ss) old
  inward_reweighed in_ ww h = of_inward (with_weight s w) ss old in_ ww (without_inward s ss old in_ h)
