-- What a link wasn't told stays listed.
use Rattle.std.proofs.Common.{◌≡◌, ℕ, zero, suc, ◌+◌, ◌-◌, ◌≤◌, ◌<◌, Bool, true, false, cond, ◌||◌, List, [], ◌∷◌, ◌++◌, length, length-append, drop, Option, Some, inl, inr, refl, sym, ap, ap₂, ◌∙◌, subst, nat_cmp, is_eq, drop-drop, arith}
use Rattle.std.specs.List.{list_any}
use Rattle.std.proofs.lemmas.Bool.{cases_Bool, true≢false, eqb-true}
use Rattle.told_pairs.specs.declared.pair.Pair.{Pair}
use Rattle.told_pairs.specs.Keys.{same_key}
use Rattle.told_pairs.specs.Wants.{Wants, to_tell, most}
use Rattle.told_pairs.specs.Tellings.{AreCovered, IsCovered, IsNoted, IsShorter, IsPushed, IsLost, IsEnded, Marks, LinkTellings, next_change}
use Rattle.told_pairs.proofs.Keys.{key_turned}
use Rattle.told_pairs.proofs.Weights.{number_same}
use Rattle.told_pairs.proofs.LinkLists.{found}

-- ---- one link's tellings are others

module _ (wants : Wants) (changed : List Pair) (base link : ℕ) (old new : List (ℕ × LinkTellings)) (w : Option LinkTellings)
    (put : (l : ℕ) → found l new ≡ cond (is_eq (nat_cmp link l)) w (found l old)) where
  pub covered_put : ((to : LinkTellings) → w ≡ Some to → IsCovered wants changed base link to) → AreCovered wants old changed base → AreCovered wants new changed base
  covered_put here h = record {
    ends = h.ends;
    links = λ l to f. elim (cases_Bool (is_eq (nat_cmp link l))) [
      | inl same ↦ subst (λ (n : ℕ). IsCovered wants changed base n to) (eqb-true link l (sym (number_same link l) ∙ same)) (here to (sym (put l ∙ rw same refl) ∙ f))
      | inr other ↦ h.links l to (sym (put l ∙ rw other refl) ∙ f)
    ];
  }

-- ---- the list of changes

any_both : (f : Pair → Bool) (xs ys : List Pair) → list_any f (xs ++ ys) ≡ (list_any f xs || list_any f ys)
any_both f [] ys = refl
any_both f (x ∷ xs) ys = elim (cases_Bool (f x)) [
  | inl y ↦ rw y refl
  | inr n ↦ rw n (any_both f xs ys)
]

or_parts : (b c : Bool) → (b || c) ≡ false → (b ≡ false) × (c ≡ false)
or_parts false c e = (refl, e)
or_parts true c e = absurd (true≢false e)

drop_push : (n : ℕ) (xs : List Pair) (x : Pair) → n ≤ length xs → drop n (xs ++ x ∷ []) ≡ drop n xs ++ x ∷ []
drop_push zero xs x le = refl
drop_push (suc n) [] x le = absurd (omega (arith, le))
drop_push (suc n) (y ∷ xs) x le = drop_push n xs x (omega (arith, le))

module _ (wants later : Wants) (pair : Pair) (same : (l : ℕ) (p : Pair) → same_key pair p ≡ false → to_tell l p later ≡ to_tell l p wants) where
  pushed_one : (link : ℕ) (to : LinkTellings) (old new : List Pair) (base next : ℕ) → IsPushed pair old base new next → IsCovered wants old base link to → IsCovered later new next link to
  pushed_one link to old new base next m h =
      let long : length new ≡ length old + 1 = ap length m.pairs ∙ length-append old (pair ∷ []) in
      let b = m.base_stays in
      record {
        seen = λ n is. (let le = h.seen n is in omega (arith, le, long, b));
        told = λ n is listed p none.
            let le = h.seen n is in
            let from = listed.0 in
            let low : base ≤ n = omega (arith, from, b) in
            let shorter : next_change old base < most = m.numbers in
            let dropped : drop (n - next) new ≡ drop (n - base) old ++ pair ∷ [] = ap₂ (λ (k : ℕ) (l : List Pair). drop (n - k) l) b m.pairs ∙ drop_push (n - base) old pair (omega (arith, le, low)) in
            let parts = or_parts (list_any (same_key p) (drop (n - base) old)) (same_key p pair || false) (sym (any_both (same_key p) (drop (n - base) old) (pair ∷ [])) ∙ (sym (ap (list_any (same_key p)) dropped) ∙ none)) in
            let other : same_key pair p ≡ false = key_turned pair p ∙ (or_parts (same_key p pair) false parts.1).0 in
            h.told n is (low, shorter) p parts.0 ∙ sym (same link p other);
      }

  lost_one : (link : ℕ) (to : LinkTellings) (old new : List Pair) (base next : ℕ) → IsLost old base new next → IsCovered wants old base link to → IsCovered later new next link to
  lost_one link to old new base next m h =
      let b = m.base_moves in
      record {
        seen = λ n is. (let le = h.seen n is in omega (arith, le, b));
        told = λ n is listed p none. absurd (let le = h.seen n is in let from = listed.0 in omega (arith, le, from, b));
      }

  ended_one : (link : ℕ) (to : LinkTellings) (old new : List Pair) (base next : ℕ) → IsEnded old base new next → IsCovered wants old base link to → IsCovered later new next link to
  ended_one link to old new base next m h =
      let b = m.base_stays in
      let long : length new ≡ length old = ap length m.pairs in
      let all = m.numbers in
      record {
        seen = λ n is. (let le = h.seen n is in omega (arith, le, b, long));
        told = λ n is listed p none. absurd (let less = listed.1 in omega (arith, less, b, long, all));
      }

  marked : (links : List (ℕ × LinkTellings)) (old new : List Pair) (base next : ℕ) → Marks pair old base new next → AreCovered wants links old base → AreCovered later links new next
  marked links old new base next (inl m) h = record {
    ends = (let long : length new ≡ length old + 1 = ap length m.pairs ∙ length-append old (pair ∷ []) in let b = m.base_stays in let less = m.numbers in omega (arith, long, b, less));
    links = λ l to f. pushed_one l to old new base next m (h.links l to f);
  }
  marked links old new base next (inr (inl m)) h = record {
    ends = (let none : length new ≡ 0 = ap length m.pairs in let b = m.base_moves in let less = m.numbers in omega (arith, none, b, less));
    links = λ l to f. lost_one l to old new base next m (h.links l to f);
  }
  marked links old new base next (inr (inr m)) h = record {
    ends = (let long : length new ≡ length old = ap length m.pairs in let b = m.base_stays in let all = m.numbers in omega (arith, long, b, all));
    links = λ l to f. ended_one l to old new base next m (h.links l to f);
  }

length_dropped : (n : ℕ) (xs : List Pair) → n ≤ length xs → length (drop n xs) + n ≡ length xs
length_dropped zero xs le = omega arith
length_dropped (suc n) [] le = absurd (omega (arith, le))
length_dropped (suc n) (x ∷ xs) le = let r = length_dropped n xs (omega (arith, le)) in omega (arith, r)

pub shorter_covered : (wants : Wants) (links : List (ℕ × LinkTellings)) (old new : List Pair) (base next : ℕ) → IsShorter old base new next → AreCovered wants links old base → AreCovered wants links new next
shorter_covered wants links old new base next m h =
    let gone = m.0 in
    let long : length new + gone ≡ length old = ap (λ (l : List Pair). length l + gone) m.2 ∙ length_dropped gone old m.1 in
    let b = m.3 in
    record {
      ends = (let e = h.ends in omega (arith, e, long, b));
      links = λ l to f. let k = h.links l to f in record {
        seen = λ n is. (let le = k.seen n is in omega (arith, le, long, b));
        told = λ n is listed p none.
            let from = listed.0 in
            let less = listed.1 in
            let low : base ≤ n = omega (arith, from, b) in
            let dropped : drop (n - next) new ≡ drop (n - base) old = ap (λ (l : List Pair). drop (n - next) l) m.2 ∙ (drop-drop (n - next) gone old ∙ ap (λ (i : ℕ). drop i old) (omega (arith, from, b))) in
            k.told n is (low, omega (arith, less, long, b)) p (sym (ap (list_any (same_key p)) dropped) ∙ none);
      };
    }

-- a pair has changed, and the change is noted
pub noted_covered : (wants later : Wants) (pair : Pair) → ((l : ℕ) (p : Pair) → same_key pair p ≡ false → to_tell l p later ≡ to_tell l p wants)
    → (links : List (ℕ × LinkTellings)) (old new : List Pair) (base next : ℕ) → IsNoted pair old base new next → AreCovered wants links old base → AreCovered later links new next
noted_covered wants later pair same links old new base next m h = marked wants later pair same links m.kept new m.begins next m.marks (shorter_covered wants links old m.kept base m.begins m.shorter h)
