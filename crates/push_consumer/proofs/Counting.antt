-- The parts of the counts: within their places, large enough, and of a sum of 64 bits.
use Rattle.std.proofs.Common.{◌≡◌, ℕ, zero, suc, ◌+◌, ◌-◌, ◌*◌, ◌<◌, ◌≤◌, false, Option, Some, None, List, [], ◌∷◌, ◌++◌, length, take, drop, sym, ap, ◌∙◌, arith, length-take, length-drop}
use Rattle.std.specs.Prelude.{sum}
use Rattle.std.specs.Option.{SomeIff}
use Rattle.std.proofs.lemmas.Bool.{leb-false}
use Rattle.std.proofs.lemmas.List.{drop-take, take-append-le, take_more_set}
use Rattle.std.proofs.Math.ListN.{set}
use Rattle.std.proofs.lemmas.List.Sums.{sum_by-cons, sum_by_push}
use Rattle.push_consumer.specs.declared.counts.Counts.{Counts}
use Rattle.push_consumer.specs.Counts.{progress_in, AreParts, IsSound}
use Rattle.push_consumer.specs.Progress.{is_spent, outstanding}

sum-cons : (x : ℕ) (xs : List ℕ) → sum (x ∷ xs) ≡ x + sum xs
sum-cons x xs = sum_by-cons (λ (n : ℕ). n) x xs

pub parts_push : (xs : List ℕ) (x : ℕ) → AreParts xs → 262144 ≤ x → AreParts (xs ++ x ∷ [])
parts_push [] x h le = (le, tt)
parts_push (y ∷ ys) x h le = (h.0, parts_push ys x h.1 le)

pub sum_push : (xs : List ℕ) (x : ℕ) → sum (xs ++ x ∷ []) ≡ sum xs + x
sum_push xs x = sum_by_push (λ (n : ℕ). n) xs x

pub parts_drop : (k : ℕ) (xs : List ℕ) → AreParts xs → AreParts (drop k xs)
parts_drop zero xs h = h
parts_drop (suc k) [] h = tt
parts_drop (suc k) (x ∷ xs) h = parts_drop k xs h.1

pub sum_drop : (k : ℕ) (xs : List ℕ) → sum (drop k xs) ≤ sum xs
sum_drop zero xs = omega arith
sum_drop (suc k) [] = omega arith
sum_drop (suc k) (x ∷ xs) = let ih = sum_drop k xs in let q = sum-cons x xs in omega arith

large_sum : (xs : List ℕ) → AreParts xs → 262144 * length xs ≤ sum xs
large_sum [] h = omega arith
large_sum (x ∷ xs) h = let ih = large_sum xs h.1 in let q = sum-cons x xs in let le = h.0 in omega arith

-- while the window isn't spent there is a place for one part more
pub has_place : (counts : Counts) → IsSound counts → is_spent (progress_in counts) ≡ false → counts.held < 4
has_place counts sound open_window =
    let few : outstanding (progress_in counts) < 1048576 = leb-false 1048576 (outstanding (progress_in counts)) open_window in
    let large = large_sum (take counts.held counts.parts) sound.large in
    let held : length (take counts.held counts.parts) ≡ counts.held = omega (arith, length-take counts.held counts.parts, sound.four, sound.places) in
    omega (arith, few, large, held)

-- a part more, where there is a place for it
pub pushed : (held recent : ℕ) (parts : List ℕ) → held < length parts → take (held + 1) (set parts held recent) ≡ take held parts ++ recent ∷ []
pushed held recent parts lt = take_more_set parts held recent lt

-- the parts past those that were answered are the first ones once the places are turned
pub turned : (held gone : ℕ) (parts ys : List ℕ) → length parts ≡ 4 → held ≤ 4 → gone ≤ held → ys ≡ drop gone parts ++ take gone parts → take (held - gone) ys ≡ drop gone (take held parts)
turned held gone parts ys four few le e =
    let sum : gone + (held - gone) ≡ held = omega arith in
    ap (take (held - gone)) e
    ∙ (take-append-le (held - gone) (drop gone parts) (take gone parts) (omega (arith, length-drop gone parts, four))
    ∙ (sym (drop-take gone (held - gone) parts) ∙ ap (λ n. drop gone (take n parts)) sum))

-- a sum of 64 bits, where it was found to be one
pub sum_of : (o : Option ℕ) (P : Type 0) (v n : ℕ) → SomeIff o P v → o ≡ Some n → P × (n ≡ v)
sum_of None P v n h e = absurd (cc)
sum_of (Some x) P v n h e = (h.0, (let q : n ≡ x = cc in q ∙ h.1))
