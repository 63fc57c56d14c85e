-- More digits never make a number smaller.
use Rattle.std.proofs.Common.{◌≡◌, ◌≤◌, ◌+◌, ◌-◌, ◌*◌, ◌^◌, ℕ, List, [], ◌∷◌, Bool, true, false, ◌&&◌, nat_lt, cond, None, Some, refl, sym, ap, arith, subst}
use Rattle.std.specs.List.{list_all}
use Rattle.std.proofs.lemmas.Bool.{le-ltb}
use Rattle.nats_text.specs.Numbers.{is_digit, value_after, number_after}

grows : (n : ℕ) (bs : List ℕ) → n ≤ value_after n bs
grows n [] = omega arith
grows n (b ∷ bs) = omega (arith, grows (n * 10 + (b - 48)) bs)

above : (n v : ℕ) → 2 ^ 63 ≤ n → n ≤ v → nat_lt v (2 ^ 63) ≡ false
above n v big more = le-ltb v (2 ^ 63) (omega arith)

and_false : (b : Bool) → (b && false) ≡ false
and_false true = refl
and_false false = refl

-- a digit that brings the number to 2^63 or more
pub too_large : (n b : ℕ) (bs : List ℕ) → 2 ^ 63 ≤ n * 10 + (b - 48) → number_after n (b ∷ bs) ≡ None
too_large n b bs big =
    let m = n * 10 + (b - 48) in
    let over = above m (value_after m bs) big (grows m bs) in
    let P : Bool → Type 0 = λ v. cond (list_all is_digit (b ∷ bs) && v) (Some (value_after m bs)) None ≡ None in
    subst P (sym over) (ap (λ t. cond t (Some (value_after m bs)) None) (and_false (list_all is_digit (b ∷ bs))))
