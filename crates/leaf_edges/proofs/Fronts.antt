-- A list that is read or written piece by piece.
use Rattle.std.proofs.Common.{◌≡◌, ℕ, ◌+◌, ◌-◌, ◌≤◌, ◌<◌, List, [], ◌++◌, length, take, drop, min, sym, ap, subst, ◌∙◌, arith, append_assoc}
use Rattle.std.proofs.lemmas.List.{take-append-drop, take_rest, length-take-le, length-drop, drop-drop}
use Rattle.std.proofs.Math.ListN.{drop_of_length-le}
use lib.Seq.{take-append_seam}

-- the front grows by what was taken of the rest
pub front_grows : (bytes front rest : List ℕ) (n : ℕ) → bytes ≡ front ++ rest → bytes ≡ (front ++ take n rest) ++ take (length rest - n) (drop n rest)
front_grows bytes front rest n e = rw (take_rest rest n, append_assoc, take-append-drop) e

-- what is left is what was read into the front of a buffer, and what follows it
pub front_read : (all left bytes over : List ℕ) (place n : ℕ) → left ≡ drop place all → n ≤ length left → bytes ≡ take n left
    → drop place all ≡ take n (bytes ++ over) ++ drop (place + n) all
front_read all left bytes over place n here fits same =
    let len : length bytes ≡ n = rw same (length-take-le n left fits) in
    sym here ∙ sym (take-append-drop n left) ∙ ap (λ l. l ++ drop n left) (sym same ∙ sym (subst (λ k. take k (bytes ++ over) ≡ bytes) len (take-append_seam bytes over)))
    ∙ ap (λ l. take n (bytes ++ over) ++ l) (ap (drop n) here ∙ drop-drop n place all)

-- nothing read into a buffer with room is the end
pub end_read : (all left : List ℕ) (place n room : ℕ) → left ≡ drop place all → n ≡ min (length left) room → n ≡ 0 → 0 < room → drop (place + n) all ≡ []
end_read all left place n room here count none some =
    drop_of_length-le all {i = place + n} (omega (arith, length-drop place all, ap length here))
