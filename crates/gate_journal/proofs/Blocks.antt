-- Lists of records, one after another.
use Rattle.std.proofs.Common.{◌≡◌, ◌≢◌, ℕ, ◌+◌, ◌≤◌, ◌<◌, ◌^◌, List, [], ◌∷◌, ◌++◌, length, get_or, take, min, All, true, refl, ap, ◌∙◌, sym, arith, append_assoc, append-nil, length-append}
use Rattle.std.specs.Prelude.{zero, suc}
use Rattle.std.proofs.Math.Seq.{take-suc}
use Rattle.std.proofs.lemmas.List.{length-take, get_or-take}
use Rattle.std.proofs.lemmas.Bool.Decides.{nat_tests}
use Rattle.std.specs.Int.{w32, to_le_bytes}
use Rattle.gate_journal.specs.Areas.{head, block, blocks, end_of, IsBody, IsArea}

-- a record behind its gate
abbrev pub behind_gate : List ℕ → List ℕ
behind_gate body = to_le_bytes w32 (length body) ++ body

pub blocks-push : (bs : List (List ℕ)) (b : List ℕ) → blocks (bs ++ b ∷ []) ≡ blocks bs ++ 1 ∷ behind_gate b
blocks-push [] b = append-nil (block b)
blocks-push (a ∷ bs) b = ap (λ (l : List ℕ). block a ++ l) (blocks-push bs b) ∙ sym (append_assoc (block a) (blocks bs) (1 ∷ behind_gate b))

-- the bytes of an area that counts before its closed gate
abbrev pub front_of : ℕ → List (List ℕ) → List ℕ
front_of generation bs = head 1 generation ++ blocks bs

pub front-push : (g : ℕ) (bs : List (List ℕ)) (b : List ℕ) → front_of g (bs ++ b ∷ []) ≡ front_of g bs ++ 1 ∷ behind_gate b
front-push g bs b = ap (λ (l : List ℕ). head 1 g ++ l) (blocks-push bs b) ∙ sym (append_assoc (head 1 g) (blocks bs) (1 ∷ behind_gate b))

pub length-front : (g : ℕ) (bs : List (List ℕ)) → length (front_of g bs) ≡ end_of bs
length-front g bs = omega arith

pub end-push : (bs : List (List ℕ)) (b : List ℕ) → end_of (bs ++ b ∷ []) ≡ end_of bs + 5 + length b
end-push bs b = omega (arith, ap length (blocks-push bs b), length-append (blocks bs) (1 ∷ behind_gate b))

-- one body more of a list moves the place on by its record
pub end-step : (bs : List (List ℕ)) (k : ℕ) (b : List ℕ) → k < length bs → end_of (take (k + 1) bs) ≡ end_of (take k bs) + 5 + length (get_or bs k b)
end-step bs k b within =
    let next : k + 1 ≡ suc k = omega arith in
    ap (λ (n : ℕ). end_of (take n bs)) next ∙ ap end_of (take-suc bs k b within) ∙ end-push (take k bs) (get_or bs k b)

-- some bodies of a list end no further than all of them
pub end-take : (bs : List (List ℕ)) (k : ℕ) → end_of (take k bs) ≤ end_of bs
end-take bs zero = omega arith
end-take [] (suc k) = omega arith
end-take (b ∷ bs) (suc k) = omega (arith, end-take bs k, length-append (block b) (blocks (take k bs)), length-append (block b) (blocks bs))

-- the next body of those before an index, and where its record ends
pub end-next : (bs : List (List ℕ)) (n k : ℕ) (b : List ℕ) → k < length (take n bs) → b ≡ get_or (take n bs) k b → end_of (take (k + 1) bs) ≡ end_of (take k bs) + (5 + length b)
end-next bs n k b within is =
    let size : length (take n bs) ≡ min n (length bs) = length-take n bs in
    let same : get_or bs k b ≡ b = sym (get_or-take n bs k b (omega (arith, within, size))) ∙ sym is in
    omega (arith, end-step bs k b (omega (arith, within, size)), ap length same)

-- a front, a closed gate, anything
pub record Shut (front c : List ℕ) : Type 0 where
  pub gate : ℕ
  pub rest : List ℕ
  pub is : c ≡ front ++ gate ∷ rest
  pub closed : gate ≢ 1

pub area_shut : (g : ℕ) (bs : List (List ℕ)) (c : List ℕ) → IsArea true g bs c → Shut (front_of g bs) c
area_shut g bs c a =
    let opened : a.area_gate ≡ 1 = grind (arith, nat_tests, a.counted) in
    record { gate = a.gate; rest = a.rest; is = a.is ∙ ap (λ (k : ℕ). head k g ++ blocks bs ++ a.gate ∷ a.rest) opened; closed = a.closed refl }

pub shut_area : (g : ℕ) (bs : List (List ℕ)) (c : List ℕ) → g < 2 ^ 64 → All IsBody bs → Shut (front_of g bs) c → IsArea true g bs c
shut_area g bs c stamp legal s = record {
  area_gate = 1;
  gate = s.gate;
  rest = s.rest;
  is = s.is;
  counted = refl;
  stamp = stamp;
  legal = legal;
  closed = λ _. s.closed;
  unread = λ no. grind (arith, no);
}
