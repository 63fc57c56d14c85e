-- Bytes that are written one piece after another.
use Rattle.std.proofs.Common.{◌≡◌, ℕ, ◌+◌, List, [], ◌∷◌, ◌++◌, length, take, drop, replicate, inl, inr, sym, ap, ◌∙◌, arith, append_assoc, append-nil, length-append, length-take, take_all}
use Rattle.std.proofs.lemmas.List.{take_at, drop-drop, length-replicate, replicate-append-replicate}
use Rattle.std.proofs.lemmas.Bool.{cases_lt}
use Rattle.std.proofs.Math.ListN.{drop_of_length-le}
use Rattle.leaf_edges.specs.Disks.{overwritten}
use Rattle.mem_disk.specs.StepLemmas.{length-overwritten, overwritten_after}

overwritten_front : (b : List ℕ) (place : ℕ) (new : List ℕ) → take (place + length new) (overwritten b place new) ≡ take place b ++ new
overwritten_front b place new = elim (cases_lt (length b) place) [
  | inl beyond ↦
      let none : drop (place + length new) b ≡ [] = drop_of_length-le b {i = place + length new} (omega (arith, beyond)) in
      take_all (place + length new) (overwritten b place new) (omega (arith, beyond, length-overwritten b place new)) ∙ ap (λ (l : List ℕ). take place b ++ new ++ l) none ∙ append-nil (take place b ++ new)
  | inr within ↦ take_at (take place b ++ new) (drop (place + length new) b) (place + length new) (omega (arith, within, length-append (take place b) new, length-take place b))
]

pub overwritten-append : (b : List ℕ) (place : ℕ) (one two : List ℕ) → overwritten (overwritten b place one) (place + length one) two ≡ overwritten b place (one ++ two)
overwritten-append b place one two =
    let behind : drop (place + length one + length two) (overwritten b place one) ≡ drop (place + length (one ++ two)) b =
    sym (drop-drop (length two) (place + length one) (overwritten b place one)) ∙ ap (drop (length two)) (overwritten_after b place one) ∙ drop-drop (length two) (place + length one) b
    ∙ ap (λ (k : ℕ). drop k b) (omega (arith, length-append one two)) in
    ap (λ (l : List ℕ). l ++ two ++ drop (place + length one + length two) (overwritten b place one)) (overwritten_front b place one)
    ∙ ap (λ (l : List ℕ). take place b ++ one ++ two ++ l) behind ∙ ap (λ (l : List ℕ). l ++ drop (place + length (one ++ two)) b) (append_assoc (take place b) one two)

-- no byte of a kind yet
pub fill_none : (b : List ℕ) (place : ℕ) (front : List ℕ) (n byte : ℕ) → n ≡ 0 → overwritten b place front ≡ overwritten b place (front ++ replicate n byte)
fill_none b place front n byte none = ap (overwritten b place) (sym (ap (λ (k : ℕ). front ++ replicate k byte) none ∙ append-nil front))

-- one byte more of the same kind
pub fill_more : (b : List ℕ) (place : ℕ) (front : List ℕ) (n more at byte : ℕ) → more ≡ n + 1 → at ≡ place + (length front + n)
    → overwritten (overwritten b place (front ++ replicate n byte)) at (byte ∷ []) ≡ overwritten b place (front ++ replicate more byte)
fill_more b place front n more at byte next here =
    let written = front ++ replicate n byte in
    let behind : at ≡ place + length written = omega (arith, here, length-append front (replicate n byte), length-replicate n byte) in
    ap (λ (k : ℕ). overwritten (overwritten b place written) k (byte ∷ [])) behind ∙ overwritten-append b place written (byte ∷ [])
    ∙ ap (overwritten b place) (append_assoc front (replicate n byte) (byte ∷ []) ∙ ap (λ (l : List ℕ). front ++ l) (replicate-append-replicate n 1 byte ∙ ap (λ (k : ℕ). replicate k byte) (sym next)))
