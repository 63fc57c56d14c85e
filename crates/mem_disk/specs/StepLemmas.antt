-- Lemmas: a crash may make of a call nothing, all of it, or a torn write.
use Rattle.std.proofs.Common.{◌≡◌, ℕ, ◌+◌, ◌-◌, ◌/◌, List, ◌++◌, length, take, drop, replicate, min, inl, inr, refl, sym, ap, subst, ◌∙◌, arith, append_assoc, length-append, length-take, length-drop, take_all}
use Rattle.std.proofs.lemmas.List.{take_at, drop_at, length-replicate}
use Rattle.std.proofs.lemmas.Bool.{cases_lt}
use Rattle.std.proofs.Math.ListN.{drop_of_length-le}
use Rattle.leaf_edges.specs.Disks.{Op, wrote, cut_to, synced, overwritten, Torn, Cut}
use Rattle.mem_disk.specs.Contents.{after_op, Takes, torn_bytes, torn_op}

pub take_min : (n : ℕ) (b : List ℕ) → take (min n (length b)) b ≡ take n b
take_min n b = elim (cases_lt n (length b)) [
  | inl below ↦ ap (λ (k : ℕ). take k b) (omega arith)
  | inr above ↦
      let whole : min n (length b) ≡ length b = omega arith in
      ap (λ (k : ℕ). take k b) whole ∙ take_all (length b) b (omega arith) ∙ sym (take_all n b above)
]

pub length-overwritten : (b : List ℕ) (place : ℕ) (new : List ℕ) → length (overwritten b place new) ≡ min place (length b) + length new + (length b - (place + length new))
length-overwritten b place new =
    omega (arith, length-append (take place b ++ new) (drop (place + length new) b), length-append (take place b) new, length-take place b, length-drop (place + length new) b)

torn_none : (place count : ℕ) (b : List ℕ) → Torn place count b b
torn_none place count b = record { before = take_min place b; after = refl; no_shorter = omega arith; no_longer = omega arith }

pub overwritten_after : (b : List ℕ) (place : ℕ) (new : List ℕ) → drop (place + length new) (overwritten b place new) ≡ drop (place + length new) b
overwritten_after b place new = elim (cases_lt (length b) place) [
  | inl beyond ↦
      drop_of_length-le (overwritten b place new) {i = place + length new} (omega (arith, length-overwritten b place new, beyond))
      ∙ sym (drop_of_length-le b {i = place + length new} (omega (arith, beyond)))
  | inr within ↦ drop_at (take place b ++ new) (drop (place + length new) b) (place + length new) (omega (arith, within, length-append (take place b) new, length-take place b))
]

torn_all : (place : ℕ) (new b : List ℕ) → Torn place (length new) b (overwritten b place new)
torn_all place new b = record {
  before = ap (take (min place (length b))) (append_assoc (take place b) new (drop (place + length new) b)) ∙ take_at (take place b) (new ++ drop (place + length new) b) (min place (length b)) (length-take place b);
  after = overwritten_after b place new;
  no_shorter = omega (arith, length-overwritten b place new);
  no_longer = omega (arith, length-overwritten b place new);
}

pub length-torn_bytes : (bytes : List ℕ) → length (torn_bytes bytes) ≡ length bytes
length-torn_bytes bytes =
    let half = length bytes / 2 in
    omega (arith, length-append (take half bytes) (replicate (length bytes - half) 0xA5), length-take half bytes, length-replicate {A = ℕ} (length bytes - half) 0xA5)

torn_half : (place : ℕ) (new b : List ℕ) → Torn place (length new) b (overwritten b place (torn_bytes new))
torn_half place new b = subst (λ (n : ℕ). Torn place n b (overwritten b place (torn_bytes new))) (length-torn_bytes new) (torn_all place (torn_bytes new) b)

cut_none : (len : ℕ) (b : List ℕ) → Cut len b b
cut_none len b = record { no_shorter = omega arith; front = take_all (length b) b (omega arith) }

cut_all : (len : ℕ) (b : List ℕ) → Cut len b (take len b)
cut_all len b = record {
  no_shorter = omega (arith, length-take len b);
  front = ap (λ (k : ℕ). take k b) (length-take len b) ∙ take_min len b;
}

pub takes_none : (op : Op) (b : List ℕ) → Takes op b b
takes_none (wrote place bytes) b = torn_none place (length bytes) b
takes_none (cut_to len) b = cut_none len b
takes_none synced b = refl

pub takes_all : (op : Op) (b : List ℕ) → Takes op b (after_op b op)
takes_all (wrote place bytes) b = torn_all place bytes b
takes_all (cut_to len) b = cut_all len b
takes_all synced b = refl

pub takes_torn : (op : Op) (b : List ℕ) → Takes op b (after_op b (torn_op op))
takes_torn (wrote place bytes) b = torn_half place bytes b
takes_torn (cut_to len) b = cut_all len b
takes_torn synced b = refl
