-- The same pair is one pair.
use Rattle.std.proofs.Common.{◌≡◌, ℕ, true, ◌&&◌, List, Option, Some, None, refl, sym, ap, ◌∙◌}
use Rattle.std.proofs.lemmas.Bool.{true≢false, and_parts}
use Rattle.std.proofs.lemmas.Map.Text.{is_eq-slice_cmp}
use Rattle.std.specs.Cmp.{both_tied, tied_itself, eq_by_cmp_equiv}
use Rattle.std.specs.Cmp.Lexicographic.{bytes_decides}
use Rattle.std.specs.Ordering.{is_eq}
use Rattle.std.specs.Str.{bytes_eq}
use Rattle.interest_list.specs.Orders.{queue_cmp, text_cmp}
use Rattle.interest_list.specs.Lists.{same_queue}
use Rattle.told_pairs.specs.declared.pair.Pair.{Pair}
use Rattle.told_pairs.specs.Keys.{same_key, keys_total}

queues_tie : (a b : Option (List ℕ)) → same_queue a b ≡ is_eq (queue_cmp a b)
queues_tie None None = refl
queues_tie None (Some b) = refl
queues_tie (Some a) None = refl
queues_tie (Some a) (Some b) = sym (is_eq-slice_cmp a b)

pub by_bytes : (a b : Pair) → same_key a b ≡ (bytes_eq a.pattern b.pattern && same_queue a.queue b.queue)
by_bytes a b = sym (both_tied (bytes_eq a.pattern b.pattern) (same_queue a.queue b.queue) (text_cmp a.pattern b.pattern) (queue_cmp a.queue b.queue) (sym (is_eq-slice_cmp a.pattern b.pattern)) (queues_tie a.queue b.queue))

queue_is : (a b : Option (List ℕ)) → same_queue a b ≡ true → a ≡ b
queue_is None None e = refl
queue_is None (Some b) e = absurd (true≢false (sym e))
queue_is (Some a) None e = absurd (true≢false (sym e))
queue_is (Some a) (Some b) e = ap Some ((bytes_decides a b).0 e)

pub key_is : (a b : Pair) → same_key a b ≡ true → a ≡ b
key_is a b e =
    let parts = and_parts (bytes_eq a.pattern b.pattern) (same_queue a.queue b.queue) (sym (by_bytes a b) ∙ e) in
    let p : a.pattern ≡ b.pattern = (bytes_decides a.pattern b.pattern).0 parts.0 in
    let q : a.queue ≡ b.queue = queue_is a.queue b.queue parts.1 in
    λ i. record { pattern = p i; queue = q i }

pub key_itself : (a : Pair) → same_key a a ≡ true
key_itself a = ap is_eq (tied_itself keys_total a)

pub key_turned : (a b : Pair) → same_key a b ≡ same_key b a
key_turned a b = (eq_by_cmp_equiv keys_total).symm a b

-- what is the same as one of two that are the same is the same as the other
pub key_alike : (a b c : Pair) → same_key a b ≡ true → same_key a c ≡ same_key b c
key_alike a b c e = (eq_by_cmp_equiv keys_total).congr a b c e
