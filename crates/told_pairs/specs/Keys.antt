-- The order of pairs of pattern and queue.
use Rattle.std.specs.Prelude.{◌≡◌, ℕ, Bool, List, Option, None, Some, refl}
use Rattle.std.specs.Cmp.{IsTotalOrder, then_total, on_total}
use Rattle.std.specs.Cmp.Lexicographic.{nat_list_cmp_total}
use Rattle.std.specs.Ordering.{is_eq, is_lt, is_gt, ordering_reverse}
use Rattle.std.specs.declared.cmp.Ordering.{Ordering}
use Rattle.std.specs.declared.cmp.Ordering.TheVariants.{Less, Equal}
use Rattle.interest_list.specs.Orders.{queue_cmp}
use Rattle.interest_list.specs.Lists.{pair_cmp}
use Rattle.told_pairs.specs.declared.pair.Pair.{Pair}
use mathlib.Core.Path.{ap}
use mathlib.Core.Bool.{true≢false}

-- by pattern and queue, in byte order
abbrev pub key_cmp : Pair → Pair → Ordering
key_cmp a b = pair_cmp a.pattern a.queue b.pattern b.queue

-- the same pair
abbrev pub same_key : Pair → Pair → Bool
same_key a b = is_eq (key_cmp a b)

-- ---- it is an order

queues_turned : (a b : Option (List ℕ)) → queue_cmp a b ≡ ordering_reverse (queue_cmp b a)
queues_turned None None = refl
queues_turned None (Some b) = refl
queues_turned (Some a) None = refl
queues_turned (Some a) (Some b) = nat_list_cmp_total.antisymm a b

queues_chain : (a b c : Option (List ℕ)) → queue_cmp a b ≡ Less → queue_cmp b c ≡ Less → queue_cmp a c ≡ Less
queues_chain None None c e k = k
queues_chain None (Some b) None e k = absurd (true≢false (ap is_gt k))
queues_chain None (Some b) (Some c) e k = refl
queues_chain (Some a) None c e k = absurd (true≢false (ap is_gt e))
queues_chain (Some a) (Some b) None e k = absurd (true≢false (ap is_gt k))
queues_chain (Some a) (Some b) (Some c) e k = nat_list_cmp_total.trans a b c e k

queues_alike : (a b c : Option (List ℕ)) → queue_cmp a b ≡ Equal → queue_cmp a c ≡ queue_cmp b c
queues_alike None None c e = refl
queues_alike None (Some b) c e = absurd (true≢false (ap is_lt e))
queues_alike (Some a) None c e = absurd (true≢false (ap is_gt e))
queues_alike (Some a) (Some b) None e = refl
queues_alike (Some a) (Some b) (Some c) e = nat_list_cmp_total.congr a b c e

queues_total : IsTotalOrder queue_cmp
queues_total = record { antisymm = queues_turned; trans = queues_chain; congr = queues_alike }

pub keys_total : IsTotalOrder key_cmp
keys_total = then_total (on_total (λ (k : Pair). k.pattern) nat_list_cmp_total) (on_total (λ (k : Pair). k.queue) queues_total)
