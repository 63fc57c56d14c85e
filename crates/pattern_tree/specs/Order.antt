-- The order of the subscriptions is total, as ordered sets ask of it.
use Rattle.std.specs.Prelude.{◌≡◌, ℕ, Bool, List, Option, Some, None, refl}
use Rattle.std.proofs.Common.{ap}
use Rattle.std.specs.Cmp.{IsTotalOrder, on_total, then_total, nat_cmp_total}
use Rattle.std.specs.Cmp.Lexicographic.{nat_list_cmp_total}
use Rattle.std.specs.Ordering.{is_lt, is_gt, is_eq, nat_cmp, ordering_reverse, ordering_then}
use Rattle.std.proofs.lemmas.Bool.{true≢false}
use Rattle.std.specs.declared.cmp.Ordering.{Ordering}
use Rattle.std.specs.declared.cmp.Ordering.TheVariants.{Less, Equal, Greater}
use Rattle.interest_list.specs.declared.subscription.Holder.{Holder}
use Rattle.interest_list.specs.declared.subscription.Holder.TheVariants.{Client, Link, Inner}
use Rattle.interest_list.specs.declared.subscription.Subscription.{Subscription}
use Rattle.interest_list.specs.Orders.{queue_cmp, text_cmp}
use Rattle.interest_list.specs.Lists.{holder_cmp, pair_cmp, subscription_cmp}

-- two subscriptions that can't stand side by side: the same client's with one number, the same link's with one
-- pattern and queue, the node's with one pattern
abbrev pub is_same : Subscription → Subscription → Bool
is_same a b = is_eq (subscription_cmp a b)

queues_turned : (a b : Option (List ℕ)) → queue_cmp a b ≡ ordering_reverse (queue_cmp b a)
queues_turned None None = refl
queues_turned None (Some b) = refl
queues_turned (Some a) None = refl
queues_turned (Some a) (Some b) = nat_list_cmp_total.antisymm a b

queues_chain : (a b c : Option (List ℕ)) → queue_cmp a b ≡ Less → queue_cmp b c ≡ Less → queue_cmp a c ≡ Less
queues_chain None None c e k = k
queues_chain None (Some b) None e k = absurd (true≢false (ap is_gt k))
queues_chain None (Some b) (Some c) e k = refl
queues_chain (Some a) None c e k = absurd (true≢false (ap is_gt e))
queues_chain (Some a) (Some b) None e k = absurd (true≢false (ap is_gt k))
queues_chain (Some a) (Some b) (Some c) e k = nat_list_cmp_total.trans a b c e k

queues_alike : (a b c : Option (List ℕ)) → queue_cmp a b ≡ Equal → queue_cmp a c ≡ queue_cmp b c
queues_alike None None c e = refl
queues_alike None (Some b) c e = absurd (true≢false (ap is_lt e))
queues_alike (Some a) None c e = absurd (true≢false (ap is_gt e))
queues_alike (Some a) (Some b) None e = refl
queues_alike (Some a) (Some b) (Some c) e = nat_list_cmp_total.congr a b c e

queues_total : IsTotalOrder queue_cmp
queues_total = record { antisymm = queues_turned; trans = queues_chain; congr = queues_alike }

-- what is wanted: a pattern and a queue
abbrev Pair : Type 0
Pair = List ℕ × Option (List ℕ)

abbrev pairs : Pair → Pair → Ordering
pairs a b = pair_cmp a.0 a.1 b.0 b.1

pairs_total : IsTotalOrder pairs
pairs_total = then_total (on_total (λ (p : Pair). p.0) nat_list_cmp_total) (on_total (λ (p : Pair). p.1) queues_total)

clients_total : IsTotalOrder (λ (a b : ℕ × List ℕ). ordering_then (nat_cmp a.0 b.0) (text_cmp a.1 b.1))
clients_total = then_total (on_total (λ (p : ℕ × List ℕ). p.0) nat_cmp_total) (on_total (λ (p : ℕ × List ℕ). p.1) nat_list_cmp_total)

links_total : IsTotalOrder (λ (a b : ℕ × Pair). ordering_then (nat_cmp a.0 b.0) (pairs a.1 b.1))
links_total = then_total (on_total (λ (p : ℕ × Pair). p.0) nat_cmp_total) (on_total (λ (p : ℕ × Pair). p.1) pairs_total)

turned : (a b : Holder) (p q : Pair) → holder_cmp a b (pairs p q) ≡ ordering_reverse (holder_cmp b a (pairs q p))
turned (Client c s) (Client d t) p q = clients_total.antisymm (c, s) (d, t)
turned (Client c s) (Link d) p q = refl
turned (Client c s) Inner p q = refl
turned (Link c) (Client d t) p q = refl
turned (Link c) (Link d) p q = links_total.antisymm (c, p) (d, q)
turned (Link c) Inner p q = refl
turned Inner (Client d t) p q = refl
turned Inner (Link d) p q = refl
turned Inner Inner p q = pairs_total.antisymm p q

never : {A : Type 0} → Greater ≡ Less → A
never e = absurd (true≢false (ap is_gt e))

chain : (a b c : Holder) (p q r : Pair) → holder_cmp a b (pairs p q) ≡ Less → holder_cmp b c (pairs q r) ≡ Less → holder_cmp a c (pairs p r) ≡ Less
chain (Client x s) (Client y t) (Client z u) p q r e k = clients_total.trans (x, s) (y, t) (z, u) e k
chain (Client x s) (Client y t) (Link z) p q r e k = refl
chain (Client x s) (Client y t) Inner p q r e k = refl
chain (Client x s) (Link y) (Client z u) p q r e k = never k
chain (Client x s) (Link y) (Link z) p q r e k = refl
chain (Client x s) (Link y) Inner p q r e k = refl
chain (Client x s) Inner (Client z u) p q r e k = never k
chain (Client x s) Inner (Link z) p q r e k = refl
chain (Client x s) Inner Inner p q r e k = refl
chain (Link x) (Client y t) c p q r e k = never e
chain (Link x) (Link y) (Client z u) p q r e k = never k
chain (Link x) (Link y) (Link z) p q r e k = links_total.trans (x, p) (y, q) (z, r) e k
chain (Link x) (Link y) Inner p q r e k = refl
chain (Link x) Inner (Client z u) p q r e k = never k
chain (Link x) Inner (Link z) p q r e k = never k
chain (Link x) Inner Inner p q r e k = refl
chain Inner (Client y t) c p q r e k = never e
chain Inner (Link y) c p q r e k = never e
chain Inner Inner (Client z u) p q r e k = never k
chain Inner Inner (Link z) p q r e k = never k
chain Inner Inner Inner p q r e k = pairs_total.trans p q r e k

unlike : {A : Type 0} → Less ≡ Equal → A
unlike e = absurd (true≢false (ap is_lt e))

over : {A : Type 0} → Greater ≡ Equal → A
over e = absurd (true≢false (ap is_gt e))

alike : (a b c : Holder) (p q r : Pair) → holder_cmp a b (pairs p q) ≡ Equal → holder_cmp a c (pairs p r) ≡ holder_cmp b c (pairs q r)
alike (Client x s) (Client y t) (Client z u) p q r e = clients_total.congr (x, s) (y, t) (z, u) e
alike (Client x s) (Client y t) (Link z) p q r e = refl
alike (Client x s) (Client y t) Inner p q r e = refl
alike (Client x s) (Link y) c p q r e = unlike e
alike (Client x s) Inner c p q r e = unlike e
alike (Link x) (Client y t) c p q r e = over e
alike (Link x) (Link y) (Client z u) p q r e = refl
alike (Link x) (Link y) (Link z) p q r e = links_total.congr (x, p) (y, q) (z, r) e
alike (Link x) (Link y) Inner p q r e = refl
alike (Link x) Inner c p q r e = unlike e
alike Inner (Client y t) c p q r e = over e
alike Inner (Link y) c p q r e = over e
alike Inner Inner (Client z u) p q r e = refl
alike Inner Inner (Link z) p q r e = refl
alike Inner Inner Inner p q r e = pairs_total.congr p q r e

abbrev pair_of : Subscription → Pair
pair_of s = (s.pattern, s.queue)

-- clients by connection and number, then links by connection, pattern and queue, then the node by pattern
pub subscriptions_total : IsTotalOrder subscription_cmp
subscriptions_total = record {
  antisymm = λ a b. turned a.holder b.holder (pair_of a) (pair_of b);
  trans = λ a b c. chain a.holder b.holder c.holder (pair_of a) (pair_of b) (pair_of c);
  congr = λ a b c. alike a.holder b.holder c.holder (pair_of a) (pair_of b) (pair_of c);
}
