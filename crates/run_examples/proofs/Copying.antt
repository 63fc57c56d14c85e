-- The run in which the message is copied.
use Rattle.std.proofs.Common.{◌≡◌, ℕ, zero, suc, ◌<◌, ◌%◌, ltb, Bool, true, false, cond, ◌&&◌, List, [], ◌∷◌, ◌++◌, refl, sym, ap, ◌∙◌, subst, arith, ◌⊎◌, inl, inr}
use Rattle.std.specs.Prelude.{Contains, get_or}
use Rattle.std.specs.Str.{bytes_eq}
use Rattle.std.specs.Cmp.Lexicographic.{bytes_decides}
use Rattle.std.proofs.lemmas.Bool.{and_parts, ltb-true, ltb-false}
use Rattle.nats_text.specs.Hash.{fnv1a}
use Rattle.shard_machine.specs.declared.call.ShardCall.TheVariants as call
use Rattle.shard_machine.specs.Images.{live_in}
use Rattle.run_soundness.specs.Shards.{ShardState, LoadsOn, empty_held}
use Rattle.run_soundness.specs.Worlds.{World, Calls, Begins, IsEmpty, shard_of}
use Rattle.run_examples.specs.Copied.{CopiedMessage, Replies}
use Rattle.run_examples.proofs.Shards.{moved, moves}
use Rattle.run_examples.proofs.Worlds.{with_shard, here, elsewhere, calls}
use Rattle.run_examples.proofs.Origin as origin
use Rattle.run_examples.proofs.Origin.{hub, leaf, orders, copies, message, ask, answer, delivery, most, opened, opening}
use Rattle.run_examples.proofs.Mirror as mirror

-- ---- two nodes are made

abbrev pub never : List ℕ → ShardState
never n = record { held = empty_held n 17; log = []; ever = [] }

abbrev pub loaded : List ℕ → ShardState
loaded n = record { held = opened n; log = [] ++ opening; ever = [] }

abbrev pub first : World
first = record { nodes = []; joined = λ n. true; shard = λ n k. never n; bag = [] }

starts-empty : IsEmpty first
starts-empty = record { nodes = refl; bag = refl; shards = λ n k. record { end = 17; held = refl; log = refl; ever = refl } }

-- the world once a node was made
abbrev pub with_node : World → List ℕ → World
with_node w node = record { nodes = w.nodes ++ node ∷ []; joined = w.joined; shard = λ n k. cond (bytes_eq n node && ltb k 8) (loaded node) (w.shard n k); bag = w.bag }

one-of-eight : (node : List ℕ) (k : ℕ) → k < 8 → (bytes_eq node node && ltb k 8) ≡ true
one-of-eight node k lt = by (bytes_eq node node) (ltb k 8) ((bytes_decides node node).1 refl) refl
  where
    by : (a b : Bool) → a ≡ true → ltb k 8 ≡ b → (a && b) ≡ true
    by true true s e = refl
    by true false s e = absurd (let q = ltb-false k 8 e in omega arith)
    by false b s e = absurd (cc)

pub made-at : (w : World) (node : List ℕ) (k : ℕ) → k < 8 → (with_node w node).shard node k ≡ loaded node
made-at w node k lt = ap (λ b. cond b (loaded node) (w.shard node k)) (one-of-eight node k lt)

pub made-elsewhere : (w : World) (node n : List ℕ) (k : ℕ) → bytes_eq n node ≡ false → (with_node w node).shard n k ≡ w.shard n k
made-elsewhere w node n k e = ap (λ b. cond (b && ltb k 8) (loaded node) (w.shard n k)) e

pub begins : (w : World) (node : List ℕ) → (Contains w.nodes node → ⊥) → ((k : ℕ) → w.shard node k ≡ never node) → Begins w node (with_node w node)
begins w node new_name unused = record {
  new_name = new_name;
  shards = λ k lt. subst (λ (s : ShardState). LoadsOn (w.shard node k) s) (sym (made-at w node k lt)) (subst (λ (s : ShardState). LoadsOn s (loaded node)) (sym (unused k)) (record { records = opening; loads = origin.loads node; log = refl; ever = refl }));
  others = λ n k. by n k (bytes_eq n node && ltb k 8) refl;
  bag = refl;
  nodes = refl;
  joined = λ n. inr refl;
}
  where
    by : (n : List ℕ) (k : ℕ) (b : Bool) → (bytes_eq n node && ltb k 8) ≡ b → ((n ≡ node) × (k < 8)) ⊎ (cond b (loaded node) (w.shard n k) ≡ w.shard n k)
    by n k true e = let p = and_parts (bytes_eq n node) (ltb k 8) e in inl ((bytes_decides n node).0 p.0, ltb-true k 8 p.1)
    by n k false e = inr refl

abbrev pub with_hub : World
with_hub = with_node first hub

abbrev pub with_both : World
with_both = with_node with_hub leaf

pub no-node : Contains first.nodes hub → ⊥
no-node q = (let lt : q.0 < 0 = q.1 in omega arith)

pub no-leaf : Contains with_hub.nodes leaf → ⊥
no-leaf q = by q.0 q.1 q.2
  where
    by : (n : ℕ) → n < 1 → get_or (hub ∷ []) n leaf ≡ leaf → ⊥
    by zero lt e = absurd (let z : false ≡ true = (bytes_decides hub leaf).1 e in cc)
    by (suc n) lt e = absurd (omega arith)

-- ---- the calls

abbrev pub k : ℕ
k = shard_of orders

abbrev pub j : ℕ
j = shard_of copies

pub below : (n : ℕ) → n % 8 < 8
below n = omega arith

-- the shards, call by call
abbrev made : ShardState
made = moved (loaded hub) origin.made origin.with_stream

abbrev stored : ShardState
stored = moved made origin.stored origin.with_message

abbrev answered : ShardState
answered = moved stored origin.answered origin.with_consumer

abbrev pumped : ShardState
pumped = moved answered origin.delivered origin.with_delivery

abbrev mirrored : ShardState
mirrored = moved (loaded leaf) mirror.made mirror.with_mirror

abbrev bound : ShardState
bound = moved mirrored mirror.binds mirror.with_binding

abbrev copied : ShardState
copied = moved bound mirror.takes mirror.with_copy

-- the worlds, call by call
abbrev w1 : World
w1 = with_shard with_both hub k made origin.made.reply.packets

abbrev w2 : World
w2 = with_shard w1 hub k stored origin.stored.reply.packets

abbrev w3 : World
w3 = with_shard w2 leaf j mirrored mirror.made.reply.packets

abbrev w4 : World
w4 = with_shard w3 hub k answered origin.answered.reply.packets

abbrev w5 : World
w5 = with_shard w4 leaf j bound mirror.binds.reply.packets

abbrev w6 : World
w6 = with_shard w5 hub k pumped origin.delivered.reply.packets

abbrev last : World
last = with_shard w6 leaf j copied mirror.takes.reply.packets

pub hub-there : Contains with_both.nodes hub
hub-there = (0, omega arith, refl)

pub leaf-there : Contains with_both.nodes leaf
leaf-there = (1, omega arith, refl)

call-1 : Calls with_both hub k (call.Create origin.origin 0) origin.made.reply w1
call-1 = calls with_both hub k (call.Create origin.origin 0) origin.made.reply (loaded hub) made hub-there (below (fnv1a orders)) refl
    (made-elsewhere with_hub leaf hub k refl ∙ made-at first hub k (below (fnv1a orders)))
    (moves (loaded hub) (call.Create origin.origin 0) origin.made origin.with_stream origin.makes)

call-2 : Calls w1 hub k (call.Publish orders message 0) origin.stored.reply w2
call-2 = calls w1 hub k (call.Publish orders message 0) origin.stored.reply made stored hub-there (below (fnv1a orders)) refl
    (here with_both hub k made origin.made.reply.packets)
    (moves made (call.Publish orders message 0) origin.stored origin.with_message origin.stores)

call-3 : Calls w2 leaf j (call.Create mirror.mirror 0) mirror.made.reply w3
call-3 = calls w2 leaf j (call.Create mirror.mirror 0) mirror.made.reply (loaded leaf) mirrored leaf-there (below (fnv1a copies)) refl
    (elsewhere w1 hub k stored origin.stored.reply.packets leaf j refl ∙ (elsewhere with_both hub k made origin.made.reply.packets leaf j refl ∙ made-at with_hub leaf j (below (fnv1a copies))))
    (moves (loaded leaf) (call.Create mirror.mirror 0) mirror.made mirror.with_mirror mirror.makes)

call-4 : Calls w3 hub k (call.MakeConsumer ask 0) origin.answered.reply w4
call-4 = calls w3 hub k (call.MakeConsumer ask 0) origin.answered.reply stored answered hub-there (below (fnv1a orders)) ((0, omega arith, refl), refl, refl)
    (elsewhere w2 leaf j mirrored mirror.made.reply.packets hub k refl ∙ here w1 hub k stored origin.stored.reply.packets)
    (moves stored (call.MakeConsumer ask 0) origin.answered origin.with_consumer origin.serves-it)

call-5 : Calls w4 leaf j (call.Heard answer 0) mirror.binds.reply w5
call-5 = calls w4 leaf j (call.Heard answer 0) mirror.binds.reply mirrored bound leaf-there (below (fnv1a copies)) ((1, omega arith, refl), (refl, refl))
    (elsewhere w3 hub k answered origin.answered.reply.packets leaf j refl ∙ here w2 leaf j mirrored mirror.made.reply.packets)
    (moves mirrored (call.Heard answer 0) mirror.binds mirror.with_binding mirror.takes-answer)

call-6 : Calls w5 hub k (call.Pump orders most 0) origin.delivered.reply w6
call-6 = calls w5 hub k (call.Pump orders most 0) origin.delivered.reply answered pumped hub-there (below (fnv1a orders)) refl
    (elsewhere w4 leaf j bound mirror.binds.reply.packets hub k refl ∙ here w3 hub k answered origin.answered.reply.packets)
    (moves answered (call.Pump orders most 0) origin.delivered origin.with_delivery origin.delivers)

call-7 : Calls w6 leaf j (call.Heard delivery 0) mirror.takes.reply last
call-7 = calls w6 leaf j (call.Heard delivery 0) mirror.takes.reply bound copied leaf-there (below (fnv1a copies)) ((2, omega arith, refl), (refl, refl))
    (elsewhere w5 hub k pumped origin.delivered.reply.packets leaf j refl ∙ here w4 leaf j bound mirror.binds.reply.packets)
    (moves bound (call.Heard delivery 0) mirror.takes mirror.with_copy mirror.takes-delivery)

abbrev replies : Replies
replies = record { made = origin.made.reply; stored = origin.stored.reply; mirrored = mirror.made.reply; answered = origin.answered.reply; bound = mirror.binds.reply; pumped = origin.delivered.reply; copied = mirror.takes.reply }

pub message-is-copied : CopiedMessage
message-is-copied = record {
  first = first;
  last = last;
  hub = hub;
  leaf = leaf;
  origin = origin.origin;
  mirror = mirror.mirror;
  message = message;
  ask = ask;
  answer = answer;
  delivery = delivery;
  replies = replies;
  empty = starts-empty;
  run = (with_hub, begins first hub no-node (λ k. refl), (with_both, begins with_hub leaf no-leaf (λ k. refl), (w1, call-1, (w2, call-2, (w3, call-3, (w4, call-4, (w5, call-5, (w6, call-6, (last, call-7, refl)))))))));
  made = refl;
  stored = refl;
  asks = refl;
  answers = refl;
  binds = refl;
  delivers = refl;
  copies = refl;
  known = mirror.known_copied;
  stands = ap (λ (s : ShardState). live_in s.held.image copies) (here w6 leaf j copied mirror.takes.reply.packets) ∙ mirror.copied-live;
  keeps = refl;
}
