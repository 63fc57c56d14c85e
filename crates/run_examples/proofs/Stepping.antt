-- The calls of the steps in which the message is copied.
use Rattle.std.proofs.Common.{◌<◌, List, [], ◌∷◌, refl, ◌∙◌, arith}
use Rattle.nats_text.specs.Hash.{fnv1a}
use Rattle.shard_machine.specs.declared.call.ShardCall.{ShardCall}
use Rattle.shard_machine.specs.declared.call.ShardCall.TheVariants as call
use Rattle.run_soundness.specs.Shards.{ShardState}
use Rattle.run_soundness.specs.Worlds.{World, Calls}
use Rattle.world_steps.specs.declared.event.Direction.TheVariants.{ToLeaf, ToHub}
use Rattle.world_steps.specs.Links.{Site, Net, new_site, change_channel, with_frame, after_carry}
use Rattle.world_steps.specs.Nets.{IsNew}
use Rattle.run_examples.proofs.Shards.{moved, moves, quiet, pumps-quietly}
use Rattle.run_examples.proofs.Worlds.{with_shard, here, elsewhere, calls}
use Rattle.run_examples.proofs.Origin as origin
use Rattle.run_examples.proofs.Origin.{hub, leaf, orders, copies, message, ask, answer, delivery, most}
use Rattle.run_examples.proofs.Mirror as mirror
use Rattle.run_examples.proofs.Copying.{loaded, first, with_hub, with_both, made-at, made-elsewhere, k, j, below, hub-there, leaf-there}

-- ---- the shards, call by call

abbrev pub h1 : ShardState
h1 = moved (loaded hub) origin.made origin.with_stream

abbrev pub h2 : ShardState
h2 = moved h1 (quiet origin.with_stream.askers) origin.with_stream

abbrev pub h3 : ShardState
h3 = moved h2 origin.stored origin.with_message

abbrev pub h4 : ShardState
h4 = moved h3 (quiet origin.with_message.askers) origin.with_message

abbrev pub h5 : ShardState
h5 = moved h4 origin.answered origin.with_consumer

abbrev pub h6 : ShardState
h6 = moved h5 origin.delivered origin.with_delivery

abbrev pub l1 : ShardState
l1 = moved (loaded leaf) mirror.made mirror.with_mirror

abbrev pub l2 : ShardState
l2 = moved l1 (quiet mirror.with_mirror.askers) mirror.with_mirror

abbrev pub l3 : ShardState
l3 = moved l2 mirror.binds mirror.with_binding

abbrev pub l4 : ShardState
l4 = moved l3 (quiet mirror.with_binding.askers) mirror.with_binding

abbrev pub l5 : ShardState
l5 = moved l4 mirror.takes mirror.with_copy

abbrev pub l6 : ShardState
l6 = moved l5 (quiet mirror.with_copy.askers) mirror.with_copy

-- ---- the worlds, call by call

abbrev pub w1 : World
w1 = with_shard with_both hub k h1 origin.made.reply.packets

abbrev pub w2 : World
w2 = with_shard w1 hub k h2 []

abbrev pub w3 : World
w3 = with_shard w2 hub k h3 origin.stored.reply.packets

abbrev pub w4 : World
w4 = with_shard w3 hub k h4 []

abbrev pub w5 : World
w5 = with_shard w4 leaf j l1 mirror.made.reply.packets

abbrev pub w6 : World
w6 = with_shard w5 leaf j l2 []

abbrev pub w7 : World
w7 = with_shard w6 hub k h5 origin.answered.reply.packets

abbrev pub w8 : World
w8 = with_shard w7 hub k h6 origin.delivered.reply.packets

abbrev pub w9 : World
w9 = with_shard w8 leaf j l3 mirror.binds.reply.packets

abbrev pub w10 : World
w10 = with_shard w9 leaf j l4 []

abbrev pub w11 : World
w11 = with_shard w10 leaf j l5 mirror.takes.reply.packets

abbrev pub w12 : World
w12 = with_shard w11 leaf j l6 []

abbrev pub pump_hub : ShardCall
pump_hub = call.Pump orders most 0

abbrev pub pump_leaf : ShardCall
pump_leaf = call.Pump copies most 0

below-k : k < 8
below-k = below (fnv1a orders)

below-j : j < 8
below-j = below (fnv1a copies)

pub c1 : Calls with_both hub k (call.Create origin.origin 0) origin.made.reply w1
c1 = calls with_both hub k (call.Create origin.origin 0) origin.made.reply (loaded hub) h1 hub-there below-k refl
    (made-elsewhere with_hub leaf hub k refl ∙ made-at first hub k below-k)
    (moves (loaded hub) (call.Create origin.origin 0) origin.made origin.with_stream origin.makes)

pub c2 : Calls w1 hub k pump_hub (quiet origin.with_stream.askers).reply w2
c2 = calls w1 hub k pump_hub (quiet origin.with_stream.askers).reply h1 h2 hub-there below-k refl
    (here with_both hub k h1 origin.made.reply.packets)
    (moves h1 pump_hub (quiet origin.with_stream.askers) origin.with_stream (pumps-quietly hub origin.with_stream.image origin.with_stream.askers origin.with_stream.end orders origin.known_made (origin.first-live origin.origin)))

pub c3 : Calls w2 hub k (call.Publish orders message 0) origin.stored.reply w3
c3 = calls w2 hub k (call.Publish orders message 0) origin.stored.reply h2 h3 hub-there below-k refl
    (here w1 hub k h2 [])
    (moves h2 (call.Publish orders message 0) origin.stored origin.with_message origin.stores)

pub c4 : Calls w3 hub k pump_hub (quiet origin.with_message.askers).reply w4
c4 = calls w3 hub k pump_hub (quiet origin.with_message.askers).reply h3 h4 hub-there below-k refl
    (here w2 hub k h3 origin.stored.reply.packets)
    (moves h3 pump_hub (quiet origin.with_message.askers) origin.with_message (pumps-quietly hub origin.with_message.image origin.with_message.askers origin.with_message.end orders origin.known_stored origin.stored-live))

pub c5 : Calls w4 leaf j (call.Create mirror.mirror 0) mirror.made.reply w5
c5 = calls w4 leaf j (call.Create mirror.mirror 0) mirror.made.reply (loaded leaf) l1 leaf-there below-j refl
    (elsewhere w3 hub k h4 [] leaf j refl ∙ (elsewhere w2 hub k h3 origin.stored.reply.packets leaf j refl ∙ (elsewhere w1 hub k h2 [] leaf j refl ∙ (elsewhere with_both hub k h1 origin.made.reply.packets leaf j refl ∙ made-at with_hub leaf j below-j))))
    (moves (loaded leaf) (call.Create mirror.mirror 0) mirror.made mirror.with_mirror mirror.makes)

pub c6 : Calls w5 leaf j pump_leaf (quiet mirror.with_mirror.askers).reply w6
c6 = calls w5 leaf j pump_leaf (quiet mirror.with_mirror.askers).reply l1 l2 leaf-there below-j refl
    (here w4 leaf j l1 mirror.made.reply.packets)
    (moves l1 pump_leaf (quiet mirror.with_mirror.askers) mirror.with_mirror (pumps-quietly leaf mirror.with_mirror.image mirror.with_mirror.askers mirror.with_mirror.end copies mirror.known_made (origin.first-live mirror.mirror)))

pub c7 : Calls w6 hub k (call.MakeConsumer ask 0) origin.answered.reply w7
c7 = calls w6 hub k (call.MakeConsumer ask 0) origin.answered.reply h4 h5 hub-there below-k ((0, omega arith, refl), refl, refl)
    (elsewhere w5 leaf j l2 [] hub k refl ∙ (elsewhere w4 leaf j l1 mirror.made.reply.packets hub k refl ∙ here w3 hub k h4 []))
    (moves h4 (call.MakeConsumer ask 0) origin.answered origin.with_consumer origin.serves-it)

pub c8 : Calls w7 hub k pump_hub origin.delivered.reply w8
c8 = calls w7 hub k pump_hub origin.delivered.reply h5 h6 hub-there below-k refl
    (here w6 hub k h5 origin.answered.reply.packets)
    (moves h5 pump_hub origin.delivered origin.with_delivery origin.delivers)

pub c9 : Calls w8 leaf j (call.Heard answer 0) mirror.binds.reply w9
c9 = calls w8 leaf j (call.Heard answer 0) mirror.binds.reply l2 l3 leaf-there below-j ((1, omega arith, refl), (refl, refl))
    (elsewhere w7 hub k h6 origin.delivered.reply.packets leaf j refl ∙ (elsewhere w6 hub k h5 origin.answered.reply.packets leaf j refl ∙ here w5 leaf j l2 []))
    (moves l2 (call.Heard answer 0) mirror.binds mirror.with_binding mirror.takes-answer)

pub c10 : Calls w9 leaf j pump_leaf (quiet mirror.with_binding.askers).reply w10
c10 = calls w9 leaf j pump_leaf (quiet mirror.with_binding.askers).reply l3 l4 leaf-there below-j refl
    (here w8 leaf j l3 mirror.binds.reply.packets)
    (moves l3 pump_leaf (quiet mirror.with_binding.askers) mirror.with_binding (pumps-quietly leaf mirror.with_binding.image mirror.with_binding.askers mirror.with_binding.end copies mirror.known_bound mirror.bound-live))

pub c11 : Calls w10 leaf j (call.Heard delivery 0) mirror.takes.reply w11
c11 = calls w10 leaf j (call.Heard delivery 0) mirror.takes.reply l4 l5 leaf-there below-j ((2, omega arith, refl), (refl, refl))
    (here w9 leaf j l4 [])
    (moves l4 (call.Heard delivery 0) mirror.takes mirror.with_copy mirror.takes-delivery)

pub c12 : Calls w11 leaf j pump_leaf (quiet mirror.with_copy.askers).reply w12
c12 = calls w11 leaf j pump_leaf (quiet mirror.with_copy.askers).reply l5 l6 leaf-there below-j refl
    (here w10 leaf j l5 mirror.takes.reply.packets)
    (moves l5 pump_leaf (quiet mirror.with_copy.askers) mirror.with_copy (pumps-quietly leaf mirror.with_copy.image mirror.with_copy.askers mirror.with_copy.end copies mirror.known_copied mirror.copied-live))

-- ---- the nets

abbrev pub without_nodes : Net
without_nodes = record { world = first; sites = [] }

abbrev pub hub_alone : Net
hub_alone = record { world = with_hub; sites = new_site hub ∷ [] }

-- nothing is under way
abbrev pub still : List Site
still = new_site hub ∷ new_site leaf ∷ []

-- the mirror's question is
abbrev pub asking : List Site
asking = change_channel leaf ToHub (with_frame ask) still

-- the answer is, and the message
abbrev pub answering : List Site
answering = change_channel leaf ToLeaf (with_frame delivery) (change_channel leaf ToLeaf (with_frame answer) (change_channel leaf ToHub after_carry asking))

abbrev pub at_end : List Site
at_end = change_channel leaf ToLeaf after_carry (change_channel leaf ToLeaf after_carry answering)

abbrev pub net : World → List Site → Net
net w sites = record { world = w; sites = sites }

pub is-new : IsNew without_nodes
is-new = record { sites = refl; nodes = refl; bag = refl; unused = λ n k. record { held = refl; log = refl; ever = refl } }
