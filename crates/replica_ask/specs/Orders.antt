-- What a packet is to an asker, by phase and packet.
use Rattle.std.specs.Prelude.{ℕ, ◌+◌, ◌-◌, ◌^◌, min, ◌==◌, nat_lt, Bool, ◌&&◌, if◌then◌else◌}
use Rattle.nats_text.specs.declared.message.Stamp.{Stamp}
use Rattle.js_wire.specs.declared.packet.Packet.{Packet}
use Rattle.js_wire.specs.declared.packet.Packet.TheVariants.{Ask, Answer as AnswerPacket, Refuse as RefusePacket, Delivery, Beat as BeatPacket, FlowAsk as FlowAskPacket, FlowReply}
use Rattle.replica_ask.specs.declared.phase.Phase.{Phase}
use Rattle.replica_ask.specs.declared.phase.Phase.TheVariants.{Idle, Asking, Bound, Stopped}
use Rattle.replica_ask.specs.declared.phase.Order.{Order}
use Rattle.replica_ask.specs.declared.phase.Order.TheVariants.{Next, Old, Foreign, Gap, Beat, FlowAsk, Answer, Refuse}

-- the boots and the counts agree
abbrev pub same_stamp : Stamp → Stamp → Bool
same_stamp a b = (a.boot == b.boot) && (a.count == b.count)

-- a delivery by its number, where `next` is awaited
abbrev pub of_delivery : ℕ → ℕ → Order
of_delivery number next = if number == next then Next else (if nat_lt number next then Old number next else Gap next number)

-- a beat by the number of the last delivery, where `next` is awaited
abbrev pub of_beat : ℕ → ℕ → Order
of_beat last_number next = if nat_lt last_number next then Beat else Gap next (min (last_number + 1) (2 ^ 64 - 1))

-- a packet to an asker that awaits the answer to an attempt
abbrev pub of_asking : Stamp → Packet → Order
of_asking asked (Ask asker attempt origin stream start filters) = Foreign
of_asking asked (AnswerPacket asker attempt consumer incarnation start) = if same_stamp attempt asked then Answer else Foreign
of_asking asked (RefusePacket asker attempt code err_code) = if same_stamp attempt asked then Refuse else Foreign
of_asking asked (Delivery asker attempt stream consumer number seq pending message) = Foreign
of_asking asked (BeatPacket asker attempt origin stream consumer last_number last_seq stalled) = Foreign
of_asking asked (FlowAskPacket asker attempt origin stream consumer token) = Foreign
of_asking asked (FlowReply origin stream consumer token) = Foreign

-- a packet to an asker that awaits the delivery `next` of a consumer
abbrev pub of_bound : Stamp → Stamp → ℕ → Packet → Order
of_bound asked bound next (Ask asker attempt origin stream start filters) = Foreign
of_bound asked bound next (AnswerPacket asker attempt consumer incarnation start) = Foreign
of_bound asked bound next (RefusePacket asker attempt code err_code) = Foreign
of_bound asked bound next (Delivery asker attempt stream consumer number seq pending message) = if same_stamp attempt asked && same_stamp consumer bound then of_delivery number next else Foreign
of_bound asked bound next (BeatPacket asker attempt origin stream consumer last_number last_seq stalled) = if same_stamp attempt asked && same_stamp consumer bound then of_beat last_number next else Foreign
of_bound asked bound next (FlowAskPacket asker attempt origin stream consumer token) = if same_stamp attempt asked && same_stamp consumer bound then FlowAsk else Foreign
of_bound asked bound next (FlowReply origin stream consumer token) = Foreign

-- What a packet is to an asker. To one that has asked nothing, and to one that is stopped, all is
-- foreign.
abbrev pub order : Phase → Packet → Order
order Idle packet = Foreign
order (Asking attempt since) packet = of_asking attempt packet
order (Bound attempt consumer next heard) packet = of_bound attempt consumer next packet
order (Stopped kept seen) packet = Foreign
