-- Where the stream of a source stands, and what it has to look at.
use Rattle.std.specs.Prelude.{◌≡◌, ℕ, false}
use Rattle.js_wire.specs.declared.packet.Packet.{Packet}
use Rattle.js_wire.specs.declared.packet.Packet.TheVariants.{Ask, Answer as AnswerPacket, Refuse as RefusePacket, Delivery, Beat as BeatPacket, FlowAsk as FlowAskPacket, FlowReply}
use Rattle.nats_text.specs.declared.message.Message.{Message}
use Rattle.replica_ask.specs.declared.phase.Order.{Order}
use Rattle.replica_ask.specs.declared.phase.Order.TheVariants.{Next, Old as OldOrder, Foreign as ForeignOrder, Gap as GapOrder, Beat as BeatOrder, FlowAsk as FlowOrder, Answer as AnswerOrder, Refuse as RefuseOrder}
use Rattle.mirror_core.specs.Decisions.{is_back, is_large}
use Rattle.source_core.specs.declared.sourced.Place.{Place}
use Rattle.source_core.specs.Decisions.{Reached}

-- how far the stream has come, of its place
abbrev pub reached_at : Place → Reached
reached_at at = record { mark = at.mark; last = at.last; clock = at.clock }

-- the delivery of this message is neither back nor too large
pub record LooksAt (mark seq : ℕ) (m : Message) : Type 0 where
  pub forward : is_back mark seq ≡ false
  pub small : is_large m ≡ false

-- what is made of the message of this packet has to be found
abbrev pub LooksInto : ℕ → Packet → Type 0
LooksInto mark (Ask asker attempt origin stream start filters) = ⊥
LooksInto mark (AnswerPacket asker attempt consumer incarnation start) = ⊥
LooksInto mark (RefusePacket asker attempt code err_code) = ⊥
LooksInto mark (Delivery asker attempt stream consumer number seq pending message) = LooksAt mark seq message
LooksInto mark (BeatPacket asker attempt origin stream consumer last_number last_seq stalled) = ⊥
LooksInto mark (FlowAskPacket asker attempt origin stream consumer token) = ⊥
LooksInto mark (FlowReply origin stream consumer token) = ⊥

-- The packet is the delivery that is awaited, and what is made of its message has to be found.
abbrev pub AsksVia : ℕ → Order → Packet → Type 0
AsksVia mark Next packet = LooksInto mark packet
AsksVia mark (OldOrder number next) packet = ⊥
AsksVia mark ForeignOrder packet = ⊥
AsksVia mark (GapOrder expected got) packet = ⊥
AsksVia mark BeatOrder packet = ⊥
AsksVia mark FlowOrder packet = ⊥
AsksVia mark AnswerOrder packet = ⊥
AsksVia mark RefuseOrder packet = ⊥
