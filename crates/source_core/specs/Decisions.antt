-- What a stream with sources decides about a packet of one of them.
use Rattle.std.specs.Prelude.{ℕ, ◌^◌, ◌-◌, ◌+◌, max, nat_le, if◌then◌else◌, Option, None, Some}
use Rattle.nats_text.specs.declared.message.Message.{Message}
use Rattle.nats_text.specs.declared.origin.Origin.{Origin}
use Rattle.js_wire.specs.declared.packet.Packet.{Packet}
use Rattle.js_wire.specs.declared.packet.Packet.TheVariants.{Ask, Answer as AnswerPacket, Refuse as RefusePacket, Delivery, Beat as BeatPacket, FlowAsk as FlowAskPacket, FlowReply}
use Rattle.replica_ask.specs.declared.phase.Order.{Order}
use Rattle.replica_ask.specs.declared.phase.Order.TheVariants.{Next, Old as OldOrder, Foreign as ForeignOrder, Gap as GapOrder, Beat as BeatOrder, FlowAsk as FlowOrder, Answer as AnswerOrder, Refuse as RefuseOrder}
use Rattle.stream_fold.specs.declared.entry.BoundTo.{BoundTo}
use Rattle.stream_fold.specs.declared.entry.Entry.TheVariants.{Put}
use Rattle.stream_fold.specs.declared.decision.Decision.{Decision}
use Rattle.stream_fold.specs.declared.decision.Decision.TheVariants.{Store, Skip, Ignore}
use Rattle.stream_fold.specs.declared.decision.Reason.TheVariants.{Foreign, Back, Large, SeqEnd}
use Rattle.stream_fold.specs.Publishing.{content_size, capped}
use Rattle.stream_fold.specs.Sourcing.{via}
use Rattle.mirror_core.specs.Decisions.{other_decision, is_back, is_large}

-- how far the stream of a copy has come: the mark of this source, and its own last number and clock
pub record Reached : Type 0 where
  pub mark : ℕ
  pub last : ℕ
  pub clock : ℕ

-- the message as the stream stores it at a moment: its time is never before the clock
abbrev pub at_time : ℕ → Message → Message
at_time moment m = record m { time = moment }

-- what the source makes of a message is stored under the next own number, with its mark
abbrev pub on_made : ℕ → Reached → ℕ → ℕ → Option Message → Decision
on_made index reached now seq None = Skip
on_made index reached now seq (Some m) =
    if nat_le (2 ^ 63 - 1) reached.last then Ignore SeqEnd
    else Store (Put (reached.last + 1) (at_time (max now reached.clock) m) (Some (record { index = index; seq = seq })))

-- the delivery that is awaited
abbrev pub on_sourced : Origin → ℕ → Reached → ℕ → ℕ → Message → Decision
on_sourced want index reached now seq m =
    if is_back reached.mark seq then Ignore (Back seq reached.mark)
    else (if is_large m then Ignore (Large (capped (content_size m)))
    else on_made index reached now seq (via want m seq))

-- of a delivery, the decision of a source
abbrev pub of_sourced : Origin → ℕ → Reached → ℕ → Packet → Decision
of_sourced want index reached now (Ask asker attempt origin stream start filters) = Ignore Foreign
of_sourced want index reached now (AnswerPacket asker attempt consumer incarnation start) = Ignore Foreign
of_sourced want index reached now (RefusePacket asker attempt code err_code) = Ignore Foreign
of_sourced want index reached now (Delivery asker attempt stream consumer number seq pending message) = on_sourced want index reached now seq message
of_sourced want index reached now (BeatPacket asker attempt origin stream consumer last_number last_seq stalled) = Ignore Foreign
of_sourced want index reached now (FlowAskPacket asker attempt origin stream consumer token) = Ignore Foreign
of_sourced want index reached now (FlowReply origin stream consumer token) = Ignore Foreign

-- What the source of an index decides at this moment, where it is bound so and has come so far.
abbrev pub source_decision : Origin → ℕ → Option BoundTo → Reached → ℕ → Order → Packet → Decision
source_decision want index bound reached now Next packet = of_sourced want index reached now packet
source_decision want index bound reached now (OldOrder number next) packet = other_decision index bound (OldOrder number next) packet
source_decision want index bound reached now ForeignOrder packet = other_decision index bound ForeignOrder packet
source_decision want index bound reached now (GapOrder expected got) packet = other_decision index bound (GapOrder expected got) packet
source_decision want index bound reached now BeatOrder packet = other_decision index bound BeatOrder packet
source_decision want index bound reached now FlowOrder packet = other_decision index bound FlowOrder packet
source_decision want index bound reached now AnswerOrder packet = other_decision index bound AnswerOrder packet
source_decision want index bound reached now RefuseOrder packet = other_decision index bound RefuseOrder packet
