-- What a copy decides about a packet, by what is looked up of its stream and by what the packet is to its
-- asker.
use Rattle.std.specs.Prelude.{ℕ, ◌^◌, ◌==◌, Bool, ◌||◌, nat_lt, nat_le, if◌then◌else◌, Option, None, Some}
use Rattle.nats_text.specs.declared.message.Message.{Message}
use Rattle.js_wire.specs.declared.packet.Packet.{Packet}
use Rattle.js_wire.specs.declared.packet.Packet.TheVariants.{Ask, Answer as AnswerPacket, Refuse as RefusePacket, Delivery, Beat as BeatPacket, FlowAsk as FlowAskPacket, FlowReply}
use Rattle.replica_ask.specs.declared.phase.Order.{Order}
use Rattle.replica_ask.specs.declared.phase.Order.TheVariants.{Next, Old as OldOrder, Foreign as ForeignOrder, Gap as GapOrder, Beat as BeatOrder, FlowAsk as FlowOrder, Answer as AnswerOrder, Refuse as RefuseOrder}
use Rattle.stream_fold.specs.declared.entry.BoundTo.{BoundTo}
use Rattle.stream_fold.specs.declared.entry.Entry.TheVariants.{Put, Bind as BindEntry}
use Rattle.stream_fold.specs.declared.decision.Decision.{Decision}
use Rattle.stream_fold.specs.declared.decision.Decision.TheVariants.{Store, Bind, Rebind, Ignore, AskAgain, Reply, Heard, Refused, Stop}
use Rattle.stream_fold.specs.declared.decision.Reason.TheVariants.{Old, Foreign, Back, Large}
use Rattle.stream_fold.specs.declared.decision.Why.TheVariants.{Gap}
use Rattle.stream_fold.specs.Publishing.{content_size, capped}

-- ---- packets that are no delivery

-- an answer to an index: it is bound by the first one, and again by one of the same incarnation
abbrev pub on_answer : ℕ → Option BoundTo → ℕ → ℕ → Decision
on_answer index None incarnation start = Bind (BindEntry index incarnation start)
on_answer index (Some to) incarnation start = if to.incarnation == incarnation then Rebind else Stop to.incarnation incarnation

-- a beat that waits for the answer to a flow request is answered
abbrev pub on_beat : Option ℕ → Decision
on_beat None = Heard
on_beat (Some token) = Reply

-- of an answer, the decision
abbrev pub of_answer : ℕ → Option BoundTo → Packet → Decision
of_answer index bound (Ask asker attempt origin stream start filters) = Ignore Foreign
of_answer index bound (AnswerPacket asker attempt consumer incarnation start) = on_answer index bound incarnation start
of_answer index bound (RefusePacket asker attempt code err_code) = Ignore Foreign
of_answer index bound (Delivery asker attempt stream consumer number seq pending message) = Ignore Foreign
of_answer index bound (BeatPacket asker attempt origin stream consumer last_number last_seq stalled) = Ignore Foreign
of_answer index bound (FlowAskPacket asker attempt origin stream consumer token) = Ignore Foreign
of_answer index bound (FlowReply origin stream consumer token) = Ignore Foreign

-- of a beat, the decision
abbrev pub of_beat : Packet → Decision
of_beat (Ask asker attempt origin stream start filters) = Ignore Foreign
of_beat (AnswerPacket asker attempt consumer incarnation start) = Ignore Foreign
of_beat (RefusePacket asker attempt code err_code) = Ignore Foreign
of_beat (Delivery asker attempt stream consumer number seq pending message) = Ignore Foreign
of_beat (BeatPacket asker attempt origin stream consumer last_number last_seq stalled) = on_beat stalled
of_beat (FlowAskPacket asker attempt origin stream consumer token) = Ignore Foreign
of_beat (FlowReply origin stream consumer token) = Ignore Foreign

-- What every copy decides about a packet that isn't the delivery which it awaits.
abbrev pub other_decision : ℕ → Option BoundTo → Order → Packet → Decision
other_decision index bound Next packet = Ignore Foreign
other_decision index bound (OldOrder number next) packet = Ignore (Old number next)
other_decision index bound ForeignOrder packet = Ignore Foreign
other_decision index bound (GapOrder expected got) packet = AskAgain (Gap expected got)
other_decision index bound BeatOrder packet = of_beat packet
other_decision index bound FlowOrder packet = Reply
other_decision index bound AnswerOrder packet = of_answer index bound packet
other_decision index bound RefuseOrder packet = Refused

-- ---- the delivery that is awaited

-- a number that no stream has, or that isn't past what the copy has
abbrev pub is_back : ℕ → ℕ → Bool
is_back reached seq = nat_le (2 ^ 63) seq || nat_le seq reached

-- more content than the record of a message may have
abbrev pub is_large : Message → Bool
is_large m = nat_lt 2010000 (content_size m)

-- a mirror stores the message as it is, under its own number
abbrev pub on_mirrored : ℕ → ℕ → Message → Decision
on_mirrored front seq m =
    if is_back front seq then Ignore (Back seq front)
    else (if is_large m then Ignore (Large (capped (content_size m)))
    else Store (Put seq m None))

-- of a delivery, the decision of a mirror
abbrev pub of_mirrored : ℕ → Packet → Decision
of_mirrored front (Ask asker attempt origin stream start filters) = Ignore Foreign
of_mirrored front (AnswerPacket asker attempt consumer incarnation start) = Ignore Foreign
of_mirrored front (RefusePacket asker attempt code err_code) = Ignore Foreign
of_mirrored front (Delivery asker attempt stream consumer number seq pending message) = on_mirrored front seq message
of_mirrored front (BeatPacket asker attempt origin stream consumer last_number last_seq stalled) = Ignore Foreign
of_mirrored front (FlowAskPacket asker attempt origin stream consumer token) = Ignore Foreign
of_mirrored front (FlowReply origin stream consumer token) = Ignore Foreign

-- What a mirror decides that is bound so and has come as far as its front.
abbrev pub mirror_decision : Option BoundTo → ℕ → Order → Packet → Decision
mirror_decision bound front Next packet = of_mirrored front packet
mirror_decision bound front (OldOrder number next) packet = other_decision 0 bound (OldOrder number next) packet
mirror_decision bound front ForeignOrder packet = other_decision 0 bound ForeignOrder packet
mirror_decision bound front (GapOrder expected got) packet = other_decision 0 bound (GapOrder expected got) packet
mirror_decision bound front BeatOrder packet = other_decision 0 bound BeatOrder packet
mirror_decision bound front FlowOrder packet = other_decision 0 bound FlowOrder packet
mirror_decision bound front AnswerOrder packet = other_decision 0 bound AnswerOrder packet
mirror_decision bound front RefuseOrder packet = other_decision 0 bound RefuseOrder packet
