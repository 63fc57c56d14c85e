-- Each packet is read from its message, and from no other.
use Rattle.std.proofs.Common.{◌≡◌, ◌⊎◌, inl, inr, Option, None, Some, refl, sym, ap, ◌∙◌}
use Rattle.std.specs.Option.{option_map_or}
use Rattle.std.proofs.lemmas.Option.{none-some, same_Some}
use Rattle.nats_text.specs.Pieces.{pieces}
use Rattle.nats_text.specs.declared.message.Parcel.{Parcel}
use Rattle.nats_text.specs.declared.message.Stamp.{Stamp}
use Rattle.js_wire.specs.declared.packet.AskerId.{AskerId}
use Rattle.js_wire.specs.declared.packet.Packet.{Packet}
use Rattle.js_wire.specs.declared.packet.Packet.TheVariants.{Ask, Answer, Refuse, Delivery, Beat, FlowAsk, FlowReply}
use Rattle.js_wire.specs.Legal.{IsPacket, IsStamp, IsAsker}
use Rattle.js_wire.specs.Messages.{message_of}
use Rattle.js_wire.specs.Reading.{flow_of}
use Rattle.js_wire.specs.Received.{read_flow_reply, read_beat, read_request, read_plain}
use Rattle.js_wire.specs.Told.{tell}
use Rattle.js_wire.specs.Words.{answers, attempt_subject}
use Rattle.js_wire.proofs.PlainRead.{attempt_pieces, flow_reply_read, flow_ask_read, delivery_read, beat_read}
use Rattle.js_wire.proofs.ToldRead.{answer_read, refusal_read, ask_read}

-- a message tells of the packet in its JSON, and isn't read without
pub record IsTold (p : Packet) : Type 0 where
  pub not_plain : read_plain (message_of p) (message_of p).reply ≡ None
  pub told : tell (message_of p) (message_of p).reply ≡ Some p

-- how a packet is read from its message
abbrev pub Read : Packet → Type 0
Read p = (read_plain (message_of p) (message_of p).reply ≡ Some p) ⊎ IsTold p

-- no message to the subject for answers is plain
quiet : (m : Parcel) (asker : AskerId) (attempt : Stamp) → IsAsker asker → IsStamp attempt → m.subject ≡ attempt_subject asker attempt answers → read_beat m ≡ None
    → option_map_or (read_flow_reply m) (flow_of (pieces 46 m.subject)) (read_beat m) ≡ None
quiet m asker attempt a s subject beat =
    ap (λ ws. option_map_or (read_flow_reply m) (flow_of ws) (read_beat m)) (ap (pieces 46) subject ∙ attempt_pieces asker attempt answers a s refl) ∙ beat

pub each_is_read : (p : Packet) → IsPacket p → Read p
each_is_read (Ask asker attempt origin stream start filters) h = inr (record {
  not_plain = ap (read_request (message_of (Ask asker attempt origin stream start filters))) (attempt_pieces asker attempt answers h.0.0 h.0.1 refl);
  told = ask_read asker attempt origin stream start filters h;
})
each_is_read (Answer asker attempt consumer incarnation start) h = inr (record {
  not_plain = quiet (message_of (Answer asker attempt consumer incarnation start)) asker attempt h.0.0 h.0.1 refl refl;
  told = answer_read asker attempt consumer incarnation start h;
})
each_is_read (Refuse asker attempt code err_code) h = inr (record {
  not_plain = quiet (message_of (Refuse asker attempt code err_code)) asker attempt h.0.0 h.0.1 refl refl;
  told = refusal_read asker attempt code err_code h;
})
each_is_read (Delivery asker attempt stream consumer number seq pending message) h = inl (delivery_read asker attempt stream consumer number seq pending message h)
each_is_read (Beat asker attempt origin stream consumer last_number last_seq stalled) h = inl (beat_read asker attempt origin stream consumer last_number last_seq stalled h)
each_is_read (FlowAsk asker attempt origin stream consumer token) h = inl (flow_ask_read asker attempt origin stream consumer token h)
each_is_read (FlowReply origin stream consumer token) h = inl (flow_reply_read origin stream consumer token h)

-- the packet that two readings of one message give
both : (o : Option Packet) (p q : Packet) → o ≡ Some p → o ≡ Some q → p ≡ q
both o p q e f = same_Some p q (sym e ∙ f)

apart : {A : Type 0} (o : Option Packet) (p : Packet) → o ≡ Some p → o ≡ None → A
apart o p e f = absurd (none-some p (sym f ∙ e))

same : (p q : Packet) → message_of p ≡ message_of q → Read p → Read q → p ≡ q
same p q e (inl a) (inl b) = both (read_plain (message_of q) (message_of q).reply) p q (ap (λ m. read_plain m m.reply) (sym e) ∙ a) b
same p q e (inl a) (inr b) = apart (read_plain (message_of q) (message_of q).reply) p (ap (λ m. read_plain m m.reply) (sym e) ∙ a) b.not_plain
same p q e (inr a) (inl b) = apart (read_plain (message_of p) (message_of p).reply) q (ap (λ m. read_plain m m.reply) e ∙ b) a.not_plain
same p q e (inr a) (inr b) = both (tell (message_of q) (message_of q).reply) p q (ap (λ m. tell m m.reply) (sym e) ∙ a.told) b.told

pub one_each : (p q : Packet) → IsPacket p → IsPacket q → message_of p ≡ message_of q → p ≡ q
one_each p q h k e = same p q e (each_is_read p h) (each_is_read q k)

-- where a message isn't read and tells of nothing, it carries nothing
nothing : (m : Parcel) (p : Packet) → read_plain m m.reply ≡ None → tell m m.reply ≡ None → message_of p ≡ m → Read p → ⊥
nothing m p r t e (inl a) = apart (read_plain m m.reply) p (ap (λ x. read_plain x x.reply) (sym e) ∙ a) r
nothing m p r t e (inr a) = apart (tell m m.reply) p (ap (λ x. tell x x.reply) (sym e) ∙ a.told) t

pub carries_nothing : (m : Parcel) → read_plain m m.reply ≡ None → tell m m.reply ≡ None → (p : Packet) → IsPacket p → message_of p ≡ m → ⊥
carries_nothing m r t p h e = nothing m p r t e (each_is_read p h)

-- where it isn't read, and what it tells of is another message's
other : (m : Parcel) (q p : Packet) → read_plain m m.reply ≡ None → tell m m.reply ≡ Some q → (message_of q ≡ m → ⊥) → message_of p ≡ m → Read p → ⊥
other m q p r t differs e (inl a) = apart (read_plain m m.reply) p (ap (λ x. read_plain x x.reply) (sym e) ∙ a) r
other m q p r t differs e (inr a) = differs (ap message_of (both (tell m m.reply) q p t (ap (λ x. tell x x.reply) (sym e) ∙ a.told)) ∙ e)

pub carries_no_other : (m : Parcel) (q : Packet) → read_plain m m.reply ≡ None → tell m m.reply ≡ Some q → (message_of q ≡ m → ⊥) → (p : Packet) → IsPacket p → message_of p ≡ m → ⊥
carries_no_other m q r t differs p h e = other m q p r t differs e (each_is_read p h)
