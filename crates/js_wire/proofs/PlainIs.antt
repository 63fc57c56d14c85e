-- What is read of a message is written as this message.
use Rattle.std.proofs.Common.{◌≡◌, ℕ, List, Option, None, Some, refl}
use Rattle.std.specs.Option.{option_map_or}
use Rattle.std.proofs.lemmas.Option.{none-some}
use Rattle.nats_text.specs.Pieces.{pieces}
use Rattle.nats_text.specs.declared.message.Parcel.{Parcel}
use Rattle.js_wire.specs.declared.packet.Packet.{Packet}
use Rattle.js_wire.specs.declared.words.Flow.{Flow}
use Rattle.js_wire.specs.declared.words.Receipt.{Receipt}
use Rattle.js_wire.specs.Messages.{message_of}
use Rattle.js_wire.specs.Reading.{flow_of, receipt_of}
use Rattle.js_wire.specs.Received.{read_flow_reply, read_flow_ask, read_delivery, read_beat, read_plain}
use Rattle.js_wire.proofs.Plain.{flow_reply_is, flow_ask_is, delivery_is, beat_is}

notice_is : (m : Parcel) (q : Packet) (o : Option Flow) → m.reply ≡ None → flow_of (pieces 46 m.subject) ≡ o → option_map_or (read_flow_reply m) o (read_beat m) ≡ Some q → message_of q ≡ m
notice_is m q None alone e h = beat_is m q alone h
notice_is m q (Some f) alone e h = flow_reply_is m f q alone e h

flow_is : (m : Parcel) (r : List ℕ) (q : Packet) (o : Option Flow) → m.reply ≡ Some r → flow_of (pieces 46 r) ≡ o → option_map_or (read_flow_ask m) o None ≡ Some q → message_of q ≡ m
flow_is m r q None asked e h = absurd (none-some q h)
flow_is m r q (Some f) asked e h = flow_ask_is m r f q asked e h

request_is : (m : Parcel) (r : List ℕ) (q : Packet) (o : Option Receipt) → m.reply ≡ Some r → receipt_of (pieces 46 r) ≡ o
    → option_map_or (read_delivery m) o (option_map_or (read_flow_ask m) (flow_of (pieces 46 r)) None) ≡ Some q → message_of q ≡ m
request_is m r q None asked e h = flow_is m r q (flow_of (pieces 46 r)) asked refl h
request_is m r q (Some w) asked e h = delivery_is m r w q asked e h

by_reply : (m : Parcel) (q : Packet) (r : Option (List ℕ)) → m.reply ≡ r → read_plain m r ≡ Some q → message_of q ≡ m
by_reply m q None e h = notice_is m q (flow_of (pieces 46 m.subject)) e refl h
by_reply m q (Some r) e h = request_is m r q (receipt_of (pieces 46 r)) e refl h

pub plain_is : (m : Parcel) (q : Packet) → read_plain m m.reply ≡ Some q → message_of q ≡ m
plain_is m q h = by_reply m q m.reply refl h
