-- Which packet a message carries, and that this is one at most.
use Rattle.std.specs.Prelude.{◌≡◌, Option, None, Some}
use Rattle.nats_text.specs.declared.message.Parcel.{Parcel}
use Rattle.js_wire.specs.declared.packet.Packet.{Packet}
use Rattle.js_wire.specs.Legal.{IsPacket}
use Rattle.js_wire.specs.Messages.{message_of}

-- a packet that is written as the message, or none, where none of those that the types hold is
abbrev pub IsCarried : Parcel → Option Packet → Type 0
IsCarried m None = (p : Packet) → IsPacket p → message_of p ≡ m → ⊥
IsCarried m (Some p) = message_of p ≡ m

-- two packets that the types hold are carried by two messages
abbrev pub OneMessageEach : Type 0
OneMessageEach = (p q : Packet) → IsPacket p → IsPacket q → message_of p ≡ message_of q → p ≡ q
