use Rattle.std.proofs.Common.{◌≡◌, sym, ◌∙◌}
use Rattle.std.proofs.lemmas.Bool.{false≢true}
use Rattle.js_wire.specs.Messages.{message_of}
use Rattle.js_wire.proofs.PlainIs.{plain_is}
use Rattle.js_wire.proofs.Whole.{carries_nothing, carries_no_other}
use Rattle.js_wire.proofs.receive.of_message.Goals as goal

pub returns-in-Some : goal.returns-in-Some
returns-in-Some c = plain_is c.args.parcel.now c.in-Some.packet (sym c.in_ok-packet.ensures ∙ c.in-Some.is)

pub returns-in_default-2 : goal.returns-in_default-2
returns-in_default-2 c = carries_nothing c.args.parcel.now (sym c.in_ok-packet.ensures ∙ c.in_default.is) (sym c.in_ok-packet-2.ensures ∙ c.in_default-2.is)

pub returns-else-eq : goal.returns-else-eq
returns-else-eq c =
    let m = c.args.parcel.now in
    let q = c.in-Some-2.packet in
    let differs = λ (e : message_of c.in-Some-2.packet ≡ c.args.parcel.now). false≢true (sym c.if-eq.false ∙ (c.eq.ensures ∙ (c.equal_values.ensures.parcels c.in_ok-written.written m).1 (c.in_ok-written.ensures ∙ e))) in
    carries_no_other m q (sym c.in_ok-packet.ensures ∙ c.in_default.is) (sym c.in_ok-packet-2.ensures ∙ c.in-Some-2.is) differs
