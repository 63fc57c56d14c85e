use Rattle.nats_text.proofs.Names.{byte_place_of, end_place_of, name_of}
use Rattle.nats_text.proofs.name.bad_place.Goals as goal

pub returns-in-Some : goal.returns-in-Some
returns-in-Some c = byte_place_of c.args.bytes.now c.min.result c.in-Some.place c.min.ensures c.in-Some.ensures

pub returns-then-bytes-gt-MAX_NAME_LEN : goal.returns-then-bytes-gt-MAX_NAME_LEN
returns-then-bytes-gt-MAX_NAME_LEN c =
    end_place_of c.args.bytes.now c.min.result c.is_empty.result c.min.ensures c.in_default.ensures c.is_empty.ensures c.if-bytes-gt-MAX_NAME_LEN.either

pub returns-else-bytes-gt-MAX_NAME_LEN : goal.returns-else-bytes-gt-MAX_NAME_LEN
returns-else-bytes-gt-MAX_NAME_LEN c =
    let no = c.if-bytes-gt-MAX_NAME_LEN.false in
    name_of c.args.bytes.now c.min.result c.is_empty.result c.min.ensures c.in_default.ensures c.is_empty.ensures no.0 no.1
