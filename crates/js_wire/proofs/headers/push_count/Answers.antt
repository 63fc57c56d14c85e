use Rattle.std.proofs.Common.{◌≡◌, ◌^◌, ◌<◌, ap, ◌∙◌, arith}
use Rattle.std.specs.Prelude.{decimal}
use Rattle.std.proofs.lemmas.Bool.{and_from}
use Rattle.nats_text.specs.Headers.{is_header_name, is_header_value}
use Rattle.js_wire.proofs.Bytes.{decimal_name}
use Rattle.js_wire.proofs.Values.{name_value}
use Rattle.js_wire.proofs.headers.push_count.Goals as goal

pub add-requires : goal.add-requires
add-requires c =
    let text : c.as_bytes.result.now ≡ decimal c.args.count = c.as_bytes.ensures.value ∙ c.format.ensures.text in
    let small : c.args.count < 2 ^ 64 = omega arith in
    and_from (is_header_name c.args.name.now) (is_header_value c.as_bytes.result.now) c.requires (ap is_header_value text ∙ name_value (decimal c.args.count) (decimal_name c.args.count small))
