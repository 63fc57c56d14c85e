use Rattle.std.proofs.Common.{◌≡◌, ◌^◌, ◌<◌, [], ◌∷◌, ◌++◌, ap, ◌∙◌, arith, rules, codes}
use Rattle.std.specs.Prelude.{decimal}
use Rattle.nats_text.specs.Text.{is_subject}
use Rattle.js_wire.specs.Words.{consumer_name}
use Rattle.js_wire.proofs.Legality.{flow_is_subject, flow_text}
use Rattle.js_wire.proofs.subjects.flow_subject.Goals as goal

pub subject-requires : goal.subject-requires
subject-requires c =
    let text : c.deref.result.now ≡ ((((codes "$JS.FC" ++ 46 ∷ c.args.origin.now) ++ 46 ∷ c.args.stream.now) ++ 46 ∷ []) ++ consumer_name c.args.consumer) ++ 46 ∷ decimal c.args.token = search rules in
    let boot : c.args.consumer.boot < 2 ^ 64 = omega arith in
    let count : c.args.consumer.count < 2 ^ 64 = omega arith in
    let token : c.args.token < 2 ^ 64 = omega arith in
    ap is_subject (text ∙ flow_text c.args.origin.now c.args.stream.now (consumer_name c.args.consumer) (decimal c.args.token))
    ∙ flow_is_subject c.args.origin.now c.args.stream.now c.args.consumer c.args.token c.bytes.ensures.legal c.bytes-2.ensures.legal boot count token
