use Rattle.std.proofs.Common.{◌≡◌, ◌^◌, ◌<◌, [], ◌∷◌, ◌++◌, ap, ◌∙◌, arith, rules, codes}
use Rattle.std.specs.Prelude.{decimal}
use Rattle.nats_text.specs.Text.{is_subject}
use Rattle.js_wire.specs.Words.{dotted, consumer_name, delivery_words}
use Rattle.js_wire.proofs.Legality.{delivery_is_subject, delivery_text}
use Rattle.js_wire.proofs.subjects.delivery_subject.Goals as goal

pub subject-requires : goal.subject-requires
subject-requires c =
    let text : c.deref.result.now ≡ (((((((codes "$JS.ACK" ++ 46 ∷ c.args.stream.now) ++ 46 ∷ []) ++ consumer_name c.args.consumer) ++ 46 ∷ codes "1") ++ 46 ∷ decimal c.args.seq) ++ 46 ∷ decimal c.args.number) ++ 46 ∷ decimal c.args.time) ++ 46 ∷ decimal c.args.pending = search rules in
    let boot : c.args.consumer.boot < 2 ^ 64 = omega arith in
    let count : c.args.consumer.count < 2 ^ 64 = omega arith in
    let seq : c.args.seq < 2 ^ 64 = omega arith in
    let number : c.args.number < 2 ^ 64 = omega arith in
    let time : c.args.time < 2 ^ 64 = omega arith in
    let pending : c.args.pending < 2 ^ 64 = omega arith in
    ap is_subject (text ∙ delivery_text c.args.stream.now (consumer_name c.args.consumer) (decimal c.args.seq) (decimal c.args.number) (decimal c.args.time) (decimal c.args.pending))
    ∙ delivery_is_subject c.args.stream.now c.args.consumer c.args.seq c.args.number c.args.time c.args.pending c.bytes.ensures.legal boot count seq number time pending

pub returns : goal.returns
returns c =
    let text : c.deref.result.now ≡ (((((((codes "$JS.ACK" ++ 46 ∷ c.args.stream.now) ++ 46 ∷ []) ++ consumer_name c.args.consumer) ++ 46 ∷ codes "1") ++ 46 ∷ decimal c.args.seq) ++ 46 ∷ decimal c.args.number) ++ 46 ∷ decimal c.args.time) ++ 46 ∷ decimal c.args.pending = search rules in
    let whole : c.deref.result.now ≡ dotted (delivery_words c.args.stream.now c.args.consumer c.args.seq c.args.number c.args.time c.args.pending) = text ∙ delivery_text c.args.stream.now (consumer_name c.args.consumer) (decimal c.args.seq) (decimal c.args.number) (decimal c.args.time) (decimal c.args.pending) in
    rw (← whole) c.subject.ensures
