use Rattle.std.proofs.Common.{◌≡◌, List, ℕ, [], ◌∷◌, ◌++◌, ◌^◌, ◌<◌, ap, ◌∙◌, arith, rules, append_assoc}
use Rattle.nats_text.specs.Headers.{is_header_value}
use Rattle.js_wire.specs.Words.{consumer_name}
use Rattle.js_wire.proofs.Values.{value_of_consumer}
use Rattle.js_wire.proofs.headers.consumer_value.Goals as goal

-- the value as it is written
text_of : (o s c : List ℕ) → (((o ++ 32 ∷ []) ++ s) ++ 32 ∷ []) ++ c ≡ o ++ 32 ∷ (s ++ 32 ∷ c)
text_of o s c = simp append_assoc

pub returns-clause-legal : goal.returns-clause-legal
returns-clause-legal c =
    let boot : c.args.consumer.boot < 2 ^ 64 = omega arith in
    let count : c.args.consumer.count < 2 ^ 64 = omega arith in
    let text : c.push_consumer.new.text.items ≡ (((c.args.origin.now ++ 32 ∷ []) ++ c.args.stream.now) ++ 32 ∷ []) ++ consumer_name c.args.consumer = search rules in
    ap is_header_value (text ∙ text_of c.args.origin.now c.args.stream.now (consumer_name c.args.consumer))
    ∙ value_of_consumer c.args.origin.now c.args.stream.now c.args.consumer c.bytes.ensures.legal c.bytes-2.ensures.legal boot count
