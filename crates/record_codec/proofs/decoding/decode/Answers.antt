use Rattle.std.proofs.Common.{arith}
use Rattle.record_codec.proofs.Spelled.{decoded_spelled, decoded_speakable}
use Rattle.record_codec.proofs.decoding.decode.Goals as goal

pub returns-clause-spelled : goal.returns-clause-spelled
returns-clause-spelled c = decoded_spelled c.args.bytes.now c.whole.result (λ i. omega (arith, c.type_inv.bytes i)) c.whole.ensures.exact

pub returns-clause-speakable : goal.returns-clause-speakable
returns-clause-speakable c = decoded_speakable c.args.bytes.now c.whole.result (λ i. omega (arith, c.type_inv.bytes i)) c.whole.ensures.exact
