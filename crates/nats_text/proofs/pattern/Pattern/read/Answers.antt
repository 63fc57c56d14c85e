use Rattle.nats_text.specs.Text.{is_pattern}
use Rattle.nats_text.proofs.Places.{bad_place-false}
use Rattle.nats_text.proofs.pattern.Pattern.read.Goals as goal

pub returns-in-Some-clause-bad : goal.returns-in-Some-clause-bad
returns-in-Some-clause-bad c = λ place is. bad_place-false is_pattern c.args.bytes.now c.in-Some.place c.in-Some.ensures
