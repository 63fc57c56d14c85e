use Rattle.std.proofs.Common.{◌∷◌, ap, ◌∙◌}
use Rattle.subject_transform.proofs.Called.{two_more, two_short}
use Rattle.subject_transform.proofs.argument.two_arguments.Goals as goal

pub returns-in-Some : goal.returns-in-Some
returns-in-Some c = λ read. two_more read c.args.text.now c.in_ok-first.first.now c.in_ok-first.second.now c.in-Some.field-0.0.now c.in-Some.field-0.1.now c.in_ok-first.ensures.parts c.in-Some.ensures.parts
