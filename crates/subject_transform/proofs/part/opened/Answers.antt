use Rattle.std.proofs.Common.{sym, ap, ◌∙◌}
use Rattle.subject_transform.proofs.Called.{opened_more}
use Rattle.subject_transform.proofs.part.opened.Goals as goal

pub returns-in-Some-clause-value : goal.returns-in-Some-clause-value
returns-in-Some-clause-value c = c.closed.ensures.value ∙ sym (opened_more c.args.stars c.args.text.now c.in-Some.name.now c.in-Some.rest.now c.in-Some.ensures.parts)
