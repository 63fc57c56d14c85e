use Rattle.std.proofs.Common.{sym, ap, ◌∙◌}
use Rattle.subject_transform.specs.Parts.{read_wildcard}
use Rattle.subject_transform.proofs.Called.{one_more}
use Rattle.subject_transform.proofs.part.one_token.Goals as goal

pub returns-in-Some-clause-value : goal.returns-in-Some-clause-value
returns-in-Some-clause-value c = one_more c.args.stars c.args.text.now c.in-Some.field-0.0.now c.in-Some.field-0.1.now c.in-Some.ensures.parts
