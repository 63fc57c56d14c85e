use Rattle.std.proofs.Common.{sym, ap, ◌∙◌}
use Rattle.subject_transform.specs.Parts.{read_dotted}
use Rattle.subject_transform.proofs.Called.{dotted_two}
use Rattle.subject_transform.proofs.part.dotted.Goals as goal

pub returns-in_default-clause-value : goal.returns-in_default-clause-value
returns-in_default-clause-value c = sym (c.in_default.ensures (read_dotted c.args.stars c.args.dots))

pub returns-clause-value : goal.returns-clause-value
returns-clause-value c =
    c.checked.ensures.value ∙ rw (c.are_dotted_numbers.ensures, c.is_index.ensures, c.number.ensures, c.number-2.ensures) (sym (dotted_two c.args.stars c.args.dots c.args.text.now c.in-Some.index.now c.in-Some.len.now c.in-Some.ensures))
