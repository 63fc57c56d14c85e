use Rattle.std.proofs.Common.{sym, ap, ◌∙◌}
use Rattle.subject_transform.specs.Parts.{read_split}
use Rattle.subject_transform.proofs.Called.{split_two, split_bad}
use Rattle.subject_transform.proofs.part.split.Goals as goal

pub returns-in_default-clause-value : goal.returns-in_default-clause-value
returns-in_default-clause-value c = sym (c.in_default.ensures (read_split c.args.stars))

pub returns-then-not-is_separator-clause-value : goal.returns-then-not-is_separator-clause-value
returns-then-not-is_separator-clause-value c =
    split_bad c.args.stars c.args.text.now c.in-Some.index.now c.in-Some.separator.now c.in-Some.ensures (sym c.is_separator.ensures ∙ c.if-not-is_separator.true)

pub returns-clause-value : goal.returns-clause-value
returns-clause-value c =
    c.checked.ensures.value ∙ rw (c.is_number.ensures, c.is_index.ensures, c.number.ensures) (sym (split_two c.args.stars c.args.text.now c.in-Some.index.now c.in-Some.separator.now c.in-Some.ensures (sym c.is_separator.ensures ∙ c.if-not-is_separator.false)))
