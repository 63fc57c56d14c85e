use Rattle.std.proofs.Common.{sym, ap, ◌∙◌}
use Rattle.subject_transform.proofs.Called.{partition_more}
use Rattle.subject_transform.proofs.part.partition.Goals as goal

pub returns-in-Some-clause-value : goal.returns-in-Some-clause-value
returns-in-Some-clause-value c =
    c.checked.ensures.value ∙ rw (c.are_partition_numbers.ensures, c.are_indexes.ensures, c.number.ensures) (sym (partition_more c.args.stars c.args.text.now c.in-Some.count.now c.in-Some.indexes.now c.in-Some.ensures.parts))
