use Rattle.std.proofs.Common.{leb, arith, rules}
use Rattle.std.proofs.lemmas.List.Sorted.{IsPartitionPoint-from_clause, IsPartitionedBy-leb}
use Rattle.stream_fold.specs.declared.entry.Numbered.{Numbered}
use Rattle.leafd_cli.proofs.Past.{past_from}
use Rattle.leafd_cli.proofs.settle.first_past.Goals as goal

pub returns-clause-past : goal.returns-clause-past
returns-clause-past c =
    let parted = IsPartitionedBy-leb (λ (r : Numbered). r.seq) _ c.args.number c.requires in
    let point = IsPartitionPoint-from_clause (λ (r : Numbered). leb r.seq c.args.number) _ _ c.partition_point.ensures.partitioned parted (λ a r q k. search rules) in
    past_from c.args.number c.args.rows.now c.partition_point.result (λ k d h. point.0 k d (omega arith) h) (λ k d le h. point.1 k d le h)
