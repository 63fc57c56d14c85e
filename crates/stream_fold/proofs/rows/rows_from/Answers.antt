use Rattle.std.proofs.Common.{◌≡◌, ◌-◌, rules, ltb, take, drop, length, subst, sym, ◌∙◌, arith}
use Rattle.std.proofs.lemmas.Bool.{ltb-true, ltb-false}
use Rattle.std.proofs.lemmas.List.{take_rest}
use Rattle.std.proofs.lemmas.List.Sorted.{IsPartitionPoint-from_clause, IsPartitionedBy-ltb}
use Rattle.stream_fold.specs.declared.entry.Numbered.{Numbered}
use Rattle.stream_fold.specs.RowLists.{Rises, seqs, from_number}
use Rattle.stream_fold.proofs.Finding.{never_falls, drop_lower, Rises-from}
use Rattle.stream_fold.proofs.rows.rows_from.Goals as goal

found : (c : goal.After-result-1) → take (length c.args.rows.now - c.partition_point-place.result) (drop c.partition_point-place.result c.args.rows.now) ≡ from_number c.args.seq c.args.rows.now
found c =
    let rows = c.args.rows.now in
    let seq = c.args.seq in
    let place = c.partition_point-place.result in
    let parted = IsPartitionedBy-ltb (λ (row : Numbered). row.seq) rows seq (never_falls 0 rows c.requires) in
    let point = IsPartitionPoint-from_clause (λ (row : Numbered). ltb row.seq seq) rows place c.partition_point-place.ensures.partitioned parted (λ a r q k. search rules) in
    take_rest rows place ∙ drop_lower seq rows place c.partition_point-place.ensures.bound (λ k d lt. ltb-true _ seq (point.0 k d (omega arith) lt)) (λ d lt. ltb-false _ seq (point.1 place d (omega arith) lt))

pub returns-clause-rows : goal.returns-clause-rows
returns-clause-rows c = found c

pub returns-clause-rises : goal.returns-clause-rises
returns-clause-rises c = subst (λ rows. Rises c.args.seq (seqs rows)) (sym (found c)) (Rises-from c.args.seq 0 c.args.rows.now c.requires)
