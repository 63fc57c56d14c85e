use Rattle.std.proofs.Common.{List, sym, subst}
use Rattle.std.specs.List.Sorted.{IsNonDecreasingBy}
use Rattle.stream_fold.specs.declared.entry.Numbered.{Numbered}
use Rattle.leafd_cli.proofs.Past.{origin_rows}
use Rattle.leafd_cli.proofs.settle.missing.Goals as goal

pub rows_past-requires : goal.rows_past-requires
rows_past-requires c =
    let P : List Numbered → Type 0 = λ rows. IsNonDecreasingBy (λ (r : Numbered). r.seq) rows in
    subst P (sym c.rows.ensures) (origin_rows c.in-Mirror.want c.args.streams.now c.in-Some.origin.now c.requires.kept.numbers (sym c.in-Some.ensures))
