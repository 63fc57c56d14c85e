use Rattle.std.proofs.Common.{◌==◌, not, ap, ◌∙◌, arith}
use Rattle.stream_fold.specs.declared.entry.Numbered.{Numbered}
use Rattle.stream_fold.specs.Histories.{size_of}
use Rattle.stream_fold.proofs.Totals.{size_of-filter}
use Rattle.stream_fold.proofs.rows.Rows.delete.Goals as goal

pub total_of-self-inside-requires : goal.total_of-self-inside-requires
total_of-self-inside-requires c = omega (arith, ap size_of (c.deref.ensures.value ∙ c.delete.ensures), size_of-filter (λ (row : Numbered). not (row.seq == c.args.seq)) c.self.inside.items.items, c.self.invariant.fits)
