use Rattle.std.proofs.Common.{not, ap, ◌∙◌, arith}
use Rattle.stream_fold.specs.Histories.{size_of, is_purged}
use Rattle.stream_fold.proofs.Totals.{size_of-filter}
use Rattle.stream_fold.proofs.rows.Rows.purge.Goals as goal

pub total_of-self-inside-requires : goal.total_of-self-inside-requires
total_of-self-inside-requires c = omega (arith, ap size_of (c.deref.ensures.value ∙ c.purge.ensures), size_of-filter (λ row. not (is_purged c.args.pattern.now c.args.below row)) c.self.inside.items.items, c.self.invariant.fits)
