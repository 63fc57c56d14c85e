use Rattle.std.proofs.Common.{ap, ◌∙◌, arith}
use Rattle.stream_fold.specs.Histories.{size_of}
use Rattle.stream_fold.proofs.Totals.{size_of-newest_of_each}
use Rattle.stream_fold.proofs.rows.Rows.keep_newest.Goals as goal

pub total_of-self-inside-requires : goal.total_of-self-inside-requires
total_of-self-inside-requires c = omega (arith, ap size_of (c.deref.ensures.value ∙ c.keep_newest_of_each.ensures), size_of-newest_of_each c.args.most c.self.inside.items.items, c.self.invariant.fits)
