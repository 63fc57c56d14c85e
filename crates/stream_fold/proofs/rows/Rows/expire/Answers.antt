use Rattle.std.proofs.Common.{not, ap, ◌∙◌, arith}
use Rattle.stream_fold.specs.Histories.{size_of, is_expired}
use Rattle.stream_fold.proofs.Totals.{size_of-filter}
use Rattle.stream_fold.proofs.rows.Rows.expire.Goals as goal

pub total_of-self-inside-requires : goal.total_of-self-inside-requires
total_of-self-inside-requires c = omega (arith, ap size_of (c.deref.ensures.value ∙ c.expire.ensures), size_of-filter (λ row. not (is_expired c.args.max_age c.args.now row)) c.self.inside.items.items, c.self.invariant.fits)
