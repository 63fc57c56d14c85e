use Rattle.std.proofs.Common.{◌<◌, ℕ, subst}
use Rattle.told_pairs.specs.Wants.{to_tell}
use Rattle.told_pairs.proofs.Loops.{can_now, can_more, settles_more}
use Rattle.told_pairs.proofs.telling.settle.Goals as goal

pub set_weight-requires : goal.set_weight-requires
set_weight-requires c = λ some.
    can_now (λ p. to_tell c.args.link p c.args.wants.now.entries) c.args.pairs.now.keys c.loop-pair.pair-iterator c.next.new.self c.in-Some.pair.now c.in-Some.ensures.steps c.loop-pair.told.entries c.loop-pair.invariant.places (subst (λ (n : ℕ). 0 < n) c.to_tell.ensures some)

pub loop-pair-preserved : goal.loop-pair-preserved
loop-pair-preserved c = record {
  settles = settles_more (λ p. to_tell c.args.link p c.args.wants.now.entries) c.args.pairs.now.keys c.loop-pair.pair-iterator c.next.new.self c.in-Some.pair.now c.in-Some.ensures.steps c.args.told.now.entries c.loop-pair.told.entries c.set_weight.new.told.entries c.to_tell.result c.to_tell.ensures c.set_weight.ensures.at c.loop-pair.invariant.settles;
  places = can_more (λ p. to_tell c.args.link p c.args.wants.now.entries) c.args.pairs.now.keys c.loop-pair.pair-iterator c.next.new.self c.in-Some.pair.now c.in-Some.ensures.steps c.loop-pair.told.entries c.set_weight.new.told.entries c.to_tell.result c.to_tell.ensures c.set_weight.ensures.stay c.loop-pair.invariant.places;
}
