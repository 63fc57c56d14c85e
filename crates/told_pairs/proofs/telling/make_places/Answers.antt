use Rattle.std.proofs.Common.{◌∙◌}
use Rattle.told_pairs.proofs.Loops.{placed_more}
use Rattle.told_pairs.proofs.telling.make_places.Goals as goal

pub loop-pair-preserved : goal.loop-pair-preserved
loop-pair-preserved c = record {
  same = λ p. c.make_place.ensures.same p ∙ c.loop-pair.invariant.same p;
  list = c.make_place.ensures.list ∙ c.loop-pair.invariant.list;
  places = placed_more c.args.pairs.now.keys c.loop-pair.pair-iterator c.next.new.self c.in-Some.pair.now c.loop-pair.told.entries c.make_place.new.told.entries c.in-Some.ensures.steps c.make_place.ensures.stay c.in_ok-make_place.ensures.place c.loop-pair.invariant.places;
}
