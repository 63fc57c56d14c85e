use Rattle.std.proofs.Common.{◌≡◌, ◌<◌, ◌∙◌, List, length, Option, Some, sym, subst, refl, arith}
use Rattle.std.specs.Prelude.{drop}
use Rattle.world_steps.specs.Settling.{Lane, first_busy}
use Rattle.world_links.specs.States.{LinkState, joined_in, lane_at, sites_in}
use Rattle.world_links.proofs.Busy.{busy-here, busy-on}
use Rattle.world_links.proofs.links.Links.first_busy.Goals as goal

pub returns-in-Some-clause-value : goal.returns-in-Some-clause-value
returns-in-Some-clause-value c =
    let links = c.self.inside.links.items in
    let lt : c.loop-place.place < length links = omega (arith, c.loop-place-test.true, c.len-place-end.ensures) in
    subst (λ (ls : List LinkState). ◌≡◌ {A = Option Lane} (Some (lane_at ls c.loop-place.place c.in-Some.direction)) (first_busy (joined_in ls) (drop 1 (sites_in ls)))) c.self.view_is
    (sym (busy-here links links c.loop-place.place c.index.result.now c.busy.result c.in-Some.direction refl c.self.invariant lt c.index.ensures c.busy.ensures c.in-Some.is) ∙ c.loop-place.invariant.none)

pub loop-place-preserved : goal.loop-place-preserved
loop-place-preserved c =
    let links = c.self.inside.links.items in
    let lt : c.loop-place.place < length links = omega (arith, c.loop-place-test.true, c.len-place-end.ensures) in
    record { none = sym (busy-on links links c.loop-place.place c.index.result.now c.busy.result refl c.self.invariant lt c.index.ensures c.busy.ensures c.in_default.is) ∙ c.loop-place.invariant.none }
