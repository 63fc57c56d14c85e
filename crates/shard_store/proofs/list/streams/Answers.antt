use Rattle.std.proofs.Common.{ℕ, List, All, sym, subst}
use Rattle.std.specs.Global.{Vec}
use Rattle.std.proofs.lemmas.List.Elements.{All-tail}
use Rattle.log_replay.specs.declared.replay.Known.{Known}
use Rattle.shard_store.proofs.Listing.{IsFound, SoFar, standing_names, walk_begins, walk_goes_on, are_streams}
use Rattle.shard_store.proofs.list.streams.Goals as goal

pub loop-known-init : goal.loop-known-init
loop-known-init c =
    let names = c.args.replay.now.names in
    let gives = c.into_iter-known-iterator.ensures.into_iter_gives in
    record {
      left = subst (All (IsFound names)) (sym gives.0) gives.6;
      shown = λ log held. walk_begins log c.into_iter-known-iterator.result names.entries c.new-shown.result c.new-shown.ensures gives.0;
    }

pub loop-known-preserved : goal.loop-known-preserved
loop-known-preserved c =
    let replay = c.args.replay.now in
    let e : Vec ℕ × Known = (c.in-Some.field-0-0.now, c.in-Some.known.now) in
    let rest = c.next.new.self in
    let steps = c.in-Some.ensures.steps in
    let inv = c.loop-known.invariant in
    record {
      left = All-tail (IsFound replay.names) e rest (subst (All (IsFound replay.names)) steps inv.left);
      shown = λ log held. walk_goes_on log replay c.loop-known.known-iterator rest e (standing_names replay.names.entries) c.loop-known.shown c.add_shown.new.shown steps inv.left held c.in_ok-add_shown.ensures (inv.shown log held);
    }

pub returns : goal.returns
returns c = λ log legal held.
    let replay = c.args.replay.now in
    let gives = c.into_iter-known-iterator.ensures.into_iter_gives in
    are_streams log replay c.loop-known.shown held gives.5 (subst (λ (es : List (Vec ℕ × Known)). SoFar log (standing_names es) (standing_names replay.names.entries) c.loop-known.shown) c.in-None.ensures.steps.0 (c.loop-known.invariant.shown log held))
