use Rattle.std.proofs.Common.{◌++◌, take, rules}
use Rattle.std.proofs.KnownBytes.{Appends-trans}
use Rattle.leaf_edges.proofs.Fronts.{front_grows}
use Rattle.leaf_edges.proofs.pump.pump_all.Goals as goal

-- the front grows by what this write took
pub loop-rest-preserved : goal.loop-rest-preserved
loop-rest-preserved g c =
    let front = c.loop-rest.invariant.front in
    let rest = c.loop-rest.rest.now in
    let count = c.in-Ok.count in
    record {
      front = front ++ take count rest;
      whole = front_grows _ front rest count c.loop-rest.invariant.whole;
      written = Appends-trans _ _ _ _ _ c.loop-rest.invariant.written c.in-Ok.ensures.bytes;
      same = search rules;
    }
