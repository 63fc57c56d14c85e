use Rattle.std.proofs.Common.{refl, [], take_all}
use Rattle.log_replay.proofs.LogBodies.{goes_on, stops}
use Rattle.log_replay.proofs.replay.read_log.Goals as goal

pub loop-index-init : goal.loop-index-init
loop-index-init c = ([], record { are = refl; legal = tt }, c.new-replay.ensures, refl)

pub take_body-requires : goal.take_body-requires
take_body-requires c = (c.loop-index.invariant.0, c.loop-index.invariant.2)

pub loop-index-preserved : goal.loop-index-preserved
loop-index-preserved c =
    let so_far = c.loop-index.invariant in
    let took = c.in_ok-take_body.ensures so_far.0 so_far.1.legal so_far.2 in
    let e = c.as_slice.ensures in
    goes_on c.take_body.new.self so_far.0 c.args.bodies.now c.loop-index.index c.index-bodies-index.result c.loop-index-test.true c.index-bodies-index.is so_far.1 so_far.3 (rw (c.if-not-branch.false, e) at took)

pub returns-then-not-branch : goal.returns-then-not-branch
returns-then-not-branch c =
    let so_far = c.loop-index.invariant in
    let took = c.in_ok-take_body.ensures so_far.0 so_far.1.legal so_far.2 in
    let e = c.as_slice.ensures in
    stops c.take_body.new.self so_far.0 c.args.bodies.now c.loop-index.index c.index-bodies-index.result c.loop-index-test.true c.index-bodies-index.is so_far.1 (rw (c.if-not-branch.true, e) at took)

pub returns : goal.returns
returns c =
    let so_far = c.loop-index.invariant in
    let all = take_all c.loop-index.index c.args.bodies.now c.loop-index-test.false in
    (so_far.0, rw all at so_far.1, so_far.2, rw all at so_far.3)
