use Rattle.std.proofs.Common.{◌++◌, ◌∷◌, []}
use Rattle.std.proofs.lemmas.Result.{err_from_is_err_and}
use Rattle.record_codec.specs.Reading.{items_at}
use Rattle.record_codec.proofs.Loops.{goes_on, ends_bad, is_done, from_here}
use Rattle.record_codec.proofs.items.skim_items.Goals as goal

pub loop-init : goal.loop-init
loop-init g c = ([], from_here g.T.Item.at c.args.count c.args.bytes.now)

pub returns-in_err-rest : goal.returns-in_err-rest
returns-in_err-rest g c =
    let so_far = c.loop.invariant in
    let p = err_from_is_err_and c.from_residual.result c.from_residual.ensures.1 in
    rw (p.1, p.2) (ends_bad g.T.Item.at c.in_err-rest.field-0.0.left so_far.0 c.args.count c.loop.counter c.loop.rest.now (items_at g.T.Item.at c.args.count c.args.bytes.now) c.loop-test.true c.in_err-rest.ensures so_far.1)

pub loop-preserved : goal.loop-preserved
loop-preserved g c =
    let so_far = c.loop.invariant in
    let item = c.in_ok-rest.ensures in (
      so_far.0 ++ item.0 ∷ [],
      goes_on g.T.Item.at so_far.0 c.args.count c.loop.counter c.loop.rest.now item.0 c.in_ok-rest.rest.now (items_at g.T.Item.at c.args.count c.args.bytes.now) c.loop-test.true item.1 so_far.1,
    )

pub returns : goal.returns
returns g c = (c.loop.invariant.0, is_done g.T.Item.at c.loop.invariant.0 c.args.count c.loop.counter c.loop.rest.now (items_at g.T.Item.at c.args.count c.args.bytes.now) c.loop-test.false c.loop.invariant.1)
