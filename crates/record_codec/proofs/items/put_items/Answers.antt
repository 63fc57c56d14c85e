use Rattle.std.proofs.Common.{take}
use Rattle.std.specs.List.{flat_map}
use Rattle.nats_text.specs.Headers.{Extends}
use Rattle.record_codec.proofs.Writes.{put_more, extends_after, at_err}
use Rattle.record_codec.proofs.items.put_items.Goals as goal

pub loop-item-preserved : goal.loop-item-preserved
loop-item-preserved g c =
    put_more g.T.Item.text g.T.Item.is_item c.args.items.now c.loop-item.item-index c.item-item.result c.args.buf.now.items c.loop-item.buf.items c.put.new.buf.items c.loop-item-test.true c.item-item.is c.loop-item.invariant c.in_ok-put.ensures.ok c.in_ok-put.ensures.short

pub returns-in_err-put-clause-err : goal.returns-in_err-put-clause-err
returns-in_err-put-clause-err g c =
    at_err c.from_residual.result (Extends c.args.buf.now.items c.put.new.buf.items)
    (extends_after c.args.buf.now.items (flat_map g.T.Item.text (take c.loop-item.item-index c.args.items.now)) c.loop-item.buf.items c.put.new.buf.items c.loop-item.invariant.0 c.in_err-put.ensures.err)
