use Rattle.leafd_cli.proofs.Growing.{settles_more}
use Rattle.leafd_cli.proofs.settle.settle.Goals as goal

pub loop-place-preserved : goal.loop-place-preserved
loop-place-preserved c =
    let i = c.loop-place.invariant in
    let m = settles_more c.loop-place.place c.args.streams.now.items c.loop-place.streams.items c.feed.new.streams.items c.len-place-end.result c.loop-place-test.true (record { copies = c.requires.copies; numbers = c.requires.numbers }) i.streams i.many c.in_ok-feed.ensures in
    record { streams = m.streams; many = m.many; kept = m.kept }
