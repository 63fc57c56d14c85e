use Rattle.std.proofs.Common.{arith}
use Rattle.push_consumer.proofs.Counting.{has_place}
use Rattle.push_consumer.proofs.send.send.Goals as goal

pub request-requires-clause-room : goal.request-requires-clause-room
request-requires-clause-room c = omega (arith, has_place c.args.counts.now c.requires.sound c.requires.open_window, c.in_ok-deliver.ensures.held)
