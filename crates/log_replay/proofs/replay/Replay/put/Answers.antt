use Rattle.std.proofs.Common.{refl, Some}
use Rattle.log_replay.proofs.MapSteps.{puts}
use Rattle.log_replay.proofs.replay.Replay.put.Goals as goal

pub returns : goal.returns
returns c = (refl, puts c.args.key.items (Some c.args.known) c.args.self.now.names c.insert.new.self c.in_ok-insert.ensures.updates)
