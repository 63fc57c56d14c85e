use Rattle.std.proofs.Common.{refl}
use Rattle.shard_machine.specs.Logs.{boot_after, named_after}
use Rattle.log_replay.proofs.replay.Replay.new.Goals as goal

pub returns : goal.returns
unfolding boot_after named_after
returns c = record { boot_is = refl; knows = λ name. rw c.new.ensures.empty (refl, refl) }
