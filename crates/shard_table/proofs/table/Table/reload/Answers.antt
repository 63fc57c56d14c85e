use Rattle.std.proofs.Common.{sym, subst}
use Rattle.log_replay.specs.declared.replay.Replay.{Replay}
use Rattle.shard_machine.specs.Images.{image}
use Rattle.shard_streams.specs.HeldImages.{HoldsImage}
use Rattle.shard_table.proofs.table.Table.reload.Goals as goal

pub returns-clause-held : goal.returns-clause-held
returns-clause-held c = λ log legal replayed. c.begin.ensures.held (image log) (subst (λ (r : Replay). HoldsImage r (image log)) (sym c.of_replay.ensures) (c.images_of_replays.ensures c.args.streams log legal replayed))
