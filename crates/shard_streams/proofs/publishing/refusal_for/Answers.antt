use Rattle.shard_streams.proofs.Publishes.{refusal-other}
use Rattle.shard_streams.proofs.publishing.refusal_for.Goals as goal

pub returns-in_default : goal.returns-in_default
returns-in_default c = refusal-other c.args.why c.in_default.not-NoMemory
