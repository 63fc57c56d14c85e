use Rattle.std.proofs.Common.{subst}
use Rattle.nats_text.specs.declared.message.Message.{Message}
use Rattle.shard_streams.specs.Plans.{PlansPublish}
use Rattle.shard_streams.proofs.publishing.publish_under.Goals as goal

pub returns-in-Ok : goal.returns-in-Ok
returns-in-Ok c = λ v name known is.
    subst (λ (m : Message). PlansPublish v name known.stream m c.args.now c.publish_own.result) c.in-Ok.ensures (c.publish_own.ensures v name known is)
