use Rattle.std.proofs.Common.{sym, ap, ◌∙◌}
use Rattle.shard_copies.specs.Places.{put_in}
use Rattle.shard_copies.proofs.Steps.{put_all-push}
use Rattle.shard_copies.proofs.kept.put_all.Goals as goal

pub loop-asker-preserved : goal.loop-asker-preserved
loop-asker-preserved c = c.put_in.ensures ∙ (ap (put_in c.in-Some.asker) c.loop-asker.invariant ∙ sym (put_all-push c.loop-asker.yielded c.in-Some.asker c.args.all.now))
