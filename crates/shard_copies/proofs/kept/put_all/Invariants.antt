use Rattle.std.proofs.Common.{◌≡◌}
use Rattle.shard_copies.specs.Places.{put_all}
use Rattle.shard_copies.proofs.kept.put_all.Given as goal

-- those that came are in their places
abbrev pub invariant-loop-asker : goal.invariant-loop-asker
invariant-loop-asker l = l.all ≡ put_all l.yielded l.initial.all
