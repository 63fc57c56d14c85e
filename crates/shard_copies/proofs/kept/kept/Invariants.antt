use Rattle.std.proofs.Common.{◌≡◌, drop}
use Rattle.std.specs.Prelude.{find}
use Rattle.shard_copies.specs.Asked.{is_of}
use Rattle.shard_copies.proofs.kept.kept.Given as goal

-- none of those that were looked at has the name
abbrev pub invariant-loop-asker : goal.invariant-loop-asker
invariant-loop-asker l = find (is_of (record { node = l.node; stream = l.stream; index = l.index })) (drop l.asker-index l.all) ≡ find (is_of (record { node = l.node; stream = l.stream; index = l.index })) l.all
