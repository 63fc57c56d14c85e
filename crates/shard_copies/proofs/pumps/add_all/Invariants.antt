use Rattle.std.proofs.Common.{◌≡◌, ◌++◌}
use Rattle.shard_copies.proofs.pumps.add_all.Given as goal

-- those that came stand behind the others
abbrev pub invariant-loop-packet : goal.invariant-loop-packet
invariant-loop-packet l = l.packets ≡ l.initial.packets ++ l.yielded
