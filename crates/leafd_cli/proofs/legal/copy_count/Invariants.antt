use Rattle.std.proofs.Common.{take}
use Rattle.leafd_cli.specs.Legal.{copy_count, IsCapped}
use Rattle.leafd_cli.proofs.legal.copy_count.Given as goal

-- the copies among the streams so far
abbrev pub invariant-loop-stream : goal.invariant-loop-stream
invariant-loop-stream l = IsCapped l.count (copy_count l.node l.name (take l.stream-index l.streams))
