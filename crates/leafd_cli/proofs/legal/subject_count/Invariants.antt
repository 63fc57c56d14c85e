use Rattle.std.proofs.Common.{take}
use Rattle.leafd_cli.specs.Legal.{subject_count, IsCapped}
use Rattle.leafd_cli.proofs.legal.subject_count.Given as goal

-- the subjects of the streams so far
abbrev pub invariant-loop-stream : goal.invariant-loop-stream
invariant-loop-stream l = IsCapped l.count (subject_count (take l.stream-index l.streams))
