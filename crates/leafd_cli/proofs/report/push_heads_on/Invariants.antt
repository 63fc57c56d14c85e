use Rattle.std.proofs.Common.{◌≡◌, ◌++◌, take}
use Rattle.std.specs.List.{flat_map}
use Rattle.leafd_cli.specs.Report.{head_text, streams_on}
use Rattle.leafd_cli.proofs.report.push_heads_on.Given as goal

-- the heads of the node's streams so far were added
abbrev pub invariant-loop-stream : goal.invariant-loop-stream
invariant-loop-stream l = l.report.items ≡ l.initial.report.items ++ flat_map head_text (streams_on (take l.stream-index l.streams) l.node)
