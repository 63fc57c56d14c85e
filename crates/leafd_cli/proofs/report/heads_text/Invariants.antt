use Rattle.std.proofs.Common.{◌≡◌, take}
use Rattle.std.specs.List.{flat_map}
use Rattle.leafd_cli.specs.Report.{head_text, streams_on}
use Rattle.leafd_cli.proofs.report.heads_text.Given as goal

-- the heads of the nodes so far
abbrev pub invariant-loop-node : goal.invariant-loop-node
invariant-loop-node l = l.report.items ≡ flat_map (λ node. flat_map head_text (streams_on l.streams node)) (take l.node-index l.nodes)
