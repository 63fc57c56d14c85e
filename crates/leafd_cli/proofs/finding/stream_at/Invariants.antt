use Rattle.std.proofs.Common.{◌≡◌, drop}
use Rattle.leafd_cli.specs.Logs.{stream_at}
use Rattle.leafd_cli.proofs.finding.stream_at.Given as goal

-- the stream is not among those that were looked at
abbrev pub invariant-loop-stream : goal.invariant-loop-stream
invariant-loop-stream l = stream_at l.node l.name (drop l.stream-index l.streams) ≡ stream_at l.node l.name l.streams
