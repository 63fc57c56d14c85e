use Rattle.std.proofs.Common.{◌≡◌, ◌++◌, take}
use Rattle.std.specs.List.{flat_map}
use Rattle.leafd_cli.specs.Inspecting.{stream_text}
use Rattle.leafd_cli.proofs.inspect.push_streams.Given as goal

-- the streams so far were added
abbrev pub invariant-loop-facts : goal.invariant-loop-facts
invariant-loop-facts l = l.report.items ≡ l.initial.report.items ++ flat_map (stream_text l.shard) (take l.facts-index l.streams)
