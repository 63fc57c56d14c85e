use Rattle.std.proofs.Common.{◌≡◌, ◌++◌, take}
use Rattle.std.specs.List.{flat_map}
use Rattle.leafd_cli.specs.Report.{pair_text}
use Rattle.leafd_cli.proofs.report.push_pairs.Given as goal

-- those so far were added
abbrev pub invariant-loop-pair : goal.invariant-loop-pair
invariant-loop-pair l = l.report.items ≡ l.initial.report.items ++ flat_map pair_text (take l.pair-index l.pairs)
