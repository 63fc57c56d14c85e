use Rattle.std.proofs.Common.{◌≡◌, ◌++◌, take}
use Rattle.std.specs.List.{flat_map}
use Rattle.leafd_cli.specs.Report.{logged_entry}
use Rattle.leafd_cli.proofs.report.push_entries.Given as goal

-- those so far were added
abbrev pub invariant-loop-entry : goal.invariant-loop-entry
invariant-loop-entry l = l.report.items ≡ l.initial.report.items ++ flat_map logged_entry (take l.entry-index l.entries)
