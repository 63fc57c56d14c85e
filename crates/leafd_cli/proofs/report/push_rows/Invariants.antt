use Rattle.std.proofs.Common.{◌≡◌, ◌++◌, take}
use Rattle.std.specs.List.{flat_map}
use Rattle.leafd_cli.specs.Report.{row_text}
use Rattle.leafd_cli.proofs.report.push_rows.Given as goal

-- the rows so far were added
abbrev pub invariant-loop-row : goal.invariant-loop-row
invariant-loop-row l = l.report.items ≡ l.initial.report.items ++ flat_map row_text (take l.row-index l.rows)
