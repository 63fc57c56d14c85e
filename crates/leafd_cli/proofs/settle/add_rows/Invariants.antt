use Rattle.std.proofs.Common.{◌≡◌, ◌++◌, map, take, drop}
use Rattle.stream_fold.specs.Histories.{last}
use Rattle.leafd_cli.specs.Plain.{copied_entry}
use Rattle.leafd_cli.specs.Keeping.{CanFollow}
use Rattle.leafd_cli.proofs.settle.add_rows.Given as goal

-- the rows so far were added, and the others may follow
abbrev pub invariant-loop-row : goal.invariant-loop-row
invariant-loop-row l = record {
  stream : l.stream ≡ record l.initial.stream { entries = l.initial.stream.entries ++ map copied_entry (take l.row-index l.rows) };
  rest : CanFollow (last l.stream.entries) (drop l.row-index l.rows);
}
