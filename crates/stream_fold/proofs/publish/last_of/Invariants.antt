use Rattle.std.proofs.Common.{◌≡◌, drop}
use Rattle.stream_fold.specs.Histories.{either}
use Rattle.stream_fold.specs.Publishing.{last_of}
use Rattle.stream_fold.proofs.publish.last_of.Given as goal

-- what the rest gives, else what was found, is the answer
abbrev pub invariant-loop-row : goal.invariant-loop-row
invariant-loop-row l = either (last_of l.subject (drop l.row-index l.rows)) l.last ≡ last_of l.subject l.rows
