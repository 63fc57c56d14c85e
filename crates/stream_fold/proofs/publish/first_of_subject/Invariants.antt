use Rattle.std.proofs.Common.{◌≡◌, drop}
use Rattle.std.specs.Prelude.{find}
use Rattle.std.specs.Str.{bytes_eq}
use Rattle.stream_fold.proofs.publish.first_of_subject.Given as goal

-- none of those that were looked at has the subject
abbrev pub invariant-loop-row : goal.invariant-loop-row
invariant-loop-row l = find (λ row. bytes_eq row.message.subject l.subject) (drop l.row-index l.rows) ≡ find (λ row. bytes_eq row.message.subject l.subject) l.rows
