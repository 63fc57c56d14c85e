use Rattle.std.proofs.Common.{◌≡◌, ◌++◌, length}
use Rattle.subject_transform.specs.Values.{parts_behind, split_by}
use Rattle.subject_transform.proofs.Parted.{remaining}
use Rattle.subject_transform.proofs.split.push_split.Given as goal

-- what is added and what the rest of the token adds are the whole
abbrev pub invariant-loop-part : goal.invariant-loop-part
invariant-loop-part l = l.buf.items ++ remaining l.are_some (parts_behind l.separator 0 l.rest) ≡ l.initial.buf.items ++ split_by l.separator l.token

abbrev pub decreases-loop-part : goal.decreases-loop-part
decreases-loop-part l = length l.rest
