use Rattle.std.proofs.Common.{◌≡◌, ◌++◌, drop}
use Rattle.subject_transform.specs.Transforms.{without_blanks}
use Rattle.subject_transform.proofs.destination.without_blanks.Given as goal

-- what is kept and what the rest leaves are the whole
abbrev pub invariant-loop-byte : goal.invariant-loop-byte
invariant-loop-byte l = l.kept.items ++ without_blanks (drop l.byte-index l.bytes) ≡ without_blanks l.bytes
