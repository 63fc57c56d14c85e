use Rattle.std.proofs.Common.{◌≡◌, drop}
use Rattle.subject_transform.specs.Mapped.{mapped}
use Rattle.subject_transform.proofs.mappings.Mappings.apply.Given as goal

-- no source before matches
abbrev pub invariant-loop-transform : goal.invariant-loop-transform
invariant-loop-transform l = mapped (drop l.transform-index l.self) l.subject ≡ mapped l.self l.subject
