use Rattle.std.proofs.Common.{◌≡◌, ℕ, ◌<◌, false}
use Rattle.subject_transform.proofs.Parted.{occurs}
use Rattle.subject_transform.proofs.split.cut_at.Given as goal

-- the separator doesn't begin before
abbrev pub invariant-loop-at : goal.invariant-loop-at
invariant-loop-at l = (k : ℕ) → k < l.at → occurs l.separator l.bytes k ≡ false
