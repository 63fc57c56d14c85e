use Rattle.std.proofs.Common.{◌≡◌, ℕ, length}
use Rattle.nats_text.proofs.WrittenBlocks.{written_from}
use Rattle.nats_text.proofs.header_lines.are_written.Given as goal

-- the rest is written where the whole is, wherever this is read
abbrev pub invariant-loop-line : goal.invariant-loop-line
invariant-loop-line l = (place : ℕ) → (next : ℕ) × (written_from next l.rest ≡ written_from place l.lines)

abbrev pub decreases-loop-line : goal.decreases-loop-line
decreases-loop-line l = length l.rest
