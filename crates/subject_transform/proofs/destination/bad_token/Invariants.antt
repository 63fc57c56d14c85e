use Rattle.std.proofs.Common.{◌≡◌, ◌+◌, length}
use Rattle.nats_text.specs.Text.{tokens}
use Rattle.subject_transform.specs.Reading.{fault_of}
use Rattle.subject_transform.specs.Transforms.{read_tokens}
use Rattle.subject_transform.proofs.destination.bad_token.Given as goal

-- the rest has the first fault of the whole, and begins at the place
abbrev pub invariant-loop-token : goal.invariant-loop-token
invariant-loop-token l = record {
  fault : fault_of (read_tokens l.stars l.wants_tail l.place (tokens l.rest)) ≡ fault_of (read_tokens l.stars l.wants_tail 0 (tokens l.dest));
  at : l.place + length l.rest ≡ length l.dest;
}

abbrev pub decreases-loop-token : goal.decreases-loop-token
decreases-loop-token l = length l.rest
