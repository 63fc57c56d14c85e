use Rattle.std.proofs.Common.{◌≡◌, ◌+◌, ◌≤◌, length}
use Rattle.nats_text.specs.Text.{tokens}
use Rattle.subject_transform.specs.PartsOf.{pieces_of, text_length}
use Rattle.subject_transform.specs.Transforms.{star_count}
use Rattle.subject_transform.proofs.destination.star_count.Given as goal

-- those that were counted and those of the rest are all; no token is without a byte or a dot behind it
abbrev pub invariant-loop-rest : goal.invariant-loop-rest
invariant-loop-rest l = record {
  all : l.count + star_count (pieces_of 46 l.rest) ≡ star_count (tokens l.source);
  few : l.count + text_length l.rest ≤ length l.source + 1;
}

abbrev pub decreases-loop-rest : goal.decreases-loop-rest
decreases-loop-rest l = text_length l.rest
