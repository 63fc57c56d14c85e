use Rattle.std.proofs.Common.{◌≡◌, length}
use Rattle.nats_text.specs.Text.{tokens}
use Rattle.subject_transform.specs.Reading.{text_behind}
use Rattle.subject_transform.specs.Transforms.{read_tokens, text_of}
use Rattle.subject_transform.proofs.destination.tokens_text.Given as goal

-- what is written and what the rest gives are the whole
abbrev pub invariant-loop-token : goal.invariant-loop-token
invariant-loop-token l = text_behind l.buf.items (text_of (tokens l.source) (tokens l.subject) (read_tokens l.stars l.wants_tail 0 (tokens l.rest))) ≡ text_of (tokens l.source) (tokens l.subject) (read_tokens l.stars l.wants_tail 0 (tokens l.dest))

abbrev pub decreases-loop-token : goal.decreases-loop-token
decreases-loop-token l = length l.rest
