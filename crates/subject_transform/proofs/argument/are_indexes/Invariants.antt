use Rattle.std.proofs.Common.{◌≡◌}
use Rattle.std.specs.List.{list_all}
use Rattle.nats_text.specs.Pieces.{pieces}
use Rattle.subject_transform.specs.Parts.{is_index}
use Rattle.subject_transform.specs.PartsOf.{pieces_of, text_length}
use Rattle.subject_transform.proofs.argument.are_indexes.Given as goal

-- the rest decides
abbrev pub invariant-loop-rest : goal.invariant-loop-rest
invariant-loop-rest l = list_all (is_index l.stars) (pieces_of 44 l.rest) ≡ list_all (is_index l.stars) (pieces 44 l.text)

abbrev pub decreases-loop-rest : goal.decreases-loop-rest
decreases-loop-rest l = text_length l.rest
