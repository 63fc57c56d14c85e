use Rattle.std.proofs.Common.{◌≡◌}
use Rattle.std.specs.List.{list_all}
use Rattle.nats_text.specs.Pieces.{pieces}
use Rattle.subject_transform.specs.Parts.{is_number}
use Rattle.subject_transform.specs.PartsOf.{pieces_of, text_length}
use Rattle.subject_transform.proofs.argument.are_numbers.Given as goal

-- the rest decides
abbrev pub invariant-loop-rest : goal.invariant-loop-rest
invariant-loop-rest l = list_all is_number (pieces_of 44 l.rest) ≡ list_all is_number (pieces 44 l.text)

abbrev pub decreases-loop-rest : goal.decreases-loop-rest
decreases-loop-rest l = text_length l.rest
