use Rattle.std.proofs.Common.{◌≡◌}
use Rattle.std.specs.Prelude.{fold, map}
use Rattle.std.specs.List.{concat}
use Rattle.nats_text.specs.Hash.{fnv1a, fnv1a_next}
use Rattle.nats_text.specs.Pieces.{pieces}
use Rattle.nats_text.specs.Text.{tokens}
use Rattle.subject_transform.specs.Parts.{number}
use Rattle.subject_transform.specs.PartsOf.{pieces_of, text_length}
use Rattle.subject_transform.specs.Values.{taken}
use Rattle.subject_transform.proofs.value.partition_of.Given as goal

-- the rest goes on from the hash so far
abbrev pub invariant-loop-rest : goal.invariant-loop-rest
invariant-loop-rest l =
    fold fnv1a_next l.hash (concat (map (taken (tokens l.source) (tokens l.subject)) (map number (pieces_of 44 l.rest))))
    ≡ fnv1a (concat (map (taken (tokens l.source) (tokens l.subject)) (map number (pieces 44 l.indexes))))

abbrev pub decreases-loop-rest : goal.decreases-loop-rest
decreases-loop-rest l = text_length l.rest
