use Rattle.std.proofs.lemmas.Bool.Decides.{same_from_decides}
use Rattle.nats_text.specs.Text.{tokens}
use Rattle.nats_text.specs.Matching.{overlap, Overlap}
use Rattle.nats_text.proofs.Patterns.{overlap_found, overlap_from}
use Rattle.nats_text.proofs.laws.overlapping_patterns.Goals as goal

pub returns-clause-met : goal.returns-clause-met
returns-clause-met c = λ a b. (overlap_found (tokens a) (tokens b), λ found. overlap_from (tokens a) (tokens b) found.0 found.1 found.2)

pub returns-clause-symmetric : goal.returns-clause-symmetric
returns-clause-symmetric c = λ a b.
    same_from_decides {P = Overlap a b} (overlap a b) (overlap b a)
    (overlap_found (tokens a) (tokens b), λ found. overlap_from (tokens a) (tokens b) found.0 found.1 found.2)
    (λ h. let found = overlap_found (tokens b) (tokens a) h in (found.0, found.2, found.1), λ found. overlap_from (tokens b) (tokens a) found.0 found.2 found.1)
