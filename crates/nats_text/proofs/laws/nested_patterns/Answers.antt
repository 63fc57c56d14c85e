use Rattle.nats_text.specs.Text.{tokens}
use Rattle.nats_text.proofs.Patterns.{within_found, within_kept}
use Rattle.nats_text.proofs.laws.nested_patterns.Goals as goal

pub returns-clause-kept : goal.returns-clause-kept
returns-clause-kept c = λ a b. (within_kept (tokens a) (tokens b), within_found (tokens a) (tokens b))

pub returns-clause-reflexive : goal.returns-clause-reflexive
returns-clause-reflexive c = λ a. within_found (tokens a) (tokens a) (λ ts h. h)

pub returns-clause-transitive : goal.returns-clause-transitive
returns-clause-transitive c = λ x y z g h.
    within_found (tokens x) (tokens z) (λ ts m. within_kept (tokens y) (tokens z) h ts (within_kept (tokens x) (tokens y) g ts m))
