use Rattle.source_core.proofs.Words.{pattern-word}
use Rattle.source_core.proofs.routes.route_by_filter.Goals as goal

pub kept_subject-requires-in-Some : goal.kept_subject-requires-in-Some
kept_subject-requires-in-Some c = rw c.bytes.ensures.value (pattern-word _ c.bytes.ensures.legal)
