use Rattle.mirror_core.proofs.Lengths.{journalled}
use Rattle.mirror_core.proofs.mirrored.decide.Goals as goal

pub returns-clause-journalled : goal.returns-clause-journalled
returns-clause-journalled c = journalled _ c.legal_name.ensures _ c.decision_for.ensures.short
