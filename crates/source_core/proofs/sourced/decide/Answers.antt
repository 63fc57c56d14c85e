use Rattle.mirror_core.proofs.Lengths.{journalled}
use Rattle.source_core.proofs.Legal.{source-legal}
use Rattle.source_core.proofs.sourced.decide.Goals as goal

pub decision_for-requires : goal.decision_for-requires
decision_for-requires c = source-legal c.args.state.now.held.limits c.args.index _ c.requires.legal c.requires.source (rw c.config.ensures at c.origin_of-want.ensures)

pub returns-clause-journalled : goal.returns-clause-journalled
returns-clause-journalled c = journalled _ c.legal_name.ensures _ c.decision_for.ensures.short
