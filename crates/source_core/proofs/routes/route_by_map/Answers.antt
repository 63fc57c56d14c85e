use Rattle.source_core.proofs.Words.{source-word}
use Rattle.source_core.proofs.routes.route_by_map.Goals as goal

pub kept_subject-requires : goal.kept_subject-requires
kept_subject-requires c = rw c.as_slice-then-leaves_subject.ensures (source-word c.args.map.now c.requires)
