use Rattle.std.proofs.Common.{sym, ap, ◌∙◌, subst}
use Rattle.stream_fold.specs.Copying.{origin_named}
use Rattle.source_core.specs.Origins.{HasSource}
use Rattle.source_core.proofs.Legal.{source-legal}
use Rattle.decision_rows.proofs.made.made_by.Goals as goal

pub via-requires : goal.via-requires
via-requires c =
    source-legal c.args.config.now 0 c.in-Some.want.now c.requires.legal
    (subst (HasSource 0) (sym c.requires.origins) c.in-Some.ensures.within)
    (ap (origin_named 0) c.requires.origins ∙ sym c.in-Some.ensures.value)
