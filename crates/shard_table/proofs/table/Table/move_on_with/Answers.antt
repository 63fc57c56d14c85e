use Rattle.std.proofs.Common.{◌≡◌, ℕ, List, [], ◌∷◌, ◌++◌, true, false, Option, Some, None, refl, sym, ap, ◌∙◌, subst}
use Rattle.std.specs.Option.{option_copied}
use Rattle.shard_table.proofs.CommitSteps.{moves-with}
use Rattle.shard_table.proofs.table.Table.move_on_with.Goals as goal

pub returns-in-Heard-clause-askers : goal.returns-in-Heard-clause-askers
returns-in-Heard-clause-askers c = λ v copy packet now shows is found decided.
    moves-with c.move_on_by.new.self.askers v copy c.args.decision.now c.in-Heard.packet packet c.in-Heard.now now (sym c.in-Heard.is ∙ is)
    (λ here so. c.move_on_by.ensures.askers v copy shows here so) found decided

pub returns-in_default-clause-askers : goal.returns-in_default-clause-askers
returns-in_default-clause-askers c = λ v copy packet now shows is found decided. absurd (c.in_default.not-Heard packet now is)
