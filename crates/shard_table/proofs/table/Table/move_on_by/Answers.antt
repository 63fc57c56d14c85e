use Rattle.std.proofs.Common.{◌≡◌, ℕ, List, [], ◌∷◌, ◌++◌, true, false, Option, Some, None, refl, sym, ap, ◌∙◌, subst}
use Rattle.std.specs.Option.{option_copied}
use Rattle.shard_machine.specs.Answers.{copy_of_asker}
use Rattle.shard_table.proofs.Hears.{copy-named, copy-nowhere}
use Rattle.shard_table.proofs.table.Table.move_on_by.Goals as goal

pub returns-in-Some-clause-askers : goal.returns-in-Some-clause-askers
returns-in-Some-clause-askers c = λ v copy shows found decided.
    let named = sym c.addressee.ensures ∙ ap option_copied c.in-Some.is in
    let is = copy-named v c.in-Some.id.now c.args.packet.now copy named found in
    c.follow.ensures v copy shows is.0 is.1 decided

pub returns-in-None-clause-askers : goal.returns-in-None-clause-askers
returns-in-None-clause-askers c = λ v copy shows found decided.
    let none : None ≡ Some copy = sym (copy-nowhere v c.args.packet.now (sym c.addressee.ensures ∙ ap option_copied c.in-None.is)) ∙ found in
    absurd (cc)
