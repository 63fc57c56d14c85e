use Rattle.std.proofs.Common.{List, refl, sym, ap, subst}
use Rattle.std.specs.Prelude.{OnOk}
use Rattle.shard_machine.specs.Views.{Copy}
use Rattle.shard_copies.specs.Asked.{Asks, chosen}
use Rattle.shard_table.proofs.Asking.{asks-gone, copies-facts, holds-same}
use Rattle.shard_table.proofs.table.Table.ask_under.Goals as goal

pub returns-in-None-clause-asks : goal.returns-in-None-clause-asks
returns-in-None-clause-asks c = λ v held. asks-gone c.args.asking.now v c.args.now c.args.which.now c.args.name.now (c.in-None.ensures v.image held.streams)

pub returns-in-Some-clause-held : goal.returns-in-Some-clause-held
returns-in-Some-clause-held c = λ v held. holds-same c.args.self.now _ v refl refl c.ask.ensures.shown held

pub returns-in-Some-clause-asks : goal.returns-in-Some-clause-asks
returns-in-Some-clause-asks c = λ v held.
    let (known, live, is) = c.in-Some.ensures v.image held.streams in
    subst (λ (cs : List Copy). OnOk c.ask.result (Asks c.args.asking.now c.ask.new.asking v c.args.now (chosen c.args.which.now v c.args.now cs))) (sym (copies-facts v c.args.name.now known is.history live is.facts_are))
    (c.ask.ensures.asks v is.history held.askers is.state)
