use Rattle.std.proofs.Common.{◌≡◌, List, Some, None, sym, ap, ◌∙◌}
use Rattle.std.specs.Prelude.{find}
use Rattle.std.specs.Option.{option_copied}
use Rattle.stream_fold.specs.Facts.{facts}
use Rattle.js_wire.specs.declared.packet.AskerId.{AskerId}
use Rattle.replica_ask.specs.Askers.{AskerState}
use Rattle.shard_copies.specs.Asked.{AskersState, is_of, id_in}
use Rattle.shard_copies.proofs.Deciding.{asker-found, decides-none}
use Rattle.shard_copies.proofs.askers.Askers.decide.Goals as goal

pub returns-in-Some-clause-exact : goal.returns-in-Some-clause-exact
returns-in-Some-clause-exact c = λ v h shows stands.
    let name = c.args.name.now in
    let index = c.args.index in
    let id : AskerId = record { node = c.self.inside.node; stream = name; index = index } in
    let found : find (is_of (id_in c.args.self.now name index)) c.args.self.now.all ≡ Some c.in-Some.asker.now =
    ap (λ (s : AskersState). find (is_of (id_in s name index)) s.all) (sym c.self.view_is)
    ∙ (ap (λ (l : List AskerState). find (is_of id) l) (sym c.deref.ensures.value) ∙ (sym c.kept.ensures ∙ ap option_copied c.in-Some.is)) in
    c.decided.ensures.exact v h name stands (asker-found c.args.self.now v shows name index c.in-Some.asker.now found)

pub returns-in-None-clause-exact : goal.returns-in-None-clause-exact
returns-in-None-clause-exact c = λ v h shows stands.
    let name = c.args.name.now in
    let index = c.args.index in
    let id : AskerId = record { node = c.self.inside.node; stream = name; index = index } in
    let none : find (is_of (id_in c.args.self.now name index)) c.args.self.now.all ≡ None =
    ap (λ (s : AskersState). find (is_of (id_in s name index)) s.all) (sym c.self.view_is)
    ∙ (ap (λ (l : List AskerState). find (is_of id) l) (sym c.deref.ensures.value) ∙ (sym c.kept.ensures ∙ ap option_copied c.in-None.is)) in
    sym (decides-none c.args.self.now v shows name (facts h) index c.args.now c.args.packet.now none)
