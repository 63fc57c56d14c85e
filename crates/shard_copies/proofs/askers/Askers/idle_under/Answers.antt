use Rattle.std.proofs.Common.{◌≡◌, List, length, map, sym, ap, ◌∙◌, subst}
use Rattle.std.specs.Vec.{with_items}
use Rattle.std.proofs.lemmas.List.{with_items_is}
use Rattle.replica_ask.specs.Askers.{AskerState}
use Rattle.shard_copies.specs.Asked.{AskersState, AskingState, ShowsAskers, id_in}
use Rattle.shard_machine.specs.Views.{idle_under}
use Rattle.shard_copies.proofs.Shows.{shows-idle_under, rest_under, with_list}
use Rattle.shard_copies.proofs.askers.Askers.idle_under.Goals as goal

pub returns : goal.returns
returns c = λ v shows.
    let change = rest_under c.args.name.now in
    let items : (with_items c.self.inside.all c.idle_of.new.all).items ≡ map (rest_under c.args.name.now) c.self.inside.all.items =
    with_items_is c.self.inside.all c.idle_of.new.all (c.idle_of.auto.all ∙ c.deref_mut.ensures.len) ∙ (c.idle_of.ensures ∙ ap (map change) c.deref_mut.ensures.value) in
    let is : record { node = c.self.inside.node; boot = c.self.inside.boot; all = (with_items c.self.inside.all c.idle_of.new.all).items } ≡ with_list c.args.self.now (map change c.args.self.now.all) =
    (λ i. record { node = c.self.inside.node; boot = c.self.inside.boot; all = items i }) ∙ ap (λ (s : AskersState). with_list s (map change s.all)) c.self.view_is in
    subst (λ (s : AskersState). ShowsAskers s v (idle_under c.args.name.now v.askers)) (sym is) (shows-idle_under c.args.name.now c.args.self.now v v.askers shows)
