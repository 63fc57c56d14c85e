use Rattle.std.proofs.Common.{◌≡◌, List, length, map, sym, ap, ◌∙◌, subst}
use Rattle.std.specs.Vec.{with_items}
use Rattle.std.proofs.lemmas.List.{with_items_is}
use Rattle.replica_ask.specs.Askers.{AskerState}
use Rattle.shard_copies.specs.Asked.{AskersState, AskingState, ShowsAskers, id_in}
use Rattle.shard_machine.specs.Views.{idle_askers}
use Rattle.shard_copies.proofs.Lookups.{rest_of}
use Rattle.shard_copies.proofs.Shows.{shows-idle, with_list}
use Rattle.shard_copies.proofs.askers.Askers.idle_all.Goals as goal

pub returns : goal.returns
returns c = λ v shows.
    let items : (with_items c.self.inside.all c.idle_each.new.all).items ≡ map rest_of c.self.inside.all.items =
    with_items_is c.self.inside.all c.idle_each.new.all (c.idle_each.auto.all ∙ c.deref_mut.ensures.len) ∙ (c.idle_each.ensures ∙ ap (map rest_of) c.deref_mut.ensures.value) in
    let is : record { node = c.self.inside.node; boot = c.self.inside.boot; all = (with_items c.self.inside.all c.idle_each.new.all).items } ≡ with_list c.args.self.now (map rest_of c.args.self.now.all) =
    (λ i. record { node = c.self.inside.node; boot = c.self.inside.boot; all = items i }) ∙ ap (λ (s : AskersState). with_list s (map rest_of s.all)) c.self.view_is in
    subst (λ (s : AskersState). ShowsAskers s v (idle_askers v.askers)) (sym is) (shows-idle c.args.self.now v v.askers shows)
