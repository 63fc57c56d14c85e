use Rattle.std.proofs.Common.{◌≡◌, List, length, map, sym, ap, ◌∙◌, subst}
use Rattle.std.specs.Vec.{with_items}
use Rattle.std.proofs.lemmas.List.{with_items_is}
use Rattle.replica_ask.specs.Askers.{AskerState}
use Rattle.shard_copies.specs.Asked.{AskersState, AskingState, ShowsAskers, id_in}
use Rattle.shard_machine.specs.Views.{asker_of, with_all_asked}
use Rattle.shard_copies.specs.Asked.{asked_of}
use Rattle.shard_copies.specs.Places.{put_all}
use Rattle.shard_copies.proofs.Shows.{shows-asked, asker-shown, shown-id, with_list}
use Rattle.shard_copies.proofs.askers.Askers.asked.Goals as goal

pub returns-clause-shown : goal.returns-clause-shown
returns-clause-shown c = λ v now copies shows is_so.
    let ones = c.args.asking.askers in
    let items : (with_items c.self.inside.all c.put_all.new.all).items ≡ put_all ones c.self.inside.all.items =
    with_items_is c.self.inside.all c.put_all.new.all (c.put_all.auto.all ∙ c.deref_mut.ensures.len)
    ∙ (c.put_all.ensures ∙ (ap (put_all c.asking.inside.askers.items) c.deref_mut.ensures.value ∙ ap (λ (a : AskingState). put_all a.askers c.self.inside.all.items) c.asking.view_is)) in
    let is : record { node = c.self.inside.node; boot = c.self.inside.boot; all = (with_items c.self.inside.all c.put_all.new.all).items } ≡ with_list c.args.self.now (put_all ones c.args.self.now.all) =
    (λ i. record { node = c.self.inside.node; boot = c.self.inside.boot; all = items i }) ∙ ap (λ (s : AskersState). with_list s (put_all ones s.all)) c.self.view_is in
    subst (λ (s : AskersState). ShowsAskers s v (with_all_asked v now copies v.askers)) (sym is)
    (shows-asked v now copies c.args.self.now v.askers ones (λ x. ap (λ (a : AskerState). a.id) (asker-shown c.args.self.now v shows x) ∙ shown-id c.args.self.now x.stream x.index) is_so c.requires shows)
