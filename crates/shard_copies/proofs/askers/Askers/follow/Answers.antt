use Rattle.std.proofs.Common.{◌≡◌, List, length, map, sym, ap, ◌∙◌, subst}
use Rattle.std.specs.Vec.{with_items}
use Rattle.std.proofs.lemmas.List.{with_items_is}
use Rattle.replica_ask.specs.Askers.{AskerState}
use Rattle.shard_copies.specs.Asked.{AskersState, AskingState, ShowsAskers, id_in}
use Rattle.shard_machine.specs.Views.{asker_of, with_asker}
use Rattle.replica_ask.specs.Askers.{with_phase}
use Rattle.shard_copies.specs.Asked.{phase_behind}
use Rattle.shard_copies.specs.Places.{changed_in, moved_on}
use Rattle.shard_copies.proofs.Shows.{with_list}
use Rattle.shard_copies.proofs.Deciding.{follows-shows}
use Rattle.shard_copies.proofs.askers.Askers.follow.Goals as goal

pub returns : goal.returns
returns c = λ v copy shows stream number is_so.
    let name = c.args.name.now in
    let index = c.args.index in
    let change = moved_on c.args.decision.now c.args.packet.now c.args.now in
    let items : (with_items c.self.inside.all c.move_on_in.new.all).items ≡ changed_in (record { node = c.self.inside.node; stream = name; index = index }) change c.self.inside.all.items =
    with_items_is c.self.inside.all c.move_on_in.new.all (c.move_on_in.auto.all ∙ c.deref_mut.ensures.len)
    ∙ (c.move_on_in.ensures ∙ ap (changed_in (record { node = c.self.inside.node; stream = name; index = index }) change) c.deref_mut.ensures.value) in
    let is : record { node = c.self.inside.node; boot = c.self.inside.boot; all = (with_items c.self.inside.all c.move_on_in.new.all).items } ≡ with_list c.args.self.now (changed_in (id_in c.args.self.now name index) change c.args.self.now.all) =
    (λ i. record { node = c.self.inside.node; boot = c.self.inside.boot; all = items i }) ∙ ap (λ (s : AskersState). with_list s (changed_in (id_in s name index) change s.all)) c.self.view_is in
    subst (λ (s : AskersState). ShowsAskers s v (with_asker copy.stream copy.index (with_phase (asker_of v copy) (phase_behind c.args.decision.now c.args.packet.now c.args.now (asker_of v copy).phase)) v.askers)) (sym is)
    (follows-shows c.args.self.now v copy name index c.args.decision.now c.args.packet.now c.args.now shows stream number is_so)
