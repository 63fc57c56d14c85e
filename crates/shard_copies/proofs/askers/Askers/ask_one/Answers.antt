use Rattle.std.proofs.Common.{◌≡◌, ℕ, List, [], ◌∷◌, ◌++◌, IsSome, sym, ap, ◌∙◌, subst}
use Rattle.std.specs.Prelude.{find}
use Rattle.js_wire.specs.declared.packet.AskerId.{AskerId}
use Rattle.js_wire.specs.declared.packet.Packet.{Packet}
use Rattle.js_wire.specs.declared.packet.Packet.TheVariants.{Ask}
use Rattle.stream_fold.specs.Facts.{facts}
use Rattle.replica_ask.specs.Askers.{AskerState, next_attempt, asking}
use Rattle.replica_ask.specs.Filters.{filters_of}
use Rattle.shard_machine.specs.Views.{node_or}
use Rattle.shard_copies.specs.Asked.{AskersState, AskingState, AreKept, HavePlaces, Asks, is_of, id_in, shown, copy_of}
use Rattle.shard_copies.proofs.Shows.{shown-id}
use Rattle.shard_copies.proofs.CopyAsks.{places-more, asks-one}
use Rattle.shard_copies.proofs.askers.Askers.ask_one.Goals as goal

-- the asker once it has asked
now_asker : (c : goal.In_ok-push-2) → c.push-2.new.self.items ≡ c.args.asking.now.askers ++ asking c.in_ok-asker.asker c.args.now ∷ []
now_asker c = c.in_ok-push-2.ensures.items ∙ (ap (λ (a : AskingState). a.askers ++ c.ask.new.self ∷ []) c.asking.view_is ∙ ap (λ (one : AskerState). c.args.asking.now.askers ++ one ∷ []) c.in_ok-packet.ensures.asks)

pub returns-clause-kept : goal.returns-clause-kept
returns-clause-kept c = λ kept.
    let id : c.in_ok-asker.asker.id ≡ id_in c.args.self.now c.args.name.now c.args.index = ap (λ (a : AskerState). a.id) c.in_ok-asker.ensures.asker ∙ shown-id c.args.self.now c.args.name.now c.args.index in
    let found : IsSome (find (is_of c.in_ok-asker.asker.id) c.asker_for.new.self.all) = subst (λ (x : AskerId). IsSome (find (is_of x) c.asker_for.new.self.all)) (sym id) c.in_ok-asker.ensures.kept in
    subst (λ (l : List AskerState). HavePlaces c.asker_for.new.self.all l) (sym (now_asker c))
    (places-more c.asker_for.new.self.all c.args.asking.now.askers (asking c.in_ok-asker.asker c.args.now) (c.in_ok-asker.ensures.places c.args.asking.now.askers kept) found)

pub returns-clause-asks : goal.returns-clause-asks
returns-clause-asks c = λ v h shows stands.
    let s = c.args.self.now in
    let one = c.in_ok-asker.asker in
    let want = c.args.want.now in
    let node : c.node_or.result.now ≡ node_or s.node want.node = c.node_or.ensures ∙ ap (λ (n : List ℕ). node_or n want.node) (ap (λ (x : AskersState). x.node) c.self.view_is ∙ c.in_ok-asker.ensures.shown.node) in
    let packets : c.push.new.self ≡ c.args.asking.now.packets ++ Ask one.id (next_attempt one) (node_or s.node want.node) want.stream c.in_ok-start.start (filters_of want) ∷ [] =
    c.in_ok-push.ensures.ok ∙ (ap (λ (a : AskingState). a.packets ++ c.in_ok-packet.packet ∷ []) c.asking.view_is
    ∙ ap (λ (p : Packet). c.args.asking.now.packets ++ p ∷ []) (c.in_ok-packet.ensures.packet ∙ ap (λ (n : List ℕ). Ask one.id (next_attempt one) n want.stream c.in_ok-start.start (filters_of want)) node)) in
    asks-one s c.args.asking.now (record { packets = c.push.new.self; askers = c.push-2.new.self.items }) v c.args.now (copy_of c.args.name.now c.args.index (facts h) want) c.in_ok-start.start one shows c.in_ok-asker.ensures.asker (c.in_ok-start.ensures c.args.name.now h stands) packets (now_asker c)
