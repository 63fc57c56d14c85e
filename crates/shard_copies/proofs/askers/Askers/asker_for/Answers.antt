use Rattle.std.proofs.Common.{◌≡◌, List, [], ◌∷◌, ◌++◌, Some, None, IsSome, rules, sym, ap, ◌∙◌, subst}
use Rattle.std.specs.Prelude.{find}
use Rattle.std.specs.Option.{option_copied}
use Rattle.js_wire.specs.declared.packet.AskerId.{AskerId}
use Rattle.replica_ask.specs.Askers.{AskerState, new_asker}
use Rattle.shard_copies.specs.Asked.{AskersState, ShowsSame, HavePlaces, is_of, id_in}
use Rattle.shard_copies.proofs.Shows.{with_list}
use Rattle.shard_copies.proofs.CopyAsks.{same-push, places-push, found-push}
use Rattle.shard_copies.proofs.askers.Askers.asker_for.Goals as goal

items : (c : goal.In_ok-push) → c.push.new.self.items ≡ c.args.self.now.all ++ new_asker (id_in c.args.self.now c.args.name.now c.args.index) c.args.self.now.boot ∷ []
items c =
    let s = c.args.self.now in
    let id = id_in s c.args.name.now c.args.index in
    c.in_ok-push.ensures.items
    ∙ (ap (λ (x : AskersState). x.all ++ c.new-asker.result ∷ []) c.self.view_is
    ∙ ap (λ (a : AskerState). s.all ++ a ∷ [])
    (c.new-asker.ensures ∙ (ap (λ (x : AskerId). new_asker x c.self.inside.boot) c.in_ok-id.ensures ∙ ap (λ (x : AskersState). new_asker id x.boot) c.self.view_is)))

pub returns-clause-shown : goal.returns-clause-shown
returns-clause-shown c =
    let s = c.args.self.now in
    let one = new_asker (id_in s c.args.name.now c.args.index) s.boot in
    let is : record { node = c.self.inside.node; boot = c.self.inside.boot; all = c.push.new.self.items } ≡ with_list s (s.all ++ one ∷ []) =
    (λ i. record { node = c.self.inside.node; boot = c.self.inside.boot; all = items c i }) ∙ ap (λ (x : AskersState). with_list x (s.all ++ one ∷ [])) c.self.view_is in
    subst (λ (x : AskersState). ShowsSame s x) (sym is) (same-push s c.args.name.now c.args.index)

pub returns-clause-places : goal.returns-clause-places
returns-clause-places c = λ ones places. subst (λ (l : List AskerState). HavePlaces l ones) (sym (items c)) (places-push c.args.self.now.all (new_asker (id_in c.args.self.now c.args.name.now c.args.index) c.args.self.now.boot) ones places)

pub returns-clause-kept : goal.returns-clause-kept
returns-clause-kept c =
    let s = c.args.self.now in
    let name = c.args.name.now in
    let index = c.args.index in
    let id : AskerId = record { node = c.self.inside.node; stream = name; index = index } in
    let none : find (is_of (id_in s name index)) s.all ≡ None =
    ap (λ (x : AskersState). find (is_of (id_in x name index)) x.all) (sym c.self.view_is)
    ∙ (ap (λ (l : List AskerState). find (is_of id) l) (sym c.deref.ensures.value) ∙ (sym c.kept.ensures ∙ ap option_copied c.in_default.is)) in
    subst (λ (l : List AskerState). IsSome (find (is_of (id_in s name index)) l)) (sym (items c)) (found-push s name index none)
