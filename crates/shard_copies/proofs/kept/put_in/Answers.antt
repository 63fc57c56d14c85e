use Rattle.std.proofs.Common.{◌≡◌, ◌≤◌, ℕ, length, sym, ap, ◌∙◌, subst}
use Rattle.js_wire.specs.declared.packet.AskerId.{AskerId}
use Rattle.shard_copies.specs.Places.{place_in}
use Rattle.shard_copies.proofs.Steps.{set-changed, none-changed}
use Rattle.shard_copies.proofs.kept.put_in.Goals as goal

pub returns-then-place-all : goal.returns-then-place-all
returns-then-place-all c =
    let place : c.place_of-place.result ≡ place_in c.args.asker.id c.args.all.now =
    c.place_of-place.ensures ∙ ap (λ (x : AskerId). place_in (record { node = x.node; stream = x.stream; index = x.index }) c.args.all.now) c.id-id.ensures in
    set-changed c.args.asker.id (λ _. c.args.asker) c.args.all.now c.place_of-place.result c.index-all-place.result place c.if-place-all.true c.index-all-place.is

pub returns-else-place-all : goal.returns-else-place-all
returns-else-place-all c =
    let place : c.place_of-place.result ≡ place_in c.args.asker.id c.args.all.now =
    c.place_of-place.ensures ∙ ap (λ (x : AskerId). place_in (record { node = x.node; stream = x.stream; index = x.index }) c.args.all.now) c.id-id.ensures in
    sym (none-changed c.args.asker.id (λ _. c.args.asker) c.args.all.now (subst (λ (n : ℕ). length c.args.all.now ≤ n) place c.if-place-all.false))
