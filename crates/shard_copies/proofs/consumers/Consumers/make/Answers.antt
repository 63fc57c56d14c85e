use Rattle.std.proofs.Common.{◌≡◌, ℕ, ◌+◌, ◌++◌, List, [], ◌∷◌, not, sym, ap, ◌∙◌}
use Rattle.std.specs.Prelude.{filter}
use Rattle.nats_text.specs.declared.message.Stamp.{Stamp}
use Rattle.push_consumer.specs.Progress.{ConsumerState, new_consumer}
use Rattle.shard_machine.specs.Answers.{serves}
use Rattle.shard_copies.specs.Standing.{ConsumersState, next_stamp}
use Rattle.shard_copies.proofs.consumers.Consumers.make.Goals as goal

pub returns-clause-after : goal.returns-clause-after
returns-clause-after c =
    let s = c.args.self.now in
    let name = c.args.name.now in
    let what = c.args.wanted in
    let boot : c.self.inside.boot ≡ s.boot = ap (λ (x : ConsumersState). x.boot) c.self.view_is in
    let given : c.in_ok-count.count ≡ s.given + 1 = c.in_ok-count.ensures ∙ ap (λ (x : ConsumersState). x.given + 1) c.self.view_is in
    let stamp : record { boot = c.self.inside.boot; count = c.in_ok-count.count } ≡ next_stamp s = λ i. record { boot = boot i; count = given i } in
    let one : c.new.result ≡ new_consumer (next_stamp s) name what c.args.now =
    c.new.ensures ∙ (ap (λ (x : Stamp). new_consumer x c.in_ok-stream.stream what c.args.now) stamp ∙ ap (λ (n : List ℕ). new_consumer (next_stamp s) n what c.args.now) c.in_ok-stream.ensures) in
    let items : c.push_reserved.new.self.items ≡ filter (λ x. not (serves name what.asker x)) s.all ++ new_consumer (next_stamp s) name what c.args.now ∷ [] =
    c.push_reserved.ensures.items
    ∙ (ap (λ (l : List ConsumerState). l ++ c.new.result ∷ []) (c.drop_earlier.ensures.items ∙ ap (filter (λ x. not (serves name what.asker x))) (c.in_ok-reserve.ensures.items ∙ ap (λ (x : ConsumersState). x.all) c.self.view_is))
    ∙ ap (λ (x : ConsumerState). filter (λ y. not (serves name what.asker y)) s.all ++ x ∷ []) one) in
    λ i. record { boot = boot i; given = given i; all = items i }
