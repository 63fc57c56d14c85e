use Rattle.std.proofs.Common.{◌≡◌, List, map, length, sym, ap, ◌∙◌}
use Rattle.std.specs.Vec.{with_items}
use Rattle.std.proofs.lemmas.List.{with_items_is}
use Rattle.push_consumer.specs.Progress.{ConsumerState}
use Rattle.push_consumer.specs.Pumps.{pumped}
use Rattle.shard_machine.specs.Answers.{for_stream, consumers_of}
use Rattle.shard_copies.specs.Pumped.{put_back}
use Rattle.shard_copies.specs.Standing.{ConsumersState, with_all}
use Rattle.shard_copies.proofs.Steps.{put-changed}
use Rattle.shard_copies.proofs.consumers.Consumers.pump.Goals as goal

pub returns-clause-after : goal.returns-clause-after
returns-clause-after c =
    let name = c.args.name.now in
    let f = pumped c.args.state.now.held.rows c.args.budget c.args.now in
    let put : c.put_back.new.all ≡ for_stream name f c.self.inside.all.items =
    c.put_back.ensures
    ∙ (ap (λ (n : List ConsumerState). put_back name n c.deref_mut.result.now) (c.deref_mut-2.ensures.value ∙ (c.in_ok-pumped.ensures.consumers ∙ ap (λ (a : List ConsumerState). map f (consumers_of name a)) c.deref.ensures.value))
    ∙ (ap (λ (a : List ConsumerState). put_back name (map f (consumers_of name c.self.inside.all.items)) a) c.deref_mut.ensures.value
    ∙ put-changed name f c.self.inside.all.items)) in
    let items : (with_items c.self.inside.all c.put_back.new.all).items ≡ for_stream name f c.self.inside.all.items =
    with_items_is c.self.inside.all c.put_back.new.all (c.put_back.auto.all ∙ c.deref_mut.ensures.len) ∙ put in
    (λ i. record { boot = c.self.inside.boot; given = c.self.inside.given; all = items i }) ∙ ap (λ (s : ConsumersState). with_all s (for_stream name f s.all)) c.self.view_is
