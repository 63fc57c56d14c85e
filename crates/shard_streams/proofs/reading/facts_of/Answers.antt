use Rattle.std.proofs.Common.{◌≡◌, refl, ◌∙◌, rules}
use Rattle.shard_streams.proofs.ShownFacts.{shows-facts}
use Rattle.shard_streams.proofs.reading.facts_of.Goals as goal

pub returns-in-Ok : goal.returns-in-Ok
returns-in-Ok c = λ v name live incarnation.
    let same : c.in-Ok.config ≡ c.config.result.now = search rules in
    shows-facts c.facts_of_histories.ensures.tell c.args.standing.now
    (record {
      config = c.in-Ok.config;
      created = c.args.standing.now.created;
      incarnation = c.args.incarnation;
      first = c.first.result;
      last = c.last.result;
      count = c.count.result;
      bytes = c.size.result;
      consumers = c.args.consumers;
      copies = c.args.copies;
    })
    c.args.consumers c.args.copies v name live incarnation (same ∙ c.config.ensures) refl c.first.ensures c.last.ensures.value c.count.ensures c.size.ensures refl refl
