use Rattle.std.proofs.Common.{rules, not}
use Rattle.std.proofs.lemmas.Fn.{filter_same}
use Rattle.push_consumer.specs.Progress.{ConsumerState}
use Rattle.shard_machine.specs.Answers.{serves}
use Rattle.shard_copies.proofs.lists.drop_earlier.Goals as goal

pub returns-clause-items : goal.returns-clause-items
returns-clause-items c = filter_same _ (λ (x : ConsumerState). not (serves c.args.name.now c.args.asker.now x)) _ (λ x b f t. search rules) _ _ c.retain.ensures.filtered
