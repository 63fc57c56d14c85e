use Rattle.std.proofs.Common.{rules, not}
use Rattle.std.proofs.lemmas.Fn.{filter_same}
use Rattle.push_consumer.specs.Progress.{ConsumerState}
use Rattle.shard_machine.specs.Answers.{reads_stream}
use Rattle.shard_copies.proofs.lists.drop_of.Goals as goal

pub returns : goal.returns
returns c = filter_same _ (λ (x : ConsumerState). not (reads_stream c.args.name.now x)) _ (λ x b f t. search rules) _ _ c.retain.ensures.filtered
