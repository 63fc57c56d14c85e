use Rattle.std.proofs.Common.{◌≡◌, ◌++◌, map, take, drop, cond}
use Rattle.replica_ask.specs.Orders.{same_stamp}
use Rattle.shard_machine.specs.Answers.{reads_stream, takes_token}
use Rattle.shard_copies.proofs.lists.take_reply.Given as goal

-- those that were looked at have taken the token where it is theirs
abbrev pub invariant-loop-consumer : goal.invariant-loop-consumer
invariant-loop-consumer l = l.all ≡ map (λ c. cond (reads_stream l.name c) (cond (same_stamp c.name l.stamp) (takes_token l.token c) c) c) (take l.consumer-index l.initial.all) ++ drop l.consumer-index l.initial.all
