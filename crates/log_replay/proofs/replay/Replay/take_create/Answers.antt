use Rattle.std.proofs.Common.{arith, rules, ◌≡◌, ◌≤◌, None}
use Rattle.stream_fold.specs.Checking.{config_fault}
use Rattle.shard_machine.specs.Logs.{boot}
use Rattle.log_replay.proofs.LogKnown.{takes_create}
use Rattle.log_replay.proofs.replay.Replay.take_create.Goals as goal

pub returns : goal.returns
returns c = λ log legal is.
    let b = is.boot_is in
    let begun : 1 ≤ boot log = omega arith in
    let faultless : config_fault c.args.config ≡ None = search rules in
    let same : c.in_ok-key.key.items ≡ c.args.config.name = search rules in
    takes_create c.args.self.now c.put.new.self log c.args.time c.args.config c.in-Some.incarnation c.in_ok-new.field-0 is begun faultless (c.in-Some.ensures log is) c.in_ok-new.ensures c.in_ok-put.ensures.0 (rw same at c.in_ok-put.ensures.1)
