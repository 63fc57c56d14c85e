use Rattle.std.proofs.Common.{refl, arith}
use Rattle.log_replay.proofs.LogKnown.{with_boot}
use Rattle.log_replay.proofs.replay.Replay.take_boot.Goals as goal

pub returns : goal.returns
returns c = λ log legal is.
    let b = is.boot_is in
    ((omega arith, omega arith), with_boot c.args.self.now _ log c.args.number is refl refl)
