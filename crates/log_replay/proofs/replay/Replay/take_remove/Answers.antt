use Rattle.std.proofs.Common.{refl, sym, arith, ◌≡◌, ◌≤◌, Some}
use Rattle.shard_machine.specs.Logs.{boot}
use Rattle.log_replay.specs.Replays.{found}
use Rattle.log_replay.proofs.MapSteps.{writes}
use Rattle.log_replay.proofs.LogKnown.{takes_remove}
use Rattle.log_replay.proofs.replay.Replay.take_remove.Goals as goal

pub returns-in-Some : goal.returns-in-Some
returns-in-Some c = λ log legal is.
    let b = is.boot_is in
    let begun : 1 ≤ boot log = omega arith in
    let here : found c.args.name.now c.args.self.now.names ≡ Some c.in-Some.known.now = rw (← c.bytes.ensures.value) (sym c.in-Some.ensures.value) in
    let wrote = c.get_mut.follows.holds c.remove.new.self in
    let done = c.remove.ensures in
    takes_remove c.args.self.now _ log c.args.name.now c.in-Some.known.now c.remove.new.self c.remove.result is begun here refl
    (writes c.args.name.now c.bytes.result.now c.in-Some.known.now c.remove.new.self c.args.self.now.names (c.get_mut.follows.lender c.remove.new.self) c.bytes.ensures.value here wrote)
    done.none done.incarnation done.stood
