use Rattle.std.proofs.Common.{refl, sym, arith, ◌≡◌, ◌≤◌, Some}
use Rattle.shard_machine.specs.Logs.{boot}
use Rattle.log_replay.specs.Replays.{found}
use Rattle.log_replay.proofs.MapSteps.{writes}
use Rattle.log_replay.proofs.LogKnown.{at_found, takes_change}
use Rattle.log_replay.proofs.replay.Replay.take_change.Goals as goal

pub change-requires : goal.change-requires
change-requires c =
    let held = c.requires in
    let here : found c.args.name.now c.args.self.now.names ≡ Some c.in-Some.known.now = rw (← c.bytes.ensures.value) (sym c.in-Some.ensures.value) in
    (held.0, c.args.name.now, at_found c.args.self.now held.0 c.args.name.now (Some c.in-Some.known.now) held.1 here)

pub returns-in-Some : goal.returns-in-Some
returns-in-Some c = λ log legal is.
    let b = is.boot_is in
    let begun : 1 ≤ boot log = omega arith in
    let here : found c.args.name.now c.args.self.now.names ≡ Some c.in-Some.known.now = rw (← c.bytes.ensures.value) (sym c.in-Some.ensures.value) in
    let wrote = c.get_mut.follows.holds c.change.new.self in
    takes_change c.args.self.now _ log c.args.name.now c.in-Some.known.now c.change.new.self c.args.entry c.change.result is begun here refl
    (writes c.args.name.now c.bytes.result.now c.in-Some.known.now c.change.new.self c.args.self.now.names (c.get_mut.follows.lender c.change.new.self) c.bytes.ensures.value here wrote)
    c.change.ensures
