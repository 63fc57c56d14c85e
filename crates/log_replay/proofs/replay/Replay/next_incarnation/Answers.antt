use Rattle.std.proofs.Common.{refl, sym, arith, None, Some}
use Rattle.log_replay.proofs.LogKnown.{at_found, none_live, next_fits}
use Rattle.log_replay.proofs.replay.Replay.next_incarnation.Goals as goal

pub returns-in-None : goal.returns-in-None
returns-in-None c = λ log is.
    let k = at_found c.args.self.now log c.args.name.now None is (rw (← c.bytes.ensures.value) (sym c.in-None.ensures.value)) in
    (none_live log c.args.name.now k.1, rw k.0 refl, omega arith)

pub returns-in-Some : goal.returns-in-Some
returns-in-Some c = λ log is.
    let k = at_found c.args.self.now log c.args.name.now (Some c.in-Some.known.now) is (rw (← c.bytes.ensures.value) (sym c.in-Some.ensures.value)) in
    next_fits log c.args.name.now c.in-Some.known.now c.next_incarnation.result k c.next_incarnation.ensures
