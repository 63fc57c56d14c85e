use Rattle.log_replay.proofs.LogKnown.{changes_known}
use Rattle.log_replay.proofs.replay.Known.change.Goals as goal

pub returns-in-Some : goal.returns-in-Some
returns-in-Some c = λ log name k.
    let s = rw c.in-Some.is at k.1 in
    changes_known log name c.in-Some.standing c.change.new.self c.args.self.now.incarnation c.args.entry c.change.result k.0 s (c.change.ensures s.latest.history s.state)
