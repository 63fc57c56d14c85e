use Rattle.shard_streams.proofs.Decides.{updates-bad}
use Rattle.shard_streams.proofs.deciding.update.Goals as goal

pub returns-in-Ok : goal.returns-in-Ok
returns-in-Ok c = λ v live. c.limit.ensures v live c.in-Ok.ensures

pub returns-in-Err-Bad : goal.returns-in-Err-Bad
returns-in-Err-Bad c = λ v live.
    rw c.in-Err-Bad.field-0-is (updates-bad c.args.standing.now c.args.config.now c.in-Err-Bad.member (rw c.in-Err-Bad.field-0-is at c.in-Err-Bad.ensures) v live)

pub returns-in-Err-NoMemory : goal.returns-in-Err-NoMemory
returns-in-Err-NoMemory c = λ v live. tt
