use Rattle.shard_streams.proofs.Decides.{creates-bad}
use Rattle.shard_streams.proofs.streams.Streams.creates.Goals as goal

pub returns-in-Ok : goal.returns-in-Ok
returns-in-Ok c = λ v now holds. c.creates_right.ensures v now holds c.in-Ok.ensures

pub returns-in-Err-Bad : goal.returns-in-Err-Bad
returns-in-Err-Bad c = λ v now holds. creates-bad v c.args.config.now now c.in-Err-Bad.member (rw c.in-Err-Bad.field-0-is at c.in-Err-Bad.ensures)

pub returns-in-Err-NoMemory : goal.returns-in-Err-NoMemory
returns-in-Err-NoMemory c = λ v now holds. tt
