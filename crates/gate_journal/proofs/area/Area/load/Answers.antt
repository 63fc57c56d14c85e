use Rattle.std.proofs.Common.{◌∙◌, sym}
use Rattle.gate_journal.proofs.Endings.{stands_if_read}
use Rattle.gate_journal.proofs.area.Area.load.Goals as goal

pub returns-in-Ok-clause-stands : goal.returns-in-Ok-clause-stands
returns-in-Ok-clause-stands g c = λ tells.
    let synced = c.in-Ok.ensures in
    let looked = c.read.ensures.same tells in
    stands_if_read g.D.Disk.images c.read.new.disk (g.D.Disk.seen c.sync.new.self) c.read.result (λ bytes now. synced.durable tells bytes (looked.no_more bytes now) ∙ sym (synced.content tells)) (c.read.ensures.answer tells)
