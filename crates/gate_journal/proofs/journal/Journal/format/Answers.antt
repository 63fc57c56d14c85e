use Rattle.std.proofs.Common.{◌∙◌}
use Rattle.gate_journal.proofs.Formats.{stands_written}
use Rattle.gate_journal.proofs.journal.Journal.format.Goals as goal

pub returns-clause-stands : goal.returns-clause-stands
returns-clause-stands g c = λ tells.
    stands_written g.D.Disk.seen g.D.Disk.images c.args.disk.now c.write_and_sync.new.disk c.deref.result.now c.args.counts c.write_and_sync.result (c.requires.empty tells) (c.deref.ensures.value ∙ c.in_ok-area.ensures.bytes)
    (c.write_and_sync.ensures.written tells) (c.write_and_sync.ensures.durable tells)
