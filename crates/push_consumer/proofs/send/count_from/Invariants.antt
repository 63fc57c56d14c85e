use Rattle.std.proofs.Common.{length}
use Rattle.push_consumer.specs.Sends.{rows_from}
use Rattle.push_consumer.proofs.Pumping.{IsCounted}
use Rattle.push_consumer.proofs.send.count_from.Given as goal

-- those that were counted and those from the number on are all
abbrev pub invariant-loop-seq : goal.invariant-loop-seq
invariant-loop-seq l = IsCounted l.state.held.rows l.filters l.start l.from l.count

abbrev pub decreases-loop-seq : goal.decreases-loop-seq
decreases-loop-seq l = length (rows_from l.from l.filters l.state.held.rows)
