use Rattle.push_consumer.specs.Counts.{progress_in, IsSound}
use Rattle.push_consumer.proofs.Pumping.{IsUnderWay}
use Rattle.push_consumer.proofs.consumer.Consumer.send_all.Given as goal

-- what was sent and what is still to be sent are together what is to be sent
abbrev pub invariant-loop-left : goal.invariant-loop-left
invariant-loop-left l = record {
  sound : IsSound l.counts;
  under_way : IsUnderWay l.self l.state.held.rows l.budget l.left l.from l.pending (progress_in l.counts) l.packets;
}

abbrev pub decreases-loop-left : goal.decreases-loop-left
decreases-loop-left l = l.left
