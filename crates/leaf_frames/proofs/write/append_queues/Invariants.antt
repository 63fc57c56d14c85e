use Rattle.std.proofs.Common.{◌≡◌, ◌++◌, length}
use Rattle.nats_text.specs.Headers.{Extends}
use Rattle.nats_frames.specs.Texts.{behind_spaces}
use Rattle.leaf_frames.proofs.write.append_queues.Given as goal

-- with the queues of the rest all are added, and nothing is taken away
abbrev pub invariant-loop-rest : goal.invariant-loop-rest
invariant-loop-rest l = record {
  added : l.buf.items ++ behind_spaces l.rest ≡ l.initial.buf.items ++ behind_spaces l.queues;
  kept : Extends l.initial.buf.items l.buf.items;
}

abbrev pub decreases-loop-rest : goal.decreases-loop-rest
decreases-loop-rest l = length l.rest
