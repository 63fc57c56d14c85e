use Rattle.std.proofs.Common.{◌≡◌, ◌≤◌, map, take, vec_capacity}
use Rattle.mem_disk.specs.Contents.{after_ops}
use Rattle.mem_disk.specs.Entries.{ops_of, redone}
use Rattle.mem_disk.proofs.history.replay.Given as goal

-- the calls so far were done again
abbrev pub invariant-loop-entry : goal.invariant-loop-entry
invariant-loop-entry l = record {
  done : l.bytes.items ≡ after_ops l.fn.bytes.items (map (redone l.torn) (ops_of (take l.entry-index l.entries)));
  room : vec_capacity l.fn.bytes ≤ vec_capacity l.bytes;
}
