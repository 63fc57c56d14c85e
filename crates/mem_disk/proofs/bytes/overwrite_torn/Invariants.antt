use Rattle.std.proofs.Common.{◌≡◌, ◌-◌, ◌≤◌, ◌++◌, take, replicate, vec_capacity}
use Rattle.leaf_edges.specs.Disks.{overwritten}
use Rattle.mem_disk.proofs.bytes.overwrite_torn.Given as goal

abbrev pub invariant-loop-i : goal.invariant-loop-i
invariant-loop-i l = record {
  -- the first half and the bytes so far
  done : l.bytes.items ≡ overwritten l.fn.bytes.items l.place (take l.half l.new ++ replicate (l.i - l.half) 0xA5);
  room : vec_capacity l.fn.bytes ≤ vec_capacity l.bytes;
}
