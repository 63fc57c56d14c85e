use Rattle.std.proofs.Common.{◌-◌}
use Rattle.leaf_edges.proofs.file_disk.rewrite.Given as goal

abbrev pub decreases-loop-place : goal.decreases-loop-place
decreases-loop-place l = l.end - l.place
