use Rattle.std.proofs.Common.{◌≡◌, ◌-◌, ◌≤◌, ◌++◌, drop, All}
use Rattle.gate_journal.specs.Areas.{blocks, end_of, IsBody}
use Rattle.gate_journal.specs.Walks.{Looks}
use Rattle.gate_journal.proofs.walk.read_bodies.Given as goal

-- the disk was only looked at, and these bodies stand behind the head up to this place
abbrev pub invariant-loop-bodies : goal.invariant-loop-bodies
invariant-loop-bodies g l = record {
  within : l.place ≤ l.len;
  same : g.D.Disk.faults l.disk ≡ g.D.Disk.faults l.fn.disk;
  leads : g.D.Disk.leads l.fn.disk l.disk;
  looks : g.D.Disk.tells → Looks g.D.Disk.seen g.D.Disk.images g.D.Disk.unsynced g.D.Disk.done g.D.Disk.failed g.D.Disk.moment g.D.Disk.left_since l.fn.disk l.disk;
  place_is : l.place ≡ end_of l.bodies;
  legal : g.D.Disk.tells → All IsBody l.bodies;
  so_far : g.D.Disk.tells → drop 17 (g.D.Disk.seen l.fn.disk) ≡ blocks l.bodies ++ drop l.place (g.D.Disk.seen l.fn.disk);
}

abbrev pub decreases-loop-bodies : goal.decreases-loop-bodies
decreases-loop-bodies g l = l.len - l.place
