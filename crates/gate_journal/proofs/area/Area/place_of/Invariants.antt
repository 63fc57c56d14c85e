use Rattle.std.proofs.Common.{◌≡◌, take}
use Rattle.gate_journal.specs.Areas.{end_of}
use Rattle.gate_journal.proofs.area.Area.place_of.Given as goal

-- the records of the bodies so far end at this place
abbrev pub invariant-loop-body : goal.invariant-loop-body
invariant-loop-body l = l.place ≡ end_of (take l.body-index l.self.bodies)
