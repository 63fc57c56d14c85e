use Rattle.std.proofs.Common.{◌-◌, length}
use Rattle.tap_row.proofs.row.+tell_from.Given as goal

abbrev pub decreases-tell_from : goal.decreases-tell_from
decreases-tell_from g l = length l.taps.now.items - l.at
