use Rattle.std.proofs.Common.{◌-◌, length}
use Rattle.tap_row.proofs.row.+lines_from.Given as goal

abbrev pub decreases-lines_from : goal.decreases-lines_from
decreases-lines_from g l = length l.taps.now - l.at
