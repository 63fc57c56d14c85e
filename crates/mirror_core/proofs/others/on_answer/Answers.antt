use Rattle.mirror_core.proofs.Lengths.{short-bind}
use Rattle.mirror_core.proofs.others.on_answer.Goals as goal

pub returns-in-None-clause-short : goal.returns-in-None-clause-short
returns-in-None-clause-short c = short-bind _ _ _ c.ranges.index.fits c.ranges.incarnation.fits c.ranges.start.fits
