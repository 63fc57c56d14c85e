use Rattle.run_soundness.proofs.Points.{points-never-back}
use Rattle.run_soundness.proofs.laws.points_never_go_back.Goals as goal

pub returns : goal.returns
returns c = points-never-back c.laws_below.ensures
