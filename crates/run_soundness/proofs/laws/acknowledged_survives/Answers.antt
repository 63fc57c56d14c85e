use Rattle.run_soundness.proofs.Survives.{acknowledged-survives}
use Rattle.run_soundness.proofs.laws.acknowledged_survives.Goals as goal

pub returns : goal.returns
returns c = acknowledged-survives c.laws_below.ensures
