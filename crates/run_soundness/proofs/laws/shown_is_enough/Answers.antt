use Rattle.run_soundness.proofs.Shown.{shown-is-enough}
use Rattle.run_soundness.proofs.laws.shown_is_enough.Goals as goal

pub returns : goal.returns
returns c = shown-is-enough
