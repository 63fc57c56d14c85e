use Rattle.run_soundness.proofs.Witness.{a-run}
use Rattle.run_soundness.proofs.laws.runs_happen.Goals as goal

pub returns : goal.returns
returns c = a-run
