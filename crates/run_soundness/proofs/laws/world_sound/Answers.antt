use Rattle.run_soundness.proofs.Runs.{runs-sound}
use Rattle.run_soundness.proofs.laws.world_sound.Goals as goal

pub returns : goal.returns
returns c = runs-sound c.laws_below.ensures
