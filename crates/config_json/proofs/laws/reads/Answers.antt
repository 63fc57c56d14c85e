use Rattle.config_json.proofs.Passing.{reads_passed}
use Rattle.config_json.proofs.laws.reads.Goals as goal

pub returns : goal.returns
returns c = reads_passed
