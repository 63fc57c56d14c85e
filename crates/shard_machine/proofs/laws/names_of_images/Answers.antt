use Rattle.shard_machine.proofs.Images.{names-rise, names-stand}
use Rattle.shard_machine.proofs.laws.names_of_images.Goals as goal

pub returns-clause-rise : goal.returns-clause-rise
returns-clause-rise c = names-rise

pub returns-clause-stand : goal.returns-clause-stand
returns-clause-stand c = names-stand
