use Rattle.shard_machine.proofs.Images.{image-push, images-tell}
use Rattle.shard_machine.proofs.laws.images_of_logs.Goals as goal

pub returns-clause-grows : goal.returns-clause-grows
returns-clause-grows c = image-push

pub returns-clause-tell : goal.returns-clause-tell
returns-clause-tell c = images-tell
