use Rattle.shard_machine.proofs.Legality.{tell-legal, legal-fit}
use Rattle.shard_machine.proofs.laws.legality_by_images.Goals as goal

pub returns-clause-follow : goal.returns-clause-follow
returns-clause-follow c = tell-legal

pub returns-clause-fit : goal.returns-clause-fit
returns-clause-fit c = legal-fit
