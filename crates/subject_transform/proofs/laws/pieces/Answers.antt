use Rattle.subject_transform.proofs.Lawful.{pieces_are}
use Rattle.subject_transform.proofs.laws.pieces.Goals as goal

pub returns : goal.returns
returns c = λ dots k t h. pieces_are dots k t h
