use Rattle.nats_text.specs.Matching.{matches}
use Rattle.subject_transform.specs.Transforms.{read_destination, text_of}
use Rattle.nats_text.specs.Text.{tokens}
use Rattle.subject_transform.proofs.Lawful.{tail_keeps, from_pick}
use Rattle.subject_transform.proofs.laws.subjects.Goals as goal

pub returns-clause-kept : goal.returns-clause-kept
returns-clause-kept c = λ s h. tail_keeps s h

pub returns-clause-made : goal.returns-clause-made
returns-clause-made c = λ src dest s m e. from_pick (matches src s) (text_of (tokens src) (tokens s) (read_destination (tokens src) dest)) m e
