use Rattle.push_consumer.proofs.Right.{right_new, right_pump, right_answer, right_beat, right_pause}
use Rattle.push_consumer.proofs.laws.right_chains.Goals as goal

pub returns-clause-new : goal.returns-clause-new
returns-clause-new c = right_new

pub returns-clause-pumps : goal.returns-clause-pumps
returns-clause-pumps c = λ h state p s budget now rise stands ok. right_pump h state p s budget now c.kept_messages.ensures.rise c.kept_messages.ensures.put rise stands ok

pub returns-clause-answers : goal.returns-clause-answers
returns-clause-answers c = right_answer

pub returns-clause-beats : goal.returns-clause-beats
returns-clause-beats c = right_beat

pub returns-clause-pauses : goal.returns-clause-pauses
returns-clause-pauses c = right_pause
