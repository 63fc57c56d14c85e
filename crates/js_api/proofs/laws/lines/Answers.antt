use Rattle.js_api.proofs.Lines.{answers, acks, ack_faults}
use Rattle.js_api.proofs.laws.lines.Goals as goal

pub returns-clause-answers : goal.returns-clause-answers
returns-clause-answers c = answers

pub returns-clause-acks : goal.returns-clause-acks
returns-clause-acks c = acks

pub returns-clause-faults : goal.returns-clause-faults
returns-clause-faults c = ack_faults
