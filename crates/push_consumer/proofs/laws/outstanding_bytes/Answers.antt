use Rattle.push_consumer.proofs.Sending.{outstanding_sent}
use Rattle.push_consumer.proofs.laws.outstanding_bytes.Goals as goal

pub returns : goal.returns
returns c = outstanding_sent
