use Rattle.push_consumer.proofs.Finding.{sends_wanted}
use Rattle.push_consumer.proofs.laws.wanted_messages.Goals as goal

pub returns : goal.returns
returns c = sends_wanted
