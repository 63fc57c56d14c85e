use Rattle.run_examples.proofs.Copying.{message-is-copied}
use Rattle.run_examples.proofs.laws.a_message_is_copied.Goals as goal

pub returns : goal.returns
returns c = message-is-copied
