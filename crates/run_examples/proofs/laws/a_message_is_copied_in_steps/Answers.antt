use Rattle.run_examples.proofs.CopiedInSteps.{copied-in-steps}
use Rattle.run_examples.proofs.laws.a_message_is_copied_in_steps.Goals as goal

pub returns : goal.returns
returns c = copied-in-steps
