use Rattle.nats_text.proofs.Inclusions.{subject_of_name}
use Rattle.nats_text.proofs.subject.Subject.of_name.Goals as goal

pub invariant_of-result : goal.invariant_of-result
invariant_of-result c = subject_of_name c.into_bytes.result (rw (← c.into_bytes.ensures.value) at c.into_bytes.ensures.legal)
