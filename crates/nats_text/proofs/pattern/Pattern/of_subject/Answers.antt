use Rattle.nats_text.proofs.Inclusions.{pattern_of_subject}
use Rattle.nats_text.proofs.pattern.Pattern.of_subject.Goals as goal

pub invariant_of-result : goal.invariant_of-result
invariant_of-result c = pattern_of_subject c.into_bytes.result (rw (← c.into_bytes.ensures.value) at c.into_bytes.ensures.legal)
