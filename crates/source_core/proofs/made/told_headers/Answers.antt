use Rattle.std.proofs.Common.{refl}
use Rattle.source_core.proofs.made.told_headers.Goals as goal

pub returns-clause-value : goal.returns-clause-value
returns-clause-value c = rw (c.in_ok-set.ensures.ok, c.as_slice.ensures, c.in_ok-value.ensures.value, c.in_ok-headers.ensures) refl
