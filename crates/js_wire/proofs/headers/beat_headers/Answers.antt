use Rattle.std.proofs.Common.{ap, ◌∙◌}
use Rattle.nats_text.specs.Headers.{is_header_value}
use Rattle.nats_text.specs.Text.{is_subject}
use Rattle.js_wire.proofs.Values.{subject_value}
use Rattle.js_wire.proofs.headers.beat_headers.Goals as goal

pub add-requires : goal.add-requires
add-requires c = ap is_header_value c.deref.ensures.value ∙ c.in_ok-value.ensures.legal

pub add-requires-in-Some : goal.add-requires-in-Some
add-requires-in-Some c = subject_value c.bytes.result.now (ap is_subject c.bytes.ensures.value ∙ c.bytes.ensures.legal)
