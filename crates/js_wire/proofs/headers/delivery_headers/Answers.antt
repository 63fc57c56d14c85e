use Rattle.std.proofs.Common.{ap, ◌∙◌}
use Rattle.nats_text.specs.Text.{is_subject}
use Rattle.js_wire.proofs.Values.{subject_value}
use Rattle.js_wire.proofs.headers.delivery_headers.Goals as goal

pub add-requires : goal.add-requires
add-requires c = subject_value c.bytes.result.now (ap is_subject c.bytes.ensures.value ∙ c.bytes.ensures.legal)
