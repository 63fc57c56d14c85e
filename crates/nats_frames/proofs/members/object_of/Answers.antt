use Rattle.std.proofs.Common.{ap, ◌∙◌}
use Rattle.std.specs.Prelude.{option_and_then}
use Rattle.nats_frames.specs.Json.{if_object}
use Rattle.nats_frames.proofs.Objects.{object_is}
use Rattle.nats_frames.proofs.members.object_of.Goals as goal

pub returns : goal.returns
returns c = c.object_in.ensures ∙ (ap (option_and_then if_object) c.in_ok-value.ensures ∙ object_is c.args.text.now)
