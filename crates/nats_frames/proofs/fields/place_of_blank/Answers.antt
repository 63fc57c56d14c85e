use Rattle.nats_frames.proofs.Parts.{at_blank}
use Rattle.nats_frames.proofs.fields.place_of_blank.Goals as goal

pub returns : goal.returns
returns c = at_blank c.args.bytes.now _ c.blank_position.ensures
