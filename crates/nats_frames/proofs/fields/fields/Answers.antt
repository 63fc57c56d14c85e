use Rattle.nats_text.specs.Pieces.{views}
use Rattle.nats_frames.proofs.Parts.{fields_more}
use Rattle.nats_frames.proofs.fields.fields.Goals as goal

pub loop-part-preserved : goal.loop-part-preserved
loop-part-preserved c =
    fields_more (views c.loop-part.found.items) _ c.in-Some.part.now c.loop-part.rest.now c.in-Some.behind.now c.args.line.now c.in-Some.ensures.parts c.in_ok-push_filled.ensures c.loop-part.invariant
