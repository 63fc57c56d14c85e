use Rattle.std.proofs.Common.{◌++◌}
use Rattle.subject_transform.specs.Values.{split_by}
use Rattle.subject_transform.proofs.Parted.{step}
use Rattle.subject_transform.proofs.split.push_split.Goals as goal

pub loop-part-preserved : goal.loop-part-preserved
loop-part-preserved c =
    let p = c.in_ok-are_some.ensures in
    step c.args.separator.now c.loop-part.rest.now c.in-Some.part.now c.in-Some.behind.now c.loop-part.buf.items c.push_part.new.buf.items (c.args.buf.now.items ++ split_by c.args.separator.now c.args.token.now) c.loop-part.are_some c.in_ok-are_some.are_some p.added p.others c.in-Some.ensures.parts c.loop-part.invariant
