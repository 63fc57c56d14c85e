use Rattle.leafd_script.proofs.Shapes.{joined-pieces}
use Rattle.leafd_script.proofs.publishing.publish_line.Goals as goal

-- the words are the three that were cut off and those of the text
pub returns-in-Some-cut-3 : goal.returns-in-Some-cut-3
returns-in-Some-cut-3 c =
    let n = c.in-Some-cut.node.now in
    let s = c.in-Some-cut-2.name.now in
    let t = c.in-Some-cut-3.subject.now in
    let text = c.in-Some-cut-3.text.now in
    rw (c.in-Some.is) (rw (c.in-Some-cut.ensures.parts, c.in-Some-cut-2.ensures.parts, c.in-Some-cut-3.ensures.parts, joined-pieces) c.publish_of.ensures)
