use Rattle.leafd_script.proofs.Shapes.{joined-pieces}
use Rattle.leafd_script.proofs.publishing.headed_line.Goals as goal

-- the words are the four that were cut off and those of the text
pub returns-in-Some-cut-4 : goal.returns-in-Some-cut-4
returns-in-Some-cut-4 c =
    rw (c.in-Some.is) (rw (c.in-Some-cut.ensures.parts, c.in-Some-cut-2.ensures.parts, c.in-Some-cut-3.ensures.parts, c.in-Some-cut-4.ensures.parts, joined-pieces) c.headed_of.ensures)
