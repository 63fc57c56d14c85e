-- The words by which a report names why a line isn't legal.
use Rattle.std.specs.Prelude.{ℕ, List, codes}
use Rattle.leafd_script.specs.declared.fault.ScriptKind.{ScriptKind}
use Rattle.leafd_script.specs.declared.fault.ScriptKind.TheVariants.{NotYet, BadLine, BadName, BadSubject, BadNumber, BadOption, NodeTaken, NoNode, NoLink, StreamTaken, NoStream, Overlap, Cycle, TooMany}

-- the word by which a kind of fault is told
abbrev pub kind_word : ScriptKind → List ℕ
kind_word NotYet = codes "NotYet"
kind_word BadLine = codes "BadLine"
kind_word BadName = codes "BadName"
kind_word BadSubject = codes "BadSubject"
kind_word BadNumber = codes "BadNumber"
kind_word BadOption = codes "BadOption"
kind_word NodeTaken = codes "NodeTaken"
kind_word NoNode = codes "NoNode"
kind_word NoLink = codes "NoLink"
kind_word StreamTaken = codes "StreamTaken"
kind_word NoStream = codes "NoStream"
kind_word Overlap = codes "Overlap"
kind_word Cycle = codes "Cycle"
kind_word TooMany = codes "TooMany"
