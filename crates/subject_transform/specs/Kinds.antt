-- The words by which it is told what is wrong with a transform.
use Rattle.std.specs.Prelude.{ℕ, List, codes}
use Rattle.subject_transform.specs.declared.fault.TransformKind.{TransformKind}
use Rattle.subject_transform.specs.declared.fault.TransformKind.TheVariants.{BadSource, BadDest, BadFunction, BadIndex, BadNumber, TailMismatch}

-- the word by which a kind of fault is told
abbrev pub kind_word : TransformKind → List ℕ
kind_word BadSource = codes "BadSource"
kind_word BadDest = codes "BadDest"
kind_word BadFunction = codes "BadFunction"
kind_word BadIndex = codes "BadIndex"
kind_word BadNumber = codes "BadNumber"
kind_word TailMismatch = codes "TailMismatch"
