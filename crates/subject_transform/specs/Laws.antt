-- What holds of transforms, whatever the code does.
use Rattle.std.specs.Prelude.{◌≡◌, ℕ, ◌<◌, List, [], ◌∷◌, Bool, not, ◌==◌, Some, IsTrue}
use Rattle.std.specs.List.{list_all, concat}
use Rattle.nats_text.specs.Text.{tokens, tail, is_subject}
use Rattle.subject_transform.specs.declared.function.Dots.{Dots}
use Rattle.subject_transform.specs.Transforms.{sub}
use Rattle.subject_transform.specs.Values.{dotted_by, partition_of}

-- the transform of `>` into `>` gives each subject back
abbrev pub TailKeepsSubjects : Type 0
TailKeepsSubjects = (subject : List ℕ) → IsTrue (is_subject subject) → sub tail tail subject ≡ Some subject

-- what comes out is a subject
abbrev pub MakesSubjects : Type 0
MakesSubjects = (src dest subject made : List ℕ) → sub src dest subject ≡ Some made → IsTrue (is_subject made)

-- the pieces of a split or a slice by length, put together, are the token
abbrev pub PiecesAreTheToken : Type 0
PiecesAreTheToken = (dots : Dots) (k : ℕ) (t : List ℕ) → IsTrue (list_all (λ b. not (b == 46)) t) → concat (tokens (dotted_by dots k t)) ≡ t

-- the number of a partition is below their count
abbrev pub PartitionIsBelow : Type 0
PartitionIsBelow = (n : ℕ) (ts : List (List ℕ)) → 0 < n → partition_of n ts < n
