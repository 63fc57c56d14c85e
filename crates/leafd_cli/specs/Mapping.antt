-- What a mapping of a subject prints, and how it may end.
use Rattle.std.specs.Prelude.{◌≡◌, ◌⊎◌, ℕ, List, [], ◌∷◌, ◌++◌, if◌then◌else◌, Option, None, Some, IsTrue, codes}
use Rattle.std.specs.Io.KnownBytes.{Appends, Keeps}
use Rattle.leaf_edges.specs.Causes.{AppendsPrefix}
use Rattle.nats_text.specs.Text.{is_subject}
use Rattle.subject_transform.specs.declared.fault.TransformFault.TheVariants.{Bad}
use Rattle.subject_transform.specs.Transforms.{without_blanks, is_transform, IsFault, sub}
use Rattle.leafd_words.specs.Commands.{MapTexts}
use Rattle.leafd_cli.specs.declared.status.Status.{Status}
use Rattle.leafd_cli.specs.declared.status.Status.TheVariants.{Done, ScriptFault, ConfFault, Usage, ReadFault, WriteFault, DiskFault, NoMemory, ScriptTooLong, BadJournal, JournalTooLong, BadTransform, NoMatch}

-- the two texts are a transform
abbrev pub AreTransform : MapTexts → Type 0
AreTransform texts = IsTrue (is_transform texts.src texts.dest)

-- what the transform makes of the third text: nothing where that is no subject
abbrev pub made_of : MapTexts → Option (List ℕ)
made_of texts = if is_subject texts.subject then sub texts.src (without_blanks texts.dest) texts.subject else None

-- the two texts are a transform, and this line says what it makes of the third
pub record IsMapLine (texts : MapTexts) (line : List ℕ) : Type 0 where
  pub legal : AreTransform texts
  pub made : List ℕ
  pub made_is : made_of texts ≡ Some made
  pub line_is : line ≡ made ++ 10 ∷ []

-- a prefix of the line was written
abbrev pub MapsInPart : MapTexts → Option (List ℕ) → Option (List ℕ) → Type 0
MapsInPart texts before after = (line : List ℕ) × IsMapLine texts line × AppendsPrefix before after line

-- what a mapping has written, by its status
abbrev pub Maps : MapTexts → Option (List ℕ) → Option (List ℕ) → Status → Type 0
Maps texts before after Done = (line : List ℕ) × IsMapLine texts line × Appends before after line
Maps texts before after (ScriptFault line kind) = ⊥
Maps texts before after (ConfFault kind key) = ⊥
Maps texts before after Usage = ⊥
Maps texts before after ReadFault = ⊥
Maps texts before after WriteFault = MapsInPart texts before after
Maps texts before after DiskFault = ⊥
Maps texts before after NoMemory = Keeps before after ⊎ MapsInPart texts before after
Maps texts before after ScriptTooLong = ⊥
Maps texts before after (BadJournal name place) = ⊥
Maps texts before after (JournalTooLong name len) = ⊥
Maps texts before after (BadTransform place kind) = IsFault texts.src texts.dest (Bad place kind) × Keeps before after
Maps texts before after NoMatch = AreTransform texts × (made_of texts ≡ None) × Keeps before after
