-- What holds of patterns, of header blocks and of `==`, whatever the code does.
use Rattle.std.specs.Prelude.{◌≡◌, ◌↔◌, ℕ, List, Ok, Err, IsTrue}
use Rattle.nats_text.specs.declared.message.Message.{Message}
use Rattle.nats_text.specs.declared.message.Parcel.{Parcel}
use Rattle.nats_text.specs.Text.{tokens, is_subject}
use Rattle.nats_text.specs.Matching.{match_tokens, overlap, is_within, Overlap, IsWithin}
use Rattle.nats_text.specs.Headers.{HeaderBlock, is_header_block, IsBlock, IsFirstBadLine, written, read_block}
use Rattle.nats_text.specs.SameHeaders.{same_headers}
use Rattle.nats_text.specs.SameMessages.{same_message, same_parcel}

-- a pattern that is a subject matches the tokens of this subject alone
abbrev pub MatchesItselfAlone : Type 0
MatchesItselfAlone = (subject : List ℕ) (ts : List (List ℕ)) → IsTrue (is_subject subject) → (IsTrue (match_tokens (tokens subject) ts) ↔ (ts ≡ tokens subject))

-- the walk over two patterns finds whether some list of tokens matches both
abbrev pub OverlapIsMet : Type 0
OverlapIsMet = (a b : List ℕ) → IsTrue (overlap a b) ↔ Overlap a b

-- patterns overlap either way round
abbrev pub OverlapIsSymmetric : Type 0
OverlapIsSymmetric = (a b : List ℕ) → overlap a b ≡ overlap b a

-- the walk over two patterns finds whether every list of tokens that matches one matches the other
abbrev pub WithinIsKept : Type 0
WithinIsKept = (a b : List ℕ) → IsTrue (is_within a b) ↔ IsWithin a b

-- each pattern is within itself
abbrev pub WithinIsReflexive : Type 0
WithinIsReflexive = (a : List ℕ) → IsTrue (is_within a a)

-- a pattern within one that is within a third is within the third
abbrev pub WithinIsTransitive : Type 0
WithinIsTransitive = (a b c : List ℕ) → IsTrue (is_within a b) → IsTrue (is_within b c) → IsTrue (is_within a c)

-- exactly the blocks are read
abbrev pub ReadsBlocksAlone : Type 0
ReadsBlocksAlone = (bytes : List ℕ) (block : HeaderBlock) → (read_block bytes ≡ Ok block) ↔ IsBlock bytes block

-- what isn't read has its first bad line at the place
abbrev pub TellsFirstBadLine : Type 0
TellsFirstBadLine = (bytes : List ℕ) (place : ℕ) → read_block bytes ≡ Err place → IsFirstBadLine bytes place

-- what is written of headers is a block of these
abbrev pub WritesBlocks : Type 0
WritesBlocks = (block : HeaderBlock) → IsTrue (is_header_block block) → IsBlock (written block) block

-- headers that are written and read are the same
abbrev pub ReadsWhatIsWritten : Type 0
ReadsWhatIsWritten = (block : HeaderBlock) → IsTrue (is_header_block block) → read_block (written block) ≡ Ok block

-- `==` is the equality of what contracts see
abbrev pub SameHeadersAreEqual : Type 0
SameHeadersAreEqual = (a b : HeaderBlock) → IsTrue (same_headers a b) ↔ (a ≡ b)

-- `==` of messages is the equality of what contracts see
abbrev pub SameMessagesAreEqual : Type 0
SameMessagesAreEqual = (a b : Message) → IsTrue (same_message a b) ↔ (a ≡ b)

-- the same of parcels
abbrev pub SameParcelsAreEqual : Type 0
SameParcelsAreEqual = (a b : Parcel) → IsTrue (same_parcel a b) ↔ (a ≡ b)
