-- What holds of the bytes of records, whatever the code does.
use Rattle.std.specs.Prelude.{◌≡◌, List, ℕ, Ok}
use Rattle.record_codec.specs.declared.records.Rec.{Rec}
use Rattle.record_codec.specs.Spelling.{IsSpeakable, spelling}
use Rattle.record_codec.specs.Reading.{AreBytes, reading}

-- what is read is a record that has a spelling, and the bytes are this spelling
abbrev pub ReadsSpellingsAlone : Type 0
ReadsSpellingsAlone = (bytes : List ℕ) (it : Rec) → AreBytes bytes → reading bytes ≡ Ok it → IsSpeakable it × (bytes ≡ spelling it)

-- what a record is spelled as is read as this record
abbrev pub ReadsWhatIsSpelled : Type 0
ReadsWhatIsSpelled = (it : Rec) → IsSpeakable it → reading (spelling it) ≡ Ok it

-- bytes that are read as one record are the same
abbrev pub HasOneSpelling : Type 0
HasOneSpelling = (a b : List ℕ) (it : Rec) → AreBytes a → AreBytes b → reading a ≡ Ok it → reading b ≡ Ok it → a ≡ b

-- records that are spelled alike are the same
abbrev pub SpellsOneRecord : Type 0
SpellsOneRecord = (it other : Rec) → IsSpeakable it → IsSpeakable other → spelling it ≡ spelling other → it ≡ other
