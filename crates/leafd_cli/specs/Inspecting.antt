-- What is printed of a store, and how an inspection may end.
use Rattle.std.specs.Prelude.{◌≡◌, ◌⊎◌, ℕ, zero, suc, ◌<◌, List, [], ◌∷◌, ◌++◌, length, MatchOption, Option, Some, codes, decimal}
use Rattle.std.specs.List.{flat_map}
use Rattle.std.specs.Io.KnownBytes.{Appends, Keeps}
use Rattle.leaf_edges.specs.Causes.{AppendsPrefix}
use Rattle.stream_fold.specs.declared.entry.Numbered.{Numbered}
use Rattle.record_codec.specs.declared.records.Rec.{Rec}
use Rattle.shard_machine.specs.declared.facts.Facts.{Facts}
use Rattle.record_log.specs.declared.fault.Part.{Part}
use Rattle.record_log.specs.declared.fault.Part.TheVariants.{Main, Spare}
use Rattle.shard_machine.specs.Logs.{boot}
use Rattle.shard_store.specs.Streams.{AreStreams}
use Rattle.record_log.specs.Stores.{StoreHolds, AreShort, IsBadStore, IsTooLong}
use Rattle.leafd_cli.specs.declared.status.Status.{Status}
use Rattle.leafd_cli.specs.declared.status.Status.TheVariants.{Done, ScriptFault, ConfFault, Usage, ReadFault, WriteFault, DiskFault, NoMemory, ScriptTooLong, BadJournal, JournalTooLong, BadTransform, NoMatch}
use Rattle.leafd_cli.specs.Report.{numbers_text, row_text}
use Rattle.leafd_cli.specs.Folders.{file_name, path}

-- how many shards a store has
abbrev pub shard_count : ℕ
shard_count = 8

-- a stream of a shard: its name, how far it has come, and the messages that are kept
abbrev pub stream_text : ℕ → Facts × List Numbered → List ℕ
stream_text shard (facts, rows) = codes "stream " ++ (decimal shard ++ 32 ∷ (facts.config.name ++ (numbers_text facts.first facts.last facts.count ++ flat_map row_text rows)))

-- a shard: the number of its last opening, and its streams
abbrev pub shard_text : ℕ → ℕ → List (Facts × List Numbered) → List ℕ
shard_text shard number streams = codes "shard " ++ (decimal shard ++ (codes " boot " ++ (decimal number ++ (codes " streams " ++ (decimal (length streams) ++ 10 ∷ flat_map (stream_text shard) streams)))))

-- two disks are printed so: they stand for a log, and these are its streams
abbrev pub IsShardText : ℕ → List ℕ → Option (List ℕ) → List ℕ → Type 0
IsShardText shard a b text = (log : List Rec) × (streams : List (Facts × List Numbered)) × StoreHolds log a b × AreStreams log streams × (text ≡ shard_text shard (boot log) streams)

-- what is printed of a shard of a folder: nothing where its first disk isn't there
abbrev pub ShowsShard : (List ℕ → Option (List ℕ)) → List ℕ → ℕ → List ℕ → Type 0
ShowsShard files dir shard text = MatchOption (files (path dir shard Main)) (text ≡ []) (λ a. IsShardText shard a (files (path dir shard Spare)) text)

-- what is printed of the shards below this one
abbrev pub ShowsBelow : (List ℕ → Option (List ℕ)) → List ℕ → ℕ → List ℕ → Type 0
ShowsBelow files dir zero text = text ≡ []
ShowsBelow files dir (suc shard) text = (before : List ℕ) × (here : List ℕ) × (text ≡ before ++ here) × ShowsBelow files dir shard before × ShowsShard files dir shard here

-- the disks of a shard of a folder are at fault, and this is the name of the file that is
pub record FaultIn (Fault : List ℕ → Option (List ℕ) → Part → Type 0) (files : List ℕ → Option (List ℕ)) (dir : List ℕ) (shard : ℕ) (name : List ℕ) : Type 0 where
  pub bytes : List ℕ
  pub here : files (path dir shard Main) ≡ Some bytes
  pub part : Part
  pub fault : Fault bytes (files (path dir shard Spare)) part
  pub name_is : name ≡ file_name shard part

-- the first shard whose disks are at fault
pub record IsFirstFault (Fault : List ℕ → Option (List ℕ) → Part → Type 0) (files : List ℕ → Option (List ℕ)) (dir : List ℕ) (name : List ℕ) : Type 0 where
  pub shard : ℕ
  pub within : shard < shard_count
  pub before : List ℕ
  pub earlier : ShowsBelow files dir shard before
  pub fault : FaultIn Fault files dir shard name

-- neither disk is too long, and this is the first fault of the two
abbrev pub IsBadAt : ℕ → List ℕ → Option (List ℕ) → Part → Type 0
IsBadAt place a b part = AreShort a b × IsBadStore a b part place

-- the first of the two disks that is too long has so many bytes
abbrev pub IsLongBy : ℕ → List ℕ → Option (List ℕ) → Part → Type 0
IsLongBy len a b part = IsTooLong a b part len

-- a prefix of what is printed of the whole store was written
abbrev pub InspectsInPart : Type 0 → (List ℕ → Option (List ℕ)) → List ℕ → Option (List ℕ) → Option (List ℕ) → Type 0
InspectsInPart tells files dir before after = (text : List ℕ) × AppendsPrefix before after text × (tells → ShowsBelow files dir shard_count text)

-- What an inspection has written, by its status. Where the files tell what they hold, it is what that stands for.
abbrev pub Inspects : Type 0 → (List ℕ → Option (List ℕ)) → List ℕ → Option (List ℕ) → Option (List ℕ) → Status → Type 0
Inspects tells files dir before after Done = (text : List ℕ) × Appends before after text × (tells → ShowsBelow files dir shard_count text)
Inspects tells files dir before after (ScriptFault line kind) = ⊥
Inspects tells files dir before after (ConfFault kind key) = ⊥
Inspects tells files dir before after Usage = ⊥
Inspects tells files dir before after ReadFault = Keeps before after
Inspects tells files dir before after WriteFault = InspectsInPart tells files dir before after
Inspects tells files dir before after DiskFault = Keeps before after
Inspects tells files dir before after NoMemory = Keeps before after ⊎ InspectsInPart tells files dir before after
Inspects tells files dir before after ScriptTooLong = ⊥
Inspects tells files dir before after (BadJournal name place) = Keeps before after × (tells → IsFirstFault (IsBadAt place) files dir name)
Inspects tells files dir before after (JournalTooLong name len) = Keeps before after × (tells → IsFirstFault (IsLongBy len) files dir name)
Inspects tells files dir before after (BadTransform place kind) = ⊥
Inspects tells files dir before after NoMatch = ⊥
