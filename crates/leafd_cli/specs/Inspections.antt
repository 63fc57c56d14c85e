-- What the parts of an inspection do.
use Rattle.std.specs.Prelude.{◌≡◌, ◌≢◌, ◌⊎◌, ℕ, ◌+◌, ◌-◌, ◌^◌, min, List, ◌++◌, Option, None, Some, Result, Ok, Err}
use Rattle.std.specs.Global.{Vec}
use Rattle.leaf_edges.specs.Causes.{Rose}
use Rattle.leaf_edges.specs.declared.fault.EdgeError.{EdgeError}
use Rattle.leaf_edges.specs.declared.fault.EdgeError.TheVariants.{Failed, NoMemory as NoRoom}
use Rattle.stream_fold.specs.declared.entry.Numbered.{Numbered}
use Rattle.record_codec.specs.declared.records.Rec.{Rec}
use Rattle.shard_machine.specs.declared.facts.Facts.{Facts}
use Rattle.record_log.specs.declared.fault.Part.{Part}
use Rattle.record_log.specs.declared.fault.Part.TheVariants.{Main, Spare}
use Rattle.record_log.specs.declared.fault.StoreFault.{StoreFault}
use Rattle.record_log.specs.declared.fault.StoreFault.TheVariants.{ReadFault as Unread, BadJournal as BadStore, TooLong as LongStore, NoMemory as NoRoomRead}
use Rattle.shard_machine.specs.Logs.{boot}
use Rattle.shard_store.specs.Streams.{AreStreams}
use Rattle.record_log.specs.Stores.{StoreHolds}
use Rattle.leafd_cli.specs.declared.inspect.InspectFault.{InspectFault}
use Rattle.leafd_cli.specs.declared.inspect.InspectFault.TheVariants.{Read, Disk, BadJournal, TooLong, NoMemory}
use Rattle.leafd_cli.specs.declared.status.Status.{Status}
use Rattle.leafd_cli.specs.declared.status.Status.TheVariants as ended
use Rattle.leafd_cli.specs.Folders.{file_name, path}
use Rattle.leafd_cli.specs.Outcome.{GoesUp}
use Rattle.leafd_cli.specs.Inspecting.{shard_count, ShowsShard, ShowsBelow, FaultIn, IsFirstFault, IsBadAt, IsLongBy}

-- a failure of the files
abbrev pub edge_fault : EdgeError → InspectFault
edge_fault Failed = Read
edge_fault NoRoom = NoMemory

abbrev pub fault_status : InspectFault → Status
fault_status Read = ended.ReadFault
fault_status Disk = ended.DiskFault
fault_status (BadJournal name place) = ended.BadJournal name place
fault_status (TooLong name len) = ended.JournalTooLong name len
fault_status NoMemory = ended.NoMemory

-- what is told of a shard's fault; there may be no memory for the file's name
abbrev pub TurnsInto : ℕ → StoreFault → InspectFault → Type 0
TurnsInto shard Unread fault = fault ≡ Disk
TurnsInto shard (BadStore part place) fault = (fault ≡ BadJournal (file_name shard part) place) ⊎ (fault ≡ NoMemory)
TurnsInto shard (LongStore part len) fault = (fault ≡ TooLong (file_name shard part) len) ⊎ (fault ≡ NoMemory)
TurnsInto shard NoRoomRead fault = fault ≡ NoMemory

-- the opening's number and the streams of the log for which two disks stand, or what is wrong with them
abbrev pub ReadsDisks : ℕ → List ℕ → Option (List ℕ) → Result (ℕ × List (Facts × List Numbered)) InspectFault → Type 0
ReadsDisks shard a b (Ok found) = (log : List Rec) × StoreHolds log a b × (found.0 ≡ boot log) × AreStreams log found.1
ReadsDisks shard a b (Err (BadJournal name place)) = (part : Part) × IsBadAt place a b part × (name ≡ file_name shard part)
ReadsDisks shard a b (Err (TooLong name len)) = (part : Part) × IsLongBy len a b part × (name ≡ file_name shard part)
ReadsDisks shard a b (Err fault) = Unit {0}

-- the streams of a shard of a folder, none where its first disk isn't there, or its disks are at fault
abbrev pub ReadsShard : (List ℕ → Option (List ℕ)) → List ℕ → ℕ → Result (Option (ℕ × List (Facts × List Numbered))) InspectFault → Type 0
ReadsShard files dir shard (Ok None) = files (path dir shard Main) ≡ None
ReadsShard files dir shard (Ok (Some found)) = (a : List ℕ) × (files (path dir shard Main) ≡ Some a) × ReadsDisks shard a (files (path dir shard Spare)) (Ok found)
ReadsShard files dir shard (Err (BadJournal name place)) = FaultIn (IsBadAt place) files dir shard name
ReadsShard files dir shard (Err (TooLong name len)) = FaultIn (IsLongBy len) files dir shard name
ReadsShard files dir shard (Err fault) = Unit {0}

-- what is printed of a shard was added, or its disks are at fault
abbrev pub Pushes : Type 0 → (List ℕ → Option (List ℕ)) → List ℕ → ℕ → List ℕ → List ℕ → Result Unit InspectFault → Type 0
Pushes tells files dir shard old new (Ok value) = (here : List ℕ) × (new ≡ old ++ here) × (tells → ShowsShard files dir shard here)
Pushes tells files dir shard old new (Err (BadJournal name place)) = tells → FaultIn (IsBadAt place) files dir shard name
Pushes tells files dir shard old new (Err (TooLong name len)) = tells → FaultIn (IsLongBy len) files dir shard name
Pushes tells files dir shard old new (Err fault) = Unit {0}

-- what is printed of all shards, or the first whose disks are at fault
abbrev pub Reports : Type 0 → (List ℕ → Option (List ℕ)) → List ℕ → Result (Vec ℕ) InspectFault → Type 0
Reports tells files dir (Ok report) = tells → ShowsBelow files dir shard_count report.items
Reports tells files dir (Err (BadJournal name place)) = tells → IsFirstFault (IsBadAt place) files dir name
Reports tells files dir (Err (TooLong name len)) = tells → IsFirstFault (IsLongBy len) files dir name
Reports tells files dir (Err fault) = Unit {0}

-- the files' count of faults rose, or that of disk faults went up, or both stayed
abbrev pub HasReadAll : {T : Type 0} → ℕ → ℕ → ℕ → ℕ → Result T InspectFault → Type 0
HasReadAll before now disks disks' (Ok value) = (now ≡ before) × (disks' ≡ disks)
HasReadAll before now disks disks' (Err Read) = Rose before now × (disks' ≡ disks)
HasReadAll before now disks disks' (Err Disk) = (now ≡ before) × GoesUp disks disks'
HasReadAll before now disks disks' (Err fault) = (now ≡ before) × (disks' ≡ disks)

-- the same while the first disk of a shard is out, with this count of faults of its own
abbrev pub HasRead : {T : Type 0} → ℕ → ℕ → ℕ → ℕ → ℕ → Result T InspectFault → Type 0
HasRead own before now disks disks' (Ok value) = (own ≡ 0) × (now ≡ before) × (disks' ≡ disks)
HasRead own before now disks disks' (Err Read) = (own ≡ 0) × Rose before now × (disks' ≡ disks)
HasRead own before now disks disks' (Err Disk) = (now ≡ before) × (((own ≢ 0) × (disks' ≡ disks)) ⊎ ((own ≡ 0) × GoesUp disks disks'))
HasRead own before now disks disks' (Err fault) = (own ≡ 0) × (now ≡ before) × (disks' ≡ disks)
