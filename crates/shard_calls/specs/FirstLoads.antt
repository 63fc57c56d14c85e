-- What comes of the load of a shard from its two disks.
use Rattle.std.specs.Prelude.{◌≡◌, ◌⊎◌, ℕ, ◌+◌, ◌-◌, ◌^◌, min, Bool, true, false, List, [], ◌∷◌, ◌++◌, map, Result, Ok, Err, None}
use Rattle.std.specs.FinMap.{empty}
use Rattle.leaf_edges.specs.Disks.{Op}
use Rattle.record_codec.specs.declared.records.Rec.{Rec}
use Rattle.record_log.specs.declared.fault.OpenFault.{OpenFault}
use Rattle.record_log.specs.declared.fault.OpenFault.TheVariants.{ReadFault, SyncFault, BadJournal, TooLong, NoMemory}
use Rattle.record_log.specs.LogStates.{LogState}
use Rattle.record_log.specs.Opening.{FailsBy, AddsFront}
use Rattle.record_log.specs.Standing.{StandIn, EachStandsFor, IsOneOf}
use Rattle.shard_machine.specs.Images.{image}
use Rattle.shard_machine.specs.Legal.{IsLegal}
use Rattle.shard_machine.specs.Steps.{Held, end_after, has_room, needed, next_boot}
use Rattle.shard_calls.specs.Memories.{ShardState}
use Rattle.shard_calls.specs.Shards.{Keeps, IsFor}
use Rattle.shard_calls.specs.DeviceCalls.{AppendsAtMost}

-- what a shard of this node holds once its log was opened, of which this is the last opening: no consumer stands, and no
-- asker has asked
abbrev pub held_of : List ℕ → List Rec → Held
held_of node log = record {
  node = node;
  image = image log;
  doubt = None;
  loaded = true;
  given = 0;
  consumers = [];
  askers = empty;
  end = end_after 17 log;
}

-- the log with its next opening
abbrev pub opened_log : List Rec → List Rec
opened_log log = log ++ next_boot (image log) ∷ []

-- the next opening of a log has room
abbrev pub has_opening : List Rec → Bool
has_opening log = has_room (end_after 17 log) (image log) (next_boot (image log))

-- A shard was loaded from two disks: it holds what a log leaves that got its next opening. Where the disks tell what they hold,
-- it is the log for which they stood, and whatever a crash leaves of them now stands for it with the opening.
pub record IsLoaded {D : Type 0} (tells : Type 0) (seen : D → List ℕ) (images : D → List ℕ → Type 0) (main spare : D) (node : List ℕ) (s : ShardState D) : Type 0 where
  pub log : List Rec
  pub legal : IsLegal log
  pub room : has_opening log ≡ true
  pub keeps : Keeps s (held_of node (opened_log log))
  pub stood : tells → StandIn log (seen main) (seen spare)
  pub stands : tells → IsFor images s.log (held_of node (opened_log log)) (opened_log log)
  -- for whatever logs the disks stood, it is one of them
  pub among : tells → (logs : List (List Rec)) → EachStandsFor images main spare logs → IsOneOf log logs

-- The two disks hold a log whose next opening has no room: their journal would have `len` bytes with it.
pub record LacksOpening (a b : List ℕ) (len : ℕ) : Type 0 where
  pub log : List Rec
  pub legal : IsLegal log
  pub stands : StandIn log a b
  pub room : has_opening log ≡ false
  pub len_is : len ≡ min (end_after 17 log + needed (next_boot (image log))) (2 ^ 64 - 1)

-- the first fault of what two disks hold; that the next opening has no room comes last
abbrev pub LoadFails : List ℕ → List ℕ → OpenFault → Type 0
LoadFails a b ReadFault = Unit {0}
LoadFails a b SyncFault = Unit {0}
LoadFails a b (BadJournal place) = FailsBy a b (BadJournal place)
LoadFails a b (TooLong len) = FailsBy a b (TooLong len) ⊎ LacksOpening a b len
LoadFails a b NoMemory = Unit {0}

-- each of the logs with its next opening
abbrev pub opened_logs : List (List Rec) → List (List Rec)
opened_logs logs = map opened_log logs

-- the two disks after a load have this, whatever it answered
abbrev pub OnDisks : {D : Type 0} → (D → D → Type 0) → Result (ShardState D) (OpenFault × D × D) → Type 0
OnDisks P (Ok s) = P s.log.main s.log.spare
OnDisks P (Err failed) = P failed.1 failed.2

-- the same of a log that was opened and got its next opening
abbrev pub OnLog : {D : Type 0} → (D → D → Type 0) → Result (LogState D) (OpenFault × D × D) → Type 0
OnLog P (Ok l) = P l.main l.spare
OnLog P (Err failed) = P failed.1 failed.2

-- the disks took some front of what an opening makes, and then what at most one append makes
pub record LoadDoes {D : Type 0} (seen : D → List ℕ) (unsynced : D → Bool) (done : D → List Op) (main spare main' spare' : D) : Type 0 where
  pub read : LogState D
  pub added : LogState D
  pub opens : AddsFront seen unsynced done true main read.main × AddsFront seen unsynced done false spare read.spare
  pub appends : AppendsAtMost done read added
  pub main_is : added.main ≡ main'
  pub spare_is : added.spare ≡ spare'

-- the first opening of a shard isn't added for want of room, or of memory, or because a disk failed
abbrev pub OpeningFails : List Rec → OpenFault → Type 0
OpeningFails log ReadFault = ⊥
OpeningFails log SyncFault = Unit {0}
OpeningFails log (BadJournal place) = ⊥
OpeningFails log (TooLong len) = (has_opening log ≡ false) × (len ≡ min (end_after 17 log + needed (next_boot (image log))) (2 ^ 64 - 1))
OpeningFails log NoMemory = Unit {0}
