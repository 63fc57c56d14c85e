-- What the parts of a store's reading answer.
use Rattle.std.specs.Prelude.{◌≡◌, ℕ, List, [], ◌∷◌, ◌++◌, Option, None, Some, Result, Ok, Err}
use Rattle.stream_fold.specs.declared.entry.Numbered.{Numbered}
use Rattle.stream_fold.specs.Histories.{kept}
use Rattle.stream_fold.specs.Held.{StandsFor}
use Rattle.record_codec.specs.declared.records.Rec.{Rec}
use Rattle.shard_machine.specs.declared.facts.Facts.{Facts}
use Rattle.shard_machine.specs.Logs.{Made, boot}
use Rattle.record_log.specs.declared.fault.StoreFault.{StoreFault}
use Rattle.record_log.specs.declared.fault.StoreFault.TheVariants.{ReadFault, BadJournal, TooLong, NoMemory}
use Rattle.log_replay.specs.declared.replay.Standing.{Standing}
use Rattle.record_log.specs.Stores.{AreShort, StoreHolds, IsBadStore, IsTooLong}
use Rattle.shard_store.specs.Streams.{AreStreams, facts_of}

-- what the reading of two disks answers
abbrev pub ReadsStore : List ℕ → Option (List ℕ) → Result (ℕ × List (Facts × List Numbered)) StoreFault → Type 0
ReadsStore a b (Ok found) = AreShort a b × (log : List Rec) × StoreHolds log a b × (found.0 ≡ boot log) × AreStreams log found.1
ReadsStore a b (Err ReadFault) = Unit {0}
ReadsStore a b (Err (BadJournal part place)) = AreShort a b × IsBadStore a b part place
ReadsStore a b (Err (TooLong part len)) = IsTooLong a b part len
ReadsStore a b (Err NoMemory) = Unit {0}

-- the state of a stream that was made
pub record IsMade (standing : Standing) (m : Made) : Type 0 where
  pub created : standing.created ≡ m.created
  pub state : StandsFor standing.state m.history

-- what is shown of a stream that stands
abbrev pub Shows : ℕ → Standing → Facts × List Numbered → Type 0
Shows incarnation standing shown = (m : Made) → IsMade standing m → shown ≡ (facts_of incarnation m, kept m.history)

-- the list with what is shown of a name: nothing where no stream stands
abbrev pub AddsShown : ℕ → Option Standing → List (Facts × List Numbered) → List (Facts × List Numbered) → Type 0
AddsShown incarnation None old new = new ≡ old
AddsShown incarnation (Some standing) old new = (shown : Facts × List Numbered) × (new ≡ old ++ shown ∷ []) × Shows incarnation standing shown
