-- What a shard on two disks keeps, for which log its disks stand, and what its calls lead to.
use Rattle.std.specs.Prelude.{◌≡◌, ◌⊎◌, ℕ, ◌≤◌, Bool, true, false, List, [], ◌∷◌, ◌++◌, Option, None, Some, Result, Ok, Err}
use Rattle.record_codec.specs.declared.records.Rec.{Rec}
use Rattle.record_log.specs.Appending.{IsOpenAt}
use Rattle.record_log.specs.Standing.{EachStandsFor, SinceStandFor}
use Rattle.shard_machine.specs.Images.{image, image_after}
use Rattle.shard_machine.specs.Legal.{IsLegal}
use Rattle.shard_machine.specs.Views.{View, Effect}
use Rattle.shard_machine.specs.Answers.{Answers}
use Rattle.log_replay.specs.declared.replay.Replay.{Replay}
use Rattle.log_replay.specs.Replays.{IsReplayOf}
use Rattle.shard_machine.specs.Steps.{Held, view_in, end_after, next_boot, IsReady, IsSettled, Refuses, Step}
use Rattle.shard_machine.specs.declared.call.ShardCall.{ShardCall}
use Rattle.shard_machine.specs.declared.reply.ShardReply.{ShardReply}
use Rattle.shard_calls.specs.declared.doubt.Failure.{Failure}
use Rattle.record_log.specs.LogStates.{LogState}
use Rattle.shard_calls.specs.Memories.{ShardState}
use Rattle.shard_table.specs.Holding.{Holds}

-- ---- logs of a call

-- the log, and where a record is in doubt the log with it too
abbrev pub with_doubt : List Rec → Option Rec → List (List Rec)
with_doubt log None = log ∷ []
with_doubt log (Some r) = log ∷ (log ++ r ∷ []) ∷ []

-- the log with each front of these records
abbrev pub fronts : List Rec → List Rec → List (List Rec)
fronts log [] = log ∷ []
fronts log (r ∷ records) = log ∷ fronts (log ++ r ∷ []) records

-- the logs for which the disks may stand in the course of a call: that before it, with a record in doubt or without it, and with
-- each front of the records that the call added or tried to add
abbrev pub on_the_way : List Rec → Option Rec → List Rec → List (List Rec)
on_the_way log before records = with_doubt log before ++ fronts log records

-- ---- what a shard keeps

-- Where it is loaded, its table holds all that it answers by, and the journal is open. Where it isn't, the image alone is
-- kept, and the record in doubt: the next load reads all else anew.
abbrev pub KeepsIf : {D : Type 0} → Bool → ShardState D → Held → Type 0
KeepsIf true s h = (h.doubt ≡ None) × IsOpenAt s.log h.end × Holds s.memory.table (view_in h)
KeepsIf false s h = (h.doubt ≡ s.memory.doubt) × (v : View) × Holds s.memory.table v × (v.node ≡ h.node) × (v.image ≡ h.image)

-- a shard keeps this
pub record Keeps {D : Type 0} (s : ShardState D) (h : Held) : Type 0 where
  pub loaded : h.loaded ≡ s.memory.loaded
  pub parts : KeepsIf s.memory.loaded s h

-- What is held is the image of the log, which ends where it says, and whatever a crash leaves of the disks stands for the
-- log, or for the log with the record in doubt.
pub record IsFor {D : Type 0} (images : D → List ℕ → Type 0) (l : LogState D) (h : Held) (log : List Rec) : Type 0 where
  pub legal : IsLegal log
  pub image_is : h.image ≡ image log
  pub end_is : h.end ≡ end_after 17 log
  pub disks : EachStandsFor images l.main l.spare (with_doubt log h.doubt)

-- ---- what a call leads to

-- A step leads from what a shard kept to what it keeps then.
pub record StepsFrom {D : Type 0} (c : ShardCall) (reply : ShardReply) (new : ShardState D) (h : Held) : Type 0 where
  pub records : List Rec
  pub after : Held
  pub step : Step h c reply records after
  pub keeps : Keeps new after

-- whatever a crash left of the disks at any moments since these two stands for one of the logs of before, or of those on
-- the way
abbrev pub PassesBy : {D : Type 0} → (D → ℕ) → (D → ℕ → List ℕ → Type 0) → LogState D → LogState D → List (List Rec) → Type 0
PassesBy moment left_since old new way = (t u : ℕ) (logs : List (List Rec)) → t ≤ moment old.main → u ≤ moment old.spare
    → SinceStandFor left_since t u old.main old.spare logs → SinceStandFor left_since t u new.main new.spare (logs ++ way)

-- These records join the log, and these were tried: the shard keeps what is held then, its disks stand for the log with the
-- records, and in between they stood for one of the logs on the way.
pub record Moves {D : Type 0} (images : D → List ℕ → Type 0) (moment : D → ℕ) (left_since : D → ℕ → List ℕ → Type 0) (old : LogState D) (new : ShardState D) (before : Option Rec) (log records tried : List Rec) (after : Held) : Type 0 where
  pub keeps : Keeps new after
  pub stands : IsFor images new.log after (log ++ records)
  pub later : (moment old.main ≤ moment new.log.main) × (moment old.spare ≤ moment new.log.spare)
  pub passes : PassesBy moment left_since old new.log (on_the_way log before (records ++ tried))

-- a record was tried, and is in doubt now
abbrev pub IsDoubted : Held → List Rec → Type 0
IsDoubted after tried = (r : Rec) × (tried ≡ r ∷ []) × (after.doubt ≡ Some r)

-- the record of the call was tried, and there was no memory
abbrev pub IsOfCall : ShardCall → Held → List Rec → Type 0
IsOfCall c after tried = (does : Effect) × Answers (view_in after) c (Ok does) × (tried ≡ does.records)

-- the opening of a load was tried, behind the record in doubt or without it, and there was no memory
abbrev pub IsOpening : Held → List Rec → Type 0
IsOpening h tried = (h.loaded ≡ false) × (settled : List Rec) × IsSettled h.doubt settled × (tried ≡ settled ++ next_boot (image_after h.image settled) ∷ [])

-- what was tried beside the records that joined the log: nothing, or one of these
abbrev pub IsTried : Held → ShardCall → Held → List Rec → Type 0
IsTried h c after tried = (tried ≡ []) ⊎ (IsDoubted after tried ⊎ (IsOfCall c after tried ⊎ IsOpening h tried))

-- A step leads from what a shard kept, whose disks stood for the log, to what it keeps then; its disks stand for the log with
-- the step's records, and at each moment since the call began they stood for one of the logs on the way.
pub record StepsOn {D : Type 0} (images : D → List ℕ → Type 0) (moment : D → ℕ) (left_since : D → ℕ → List ℕ → Type 0) (old : LogState D) (c : ShardCall) (reply : ShardReply) (new : ShardState D) (h : Held) (log : List Rec) : Type 0 where
  pub records : List Rec
  pub after : Held
  pub step : Step h c reply records after
  pub tried : List Rec
  pub is_tried : IsTried h c after tried
  pub moves : Moves images moment left_since old new h.doubt log records tried after

-- ---- parts of a call

-- a shard made itself ready for a call, or the call is refused
abbrev pub Readies : {D T : Type 0} → (D → List ℕ → Type 0) → (D → ℕ) → (D → ℕ → List ℕ → Type 0) → LogState D → ShardState D → Held → List Rec → Result T Failure → Type 0
Readies images moment left_since old new h log (Ok value) = (records : List Rec) × (ready : Held) × IsReady h records ready × Moves images moment left_since old new h.doubt log records [] ready
Readies images moment left_since old new h log (Err failure) = (records tried : List Rec) × (after : Held) × ((c : ShardCall) → Refuses h c failure.why failure.doubted records after) × ((c : ShardCall) → IsTried h c after tried)
    × Moves images moment left_since old new h.doubt log records tried after

-- The disks of a shard that isn't loaded were read again: they stand for this log, which is the one of before, with the record in
-- doubt or without it.
pub record IsReread {D : Type 0} (images : D → List ℕ → Type 0) (l : LogState D) (streams : Replay) (h : Held) (log settled : List Rec) : Type 0 where
  pub off : h.loaded ≡ false
  pub legal_before : IsLegal log
  pub image_is : h.image ≡ image log
  pub end_is : h.end ≡ end_after 17 log
  pub legal : IsLegal (log ++ settled)
  pub replayed : IsReplayOf streams (log ++ settled)
  pub is_settled : IsSettled h.doubt settled
  pub end : l.end ≡ end_after 17 (log ++ settled)
  pub stands : EachStandsFor images l.main l.spare ((log ++ settled) ∷ [])
