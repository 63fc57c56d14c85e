-- Which writes, cuts and syncs the disks of a shard take in a call.
use Rattle.std.specs.Prelude.{◌≡◌, ◌⊎◌, ℕ, Bool, true, false, MatchBool, List, [], ◌∷◌, ◌++◌, Ok}
use Rattle.leaf_edges.specs.Disks.{Op}
use Rattle.gate_journal.specs.Journals.{append_calls}
use Rattle.record_codec.specs.Spelling.{spelling}
use Rattle.record_codec.specs.declared.records.Rec.{Rec}
use Rattle.record_log.specs.LogStates.{LogState, counted, uncounted, in_use}
use Rattle.record_log.specs.Opening.{AddsFront}
use Rattle.shard_machine.specs.Answers.{Answers}
use Rattle.shard_machine.specs.Images.{image_after}
use Rattle.shard_machine.specs.Steps.{Held, IsReady, IsSettled, next_boot, view_in}
use Rattle.shard_machine.specs.Views.{Effect}
use Rattle.shard_machine.specs.declared.call.ShardCall.{ShardCall}

-- the disks took nothing
abbrev pub DidNothing : {D : Type 0} → (D → List Op) → LogState D → LogState D → Type 0
DidNothing done old new = (done new.main ≡ done old.main) × (done new.spare ≡ done old.spare)

-- the disk that counted took these, and the other one nothing
abbrev pub DidThese : {D : Type 0} → (D → List Op) → LogState D → LogState D → List Op → Type 0
DidThese done old new calls = (done (in_use old.on_spare new.main new.spare) ≡ done (counted old) ++ calls) × (done (in_use old.on_spare new.spare new.main) ≡ done (uncounted old))

-- the disk that counted took some front of the calls by which this record is appended, and the other one nothing
abbrev pub AppendsFront : {D : Type 0} → (D → List Op) → LogState D → LogState D → Rec → Type 0
AppendsFront done old new r = (front rest : List Op) × (append_calls old.end (spelling r) ≡ front ++ rest) × DidThese done old new front

-- the disks took nothing, or what at most one append makes
abbrev pub AppendsAtMost : {D : Type 0} → (D → List Op) → LogState D → LogState D → Type 0
AppendsAtMost done old new = DidNothing done old new ⊎ ((r : Rec) × AppendsFront done old new r)

-- the disks took nothing, or what at most one append makes of the one record of the call
abbrev pub AppendsOf : {D : Type 0} → (D → List Op) → LogState D → LogState D → ShardCall → Held → Type 0
AppendsOf done old new c h = DidNothing done old new ⊎ ((does : Effect) × (r : Rec) × Answers (view_in h) c (Ok does) × (does.records ≡ r ∷ []) × AppendsFront done old new r)

-- the disks took some front of what an opening makes: an empty one is formatted, and any other synced where something is unsynced
abbrev pub OpensFront : {D : Type 0} → (D → List ℕ) → (D → Bool) → (D → List Op) → LogState D → LogState D → Type 0
OpensFront seen unsynced done old new = AddsFront seen unsynced done true old.main new.main × AddsFront seen unsynced done false old.spare new.spare

-- the disks took nothing, or what an opening makes, and then what at most one append makes
abbrev pub LoadsFront : {D : Type 0} → (D → List ℕ) → (D → Bool) → (D → List Op) → LogState D → LogState D → Type 0
LoadsFront {D = D} seen unsynced done old new = DidNothing done old new ⊎ ((read : LogState D) × OpensFront seen unsynced done old read × AppendsAtMost done read new)

-- A shard that is ready takes what at most one append makes. One that isn't takes first what a load makes.
abbrev pub CallDoes : {D : Type 0} → (D → List ℕ) → (D → Bool) → (D → List Op) → Bool → LogState D → LogState D → Type 0
CallDoes {D = D} seen unsynced done ready old new = MatchBool ready (AppendsAtMost done old new) ((loaded : LogState D) × LoadsFront seen unsynced done old loaded × AppendsAtMost done loaded new)

-- the disks took nothing, or some front of the calls by which the log's next opening is appended, behind the record in doubt or
-- without it
abbrev pub OpeningOf : {D : Type 0} → (D → List Op) → LogState D → LogState D → Held → Type 0
OpeningOf done old new h = DidNothing done old new ⊎ ((settled : List Rec) × IsSettled h.doubt settled × AppendsFront done old new (next_boot (image_after h.image settled)))

-- the disks took nothing, or what an opening of the log makes, and then what the append of its next opening makes
abbrev pub LoadsOf : {D : Type 0} → (D → List ℕ) → (D → Bool) → (D → List Op) → LogState D → LogState D → Held → Type 0
LoadsOf {D = D} seen unsynced done old new h = DidNothing done old new ⊎ ((read : LogState D) × OpensFront seen unsynced done old read × OpeningOf done read new h)

-- A call that loads: the disks took what the load makes, and then nothing, or what at most one append makes of the one record of the
-- call, as the shard answers it that is ready then.
pub record LoadsAndAppends {D : Type 0} (seen : D → List ℕ) (unsynced : D → Bool) (done : D → List Op) (old new : LogState D) (c : ShardCall) (h : Held) : Type 0 where
  pub loaded : LogState D
  pub loads : LoadsOf seen unsynced done old loaded h
  pub appends : DidNothing done loaded new ⊎ ((records : List Rec) × (ready : Held) × IsReady h records ready × AppendsOf done loaded new c ready)
