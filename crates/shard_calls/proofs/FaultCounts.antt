-- Where a disk failed, by what its parts say of a call.
use Rattle.std.proofs.Common.{◌≡◌, ◌≢◌, ◌∙◌, ℕ, Bool, true, false, [], Option, Result, Ok, Err, MatchBool, refl, sym, ap, subst, inl, inr}
use Rattle.leaf_edges.specs.Causes.{RoseByOne}
use Rattle.stream_fold.specs.declared.entry.Entry.{Entry}
use Rattle.log_replay.specs.declared.replay.Replay.{Replay}
use Rattle.record_log.specs.LogStates.{LogState, in_use, uncounted}
use Rattle.record_log.specs.Opening.{OneRose, NoneRose, OpenCauses, Tallies}
use Rattle.record_log.specs.declared.fault.OpenFault.{OpenFault}
use Rattle.record_log.specs.declared.fault.OpenFault.TheVariants as open_as
use Rattle.shard_machine.proofs.RefusedPackets.{none-of-fault}
use Rattle.shard_machine.specs.Answers.{Answers}
use Rattle.shard_machine.specs.Steps.{refused_packets}
use Rattle.shard_machine.specs.Views.{View, Effect}
use Rattle.shard_machine.specs.declared.call.ShardCall.{ShardCall}
use Rattle.shard_machine.specs.declared.reply.Outcome.{Outcome}
use Rattle.shard_machine.specs.declared.reply.Outcome.TheVariants as outcome
use Rattle.shard_machine.specs.declared.reply.ShardRefusal.{ShardRefusal}
use Rattle.shard_machine.specs.declared.reply.ShardRefusal.TheVariants as refusal
use Rattle.shard_machine.specs.declared.reply.ShardReply.{ShardReply}
use Rattle.shard_table.specs.Answering.{Gives, TurnsDown}
use Rattle.shard_table.specs.declared.answered.Answered.{Answered}
use Rattle.shard_table.specs.declared.answered.Answered.TheVariants.{Done, Append}
use Rattle.shard_table.specs.declared.table.Table.{Table}
use Rattle.shard_calls.specs.Adding.{AddCauses}
use Rattle.shard_calls.specs.Causes.{NoneFailed, OneFailed, FailedIf, ReadyCauses, AddFails, is_fault, is_disk_fault, tells_fault}
use Rattle.shard_calls.specs.Failing.{failure}
use Rattle.shard_calls.specs.declared.adding.AddFault.{AddFault}
use Rattle.shard_calls.specs.declared.adding.AddFault.TheVariants.{Full, NoMemory, DiskFault}
use Rattle.shard_calls.specs.declared.doubt.Failure.{Failure}
use Rattle.shard_calls.proofs.AnswerKinds.{IsDone, done}
use Rattle.shard_calls.proofs.CallSteps.{Replies}

-- ---- a record is added

none-both : {D : Type 0} (faults : D → ℕ) (a b : Bool) (om os nm ns : D) → b ≡ a → in_use b ns nm ≡ in_use a os om → faults (in_use b nm ns) ≡ faults (in_use a om os) → NoneRose faults om os nm ns
none-both faults false false om os nm ns same other counts = (counts, ap faults other)
none-both faults true true om os nm ns same other counts = (ap faults other, counts)
none-both faults false true om os nm ns same other counts = absurd (cc)
none-both faults true false om os nm ns same other counts = absurd (cc)

one-both : {D : Type 0} (faults : D → ℕ) (a b : Bool) (om os nm ns : D) → b ≡ a → in_use b ns nm ≡ in_use a os om → RoseByOne (faults (in_use a om os)) (faults (in_use b nm ns)) → OneRose faults om os nm ns
one-both faults false false om os nm ns same other rose = inl (rose, ap faults other)
one-both faults true true om os nm ns same other rose = inr (ap faults other, rose)
one-both faults false true om os nm ns same other rose = absurd (cc)
one-both faults true false om os nm ns same other rose = absurd (cc)

-- what is said of the disk that counts is said of both, since the other one wasn't called
pub add-fails : {D T : Type 0} (faults : D → ℕ) (old new : LogState D) (result : Result T AddFault) → new.on_spare ≡ old.on_spare → uncounted new ≡ uncounted old → AddCauses faults old new result → AddFails faults old new result
add-fails faults old new (Ok value) disk one c = (none-both faults old.on_spare new.on_spare old.main old.spare new.main new.spare disk one c.0, c.1)
add-fails faults old new (Err (Full end need)) disk one c = (none-both faults old.on_spare new.on_spare old.main old.spare new.main new.spare disk one c.0, c.1)
add-fails faults old new (Err NoMemory) disk one c = (none-both faults old.on_spare new.on_spare old.main old.spare new.main new.spare disk one c.0, c.1)
add-fails faults old new (Err DiskFault) disk one c = (one-both faults old.on_spare new.on_spare old.main old.spare new.main new.spare disk one c.0, c.1)

-- ---- one part after another

module _ {D : Type 0} (faults : D → ℕ) (old mid new : LogState D) (first : NoneFailed faults old mid) where
  pub none-then : NoneFailed faults mid new → NoneFailed faults old new
  none-then then = ((then.0.0 ∙ first.0.0, then.0.1 ∙ first.0.1), then.1 ∙ first.1)

  pub one-then : OneFailed faults mid new → OneFailed faults old new
  one-then then = (rises then.0, subst (λ (n : ℕ). RoseByOne n new.faults) first.1 then.1)
    where
      rises : OneRose faults mid.main mid.spare new.main new.spare → OneRose faults old.main old.spare new.main new.spare
      rises (inl main) = inl (subst (λ (n : ℕ). RoseByOne n (faults new.main)) first.0.0 main.0, main.1 ∙ first.0.1)
      rises (inr spare) = inr (spare.0 ∙ first.0.0, subst (λ (n : ℕ). RoseByOne n (faults new.spare)) first.0.1 spare.1)

  pub failed-then : (failed : Bool) → FailedIf failed faults mid new → FailedIf failed faults old new
  failed-then true then = one-then then
  failed-then false then = none-then then

pub none-here : {D : Type 0} (faults : D → ℕ) (l : LogState D) → NoneFailed faults l l
none-here faults l = ((refl, refl), refl)

-- where no disk failed, none is said to have failed
pub none-said : {D : Type 0} (faults : D → ℕ) (old new : LogState D) (failed : Bool) → failed ≡ false → NoneFailed faults old new → FailedIf failed faults old new
none-said faults old new failed is none = subst (λ (b : Bool). FailedIf b faults old new) (sym is) none

pub one-said : {D : Type 0} (faults : D → ℕ) (old new : LogState D) (failed : Bool) → failed ≡ true → OneFailed faults old new → FailedIf failed faults old new
one-said faults old new failed is one = subst (λ (b : Bool). FailedIf b faults old new) (sym is) one

-- what a load makes behind an opening is said of the whole
pub ready-then : {D T : Type 0} (faults : D → ℕ) (old mid new : LogState D) (result : Result T Failure) → NoneFailed faults old mid → ReadyCauses faults mid new result → ReadyCauses faults old new result
ready-then faults old mid new (Ok value) first then = none-then faults old mid new first then
ready-then faults old mid new (Err failure) first then = failed-then faults old mid new first (is_disk_fault failure.why) then

-- a refusal by itself
pub refusing-causes : {D : Type 0} (faults : D → ℕ) (old new : LogState D) (given made : Failure) → given ≡ made → FailedIf (is_disk_fault made.why) faults old new → FailedIf (is_disk_fault given.why) faults old new
refusing-causes faults old new given made is m = subst (λ (f : Failure). FailedIf (is_disk_fault f.why) faults old new) (sym is) m

-- ---- refusals

-- what sends a packet is no fault of a disk
told-none : (P Q : Type 0) (c : ShardCall) (why : ShardRefusal) → refused_packets c why ≢ [] → MatchBool (is_disk_fault why) P Q → Q
told-none P Q c (refusal.Of why) told m = m
told-none P Q c refusal.NoStream told m = m
told-none P Q c (refusal.BadConfig member) told m = m
told-none P Q c refusal.NameTaken told m = m
told-none P Q c refusal.TooManyStreams told m = m
told-none P Q c (refusal.OldAttempt kept seen) told m = m
told-none P Q c refusal.TooManyConsumers told m = m
told-none P Q c refusal.NoMessage told m = m
told-none P Q c (refusal.JournalFull end need) told m = m
told-none P Q c (refusal.BadJournal place) told m = m
told-none P Q c refusal.NoMemory told m = m
told-none P Q c refusal.DiskFault told m = absurd (told (none-of-fault c))

-- the reply of a refusal says that a disk failed exactly where the refusal does
pub refused-causes : {D : Type 0} (faults : D → ℕ) (old new : LogState D) (c : ShardCall) (why : ShardRefusal) (doubted : Option Entry) (reply : ShardReply) → Replies c why doubted reply → FailedIf (is_disk_fault why) faults old new → FailedIf (is_fault reply.outcome) faults old new
refused-causes faults old new c why doubted reply (inl is) m = subst (λ (r : ShardReply). FailedIf (is_fault r.outcome) faults old new) (sym is) m
refused-causes faults old new c why doubted reply (inr short) m = subst (λ (r : ShardReply). FailedIf (is_fault r.outcome) faults old new) (sym short.1) (told-none (OneFailed faults old new) (NoneFailed faults old new) c why short.0 m)

-- ---- an opening

-- what an opening says of the disks is said of the refusal that comes of it
pub open-failed : {D : Type 0} (faults : D → ℕ) (old new : LogState D) (fault : OpenFault) (doubted : Option Entry) → OpenCauses {T = Replay} faults old.main old.spare new.main new.spare (Err fault) → Tallies {T = Replay} old.faults new.faults (Err fault) → FailedIf (is_disk_fault (failure fault doubted).why) faults old new
open-failed faults old new open_as.ReadFault doubted c t = (c, t)
open-failed faults old new open_as.SyncFault doubted c t = (c, t)
open-failed faults old new (open_as.BadJournal place) doubted c t = (c, t)
open-failed faults old new (open_as.TooLong len) doubted c t = (c, t)
open-failed faults old new open_as.NoMemory doubted c t = (c, t)

-- ---- answers of a table

done-faultless : (o : Outcome) → IsDone o → is_fault o ≡ false
done-faultless (outcome.Made fresh) is = refl
done-faultless outcome.Updated is = refl
done-faultless outcome.Removed is = refl
done-faultless (outcome.Stored seq) is = refl
done-faultless (outcome.Duplicate seq) is = refl
done-faultless outcome.Deleted is = refl
done-faultless (outcome.Purged count) is = refl
done-faultless (outcome.Expired count) is = refl
done-faultless (outcome.Found row) is = refl
done-faultless (outcome.Info facts) is = refl
done-faultless (outcome.Listed names) is = refl
done-faultless (outcome.Consumer name) is = refl
done-faultless outcome.Sent is = refl
done-faultless (outcome.Heard decision) is = refl
done-faultless (outcome.Refused why) is = absurd is

-- the reply of an effect says of no disk that it failed
pub reply-faultless : (v : View) (c : ShardCall) (does : Effect) (reply : ShardReply) → Answers v c (Ok does) → reply ≡ does.reply → is_fault reply.outcome ≡ false
reply-faultless v c does reply answers is = ap (λ (r : ShardReply). is_fault r.outcome) is ∙ done-faultless does.reply.outcome (done v c does answers)

turned-faultless : (v : View) (c : ShardCall) (why : ShardRefusal) → TurnsDown v c why → is_disk_fault why ≡ false
turned-faultless v c (refusal.Of why) t = refl
turned-faultless v c refusal.NoStream t = refl
turned-faultless v c (refusal.BadConfig member) t = refl
turned-faultless v c refusal.NameTaken t = refl
turned-faultless v c refusal.TooManyStreams t = refl
turned-faultless v c (refusal.OldAttempt kept seen) t = refl
turned-faultless v c refusal.TooManyConsumers t = refl
turned-faultless v c refusal.NoMessage t = refl
turned-faultless v c (refusal.JournalFull end need) t = refl
turned-faultless v c (refusal.BadJournal place) t = refl
turned-faultless v c refusal.NoMemory t = refl
turned-faultless v c refusal.DiskFault t = absurd t

-- a table says of no disk that it failed
pub gives-faultless : (v : View) (c : ShardCall) (result : Result Answered ShardRefusal) (new : Table) → Gives v c result new → tells_fault result ≡ false
gives-faultless v c (Ok (Done reply)) new g = reply-faultless v c g.effect reply g.answers g.replies
gives-faultless v c (Ok (Append prepared)) new g = refl
gives-faultless v c (Err why) new g = turned-faultless v c why g.0
