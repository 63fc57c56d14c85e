-- A shard whose disks stand for a log is never told that they hold none, or are too long.
use Rattle.record_codec.specs.declared.records.Rec.{Rec}
use Rattle.record_log.specs.Opening.{IsOfCalls}
use Rattle.record_log.specs.declared.fault.OpenFault.TheVariants as open_as
use Rattle.record_log.specs.declared.fault.OpenFault.{OpenFault}
use Rattle.shard_calls.proofs.CallSteps.{Replies}
use Rattle.shard_calls.specs.Causes.{is_unread, is_unreadable}
use Rattle.shard_calls.specs.Failing.{failure}
use Rattle.shard_machine.specs.Steps.{Held, Refuses, StepTo, taken}
use Rattle.shard_machine.specs.declared.call.ShardCall.{ShardCall}
use Rattle.shard_machine.specs.declared.reply.Outcome.TheVariants as outcome
use Rattle.shard_machine.specs.declared.reply.Outcome.{Outcome}
use Rattle.shard_machine.specs.declared.reply.ShardRefusal.TheVariants as refusal
use Rattle.shard_machine.specs.declared.reply.ShardRefusal.{ShardRefusal}
use Rattle.shard_machine.specs.declared.reply.ShardReply.{ShardReply}
use Rattle.std.proofs.Common.{List, Option, arith, false, inl, inr, refl, subst, sym, true, ℕ, ◌==◌, ◌+◌, ◌∙◌, ◌≡◌}
use Rattle.std.proofs.lemmas.Bool.Decides.{nat_tests}
use Rattle.stream_fold.specs.declared.entry.Entry.{Entry}

-- a record needs some bytes
pub needs-some : (need k : ℕ) → need ≡ k + 1 → (need == 0) ≡ false
needs-some need k is = grind (arith, nat_tests, is)

-- how a loaded shard refuses
loaded-readable : (why : ShardRefusal) (h : Held) (c : ShardCall) (doubted : Option Entry) (records : List Rec) (new : Held) → h.loaded ≡ true → Refuses h c why doubted records new → is_unreadable why ≡ false
loaded-readable (refusal.Of why) h c doubted records new on r = refl
loaded-readable refusal.NoStream h c doubted records new on r = refl
loaded-readable (refusal.BadConfig member) h c doubted records new on r = refl
loaded-readable refusal.NameTaken h c doubted records new on r = refl
loaded-readable refusal.TooManyStreams h c doubted records new on r = refl
loaded-readable (refusal.OldAttempt kept seen) h c doubted records new on r = refl
loaded-readable refusal.TooManyConsumers h c doubted records new on r = refl
loaded-readable refusal.NoMessage h c doubted records new on r = refl
loaded-readable (refusal.JournalFull end need) h c doubted records new on (none, inl lacks) = needs-some need (taken lacks.lacking) lacks.need_is
loaded-readable (refusal.JournalFull end need) h c doubted records new on (none, inr load) = absurd (let wrong : true ≡ false = sym on ∙ load.was in cc)
loaded-readable (refusal.BadJournal place) h c doubted records new on (none, load) = absurd (let wrong : true ≡ false = sym on ∙ load.was in cc)
loaded-readable refusal.NoMemory h c doubted records new on r = refl
loaded-readable refusal.DiskFault h c doubted records new on r = refl

-- what comes of a step of a loaded shard
pub step-readable : (o : Outcome) (h : Held) (c : ShardCall) (reply : ShardReply) (records : List Rec) (new : Held) → h.loaded ≡ true → StepTo o h c reply records new → is_unread o ≡ false
step-readable (outcome.Made fresh) h c reply records new on s = refl
step-readable outcome.Updated h c reply records new on s = refl
step-readable outcome.Removed h c reply records new on s = refl
step-readable (outcome.Stored seq) h c reply records new on s = refl
step-readable (outcome.Duplicate seq) h c reply records new on s = refl
step-readable outcome.Deleted h c reply records new on s = refl
step-readable (outcome.Purged count) h c reply records new on s = refl
step-readable (outcome.Expired count) h c reply records new on s = refl
step-readable (outcome.Found row) h c reply records new on s = refl
step-readable (outcome.Info facts) h c reply records new on s = refl
step-readable (outcome.Listed names) h c reply records new on s = refl
step-readable (outcome.Consumer name) h c reply records new on s = refl
step-readable outcome.Sent h c reply records new on s = refl
step-readable (outcome.Heard decision) h c reply records new on s = refl
step-readable (outcome.Refused why) h c reply records new on s = loaded-readable why h c s.doubted records new on s.refuses

-- what keeps disks from being read that stand for a log
pub open-readable : (fault : OpenFault) (doubted : Option Entry) → IsOfCalls fault → is_unreadable (failure fault doubted).why ≡ false
open-readable open_as.ReadFault doubted of_calls = refl
open-readable open_as.SyncFault doubted of_calls = refl
open-readable (open_as.BadJournal place) doubted of_calls = absurd of_calls
open-readable (open_as.TooLong len) doubted of_calls = absurd of_calls
open-readable open_as.NoMemory doubted of_calls = refl

-- the reply of a refusal
pub refused-readable : (c : ShardCall) (why : ShardRefusal) (doubted : Option Entry) (reply : ShardReply) → Replies c why doubted reply → is_unreadable why ≡ false → is_unread reply.outcome ≡ false
refused-readable c why doubted reply replies readable = elim replies [
  | inl is ↦ subst (λ (r : ShardReply). is_unread r.outcome ≡ false) (sym is) readable
  | inr short ↦ subst (λ (r : ShardReply). is_unread r.outcome ≡ false) (sym short.1) refl
]
