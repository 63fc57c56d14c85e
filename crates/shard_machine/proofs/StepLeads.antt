-- The records of a step lead from image to image.
use Rattle.std.proofs.Common.{◌≡◌, Bool, true, false, List, [], ◌∷◌, ◌++◌, Option, refl, sym, ap, ◌∙◌, ◌⊎◌, inl, inr}
use Rattle.stream_fold.specs.declared.entry.Entry.{Entry}
use Rattle.record_codec.specs.declared.records.Rec.{Rec}
use Rattle.shard_machine.specs.declared.call.ShardCall.{ShardCall}
use Rattle.shard_machine.specs.declared.reply.Outcome.{Outcome}
use Rattle.shard_machine.specs.declared.reply.Outcome.TheVariants as outcome
use Rattle.shard_machine.specs.declared.reply.ShardRefusal.{ShardRefusal}
use Rattle.shard_machine.specs.declared.reply.ShardRefusal.TheVariants as refusal
use Rattle.shard_machine.specs.declared.reply.ShardReply.{ShardReply}
use Rattle.shard_machine.specs.Images.{image, image_after, no_image}
use Rattle.shard_machine.specs.Steps.{Held, Loads, IsReady, Succeeds, IsTurnedDown, LacksRoom, LacksRoomToLoad, CannotLoad, Faults, FailsToLoad, StaysOrLoads, Refuses, RefusesWith, StepTo, Step}
use Rattle.shard_machine.proofs.Images.{image_after-append}

Leads : Held → List Rec → Held → Type 0
Leads old records new = new.image ≡ image_after old.image records

-- nothing changes, and nothing is added
stays : (old : Held) (records : List Rec) (new : Held) → new ≡ old → records ≡ [] → Leads old records new
unfolding Leads
stays old records new same none = ap (λ h. h.image) same ∙ sym (ap (image_after old.image) none)

ready-by : (old : Held) (records : List Rec) (ready : Held) → IsReady old records ready → (b : Bool) → old.loaded ≡ b → Leads old records ready
unfolding Leads
ready-by old records ready r true is = stays old records ready (r.same is).0 (r.same is).1
ready-by old records ready r false is = ap (λ h. h.image) (r.loads is).becomes

ready-leads : (old : Held) (records : List Rec) (ready : Held) → IsReady old records ready → Leads old records ready
ready-leads old records ready r = ready-by old records ready r old.loaded refl

succeeds : (old : Held) (c : ShardCall) (reply : ShardReply) (records : List Rec) (new : Held) → Succeeds old c reply records new → Leads old records new
unfolding Leads
succeeds old c reply records new s =
    ap (λ h. h.image) s.becomes
    ∙ ap (λ i. image_after i s.does.records) (ready-leads old s.loaded s.ready s.is_ready)
    ∙ sym (image_after-append old.image s.loaded s.does.records)
    ∙ sym (ap (image_after old.image) s.joins)

faults : (old : Held) (c : ShardCall) (made : Option Entry) (records : List Rec) (new : Held) → Faults old c made records new → Leads old records new
unfolding Leads
faults old c made records new f = ap (λ h. h.image) f.becomes ∙ ready-leads old records f.ready f.is_ready

fails : (old : Held) (made : Option Entry) (records : List Rec) (new : Held) → FailsToLoad old made records new → Leads old records new
unfolding Leads
fails old made records new f = elim f.result [
  | inl same ↦ stays old records new same.0 same.1
  | inr settled ↦ ap (λ h. h.image) settled.2
]

lacks : (old : Held) (c : ShardCall) (end need : _) (records : List Rec) (new : Held) → LacksRoom old c end need records new ⊎ LacksRoomToLoad old end need records new → Leads old records new
lacks old c end need records new l = elim l [
  | inl record_lacks ↦ ready-leads old records new record_lacks.is_ready
  | inr load_lacks ↦ stays old records new load_lacks.same load_lacks.none
]

stays-or : (old : Held) (records : List Rec) (new : Held) → StaysOrLoads old records new → Leads old records new
stays-or old records new s = elim s [
  | inl same ↦ stays old records new same.0 same.1
  | inr ready ↦ ready-leads old records new ready
]

faulty : (old : Held) (c : ShardCall) (made : Option Entry) (records : List Rec) (new : Held) → Faults old c made records new ⊎ FailsToLoad old made records new → Leads old records new
faulty old c made records new f = elim f [
  | inl call ↦ faults old c made records new call
  | inr load ↦ fails old made records new load
]

refuses : (old : Held) (c : ShardCall) (why : ShardRefusal) (made : Option Entry) (records : List Rec) (new : Held) → Refuses old c why made records new → Leads old records new
refuses old c (refusal.Of why) made records new r = ready-leads old records new r.1.is_ready
refuses old c refusal.NoStream made records new r = ready-leads old records new r.1.is_ready
refuses old c (refusal.BadConfig member) made records new r = ready-leads old records new r.1.is_ready
refuses old c refusal.NameTaken made records new r = ready-leads old records new r.1.is_ready
refuses old c refusal.TooManyStreams made records new r = ready-leads old records new r.1.is_ready
refuses old c (refusal.OldAttempt kept seen) made records new r = ready-leads old records new r.1.is_ready
refuses old c refusal.TooManyConsumers made records new r = ready-leads old records new r.1.is_ready
refuses old c refusal.NoMessage made records new r = ready-leads old records new r.1.is_ready
refuses old c (refusal.JournalFull end need) made records new r = lacks old c end need records new r.1
refuses old c (refusal.BadJournal place) made records new r = stays old records new r.1.same r.1.none
refuses old c refusal.NoMemory made records new r = stays-or old records new r.1
refuses old c refusal.DiskFault made records new r = faulty old c made records new r

to : (o : Outcome) (old : Held) (c : ShardCall) (reply : ShardReply) (records : List Rec) (new : Held) → StepTo o old c reply records new → Leads old records new
to (outcome.Made fresh) old c reply records new s = succeeds old c reply records new s
to outcome.Updated old c reply records new s = succeeds old c reply records new s
to outcome.Removed old c reply records new s = succeeds old c reply records new s
to (outcome.Stored seq) old c reply records new s = succeeds old c reply records new s
to (outcome.Duplicate seq) old c reply records new s = succeeds old c reply records new s
to outcome.Deleted old c reply records new s = succeeds old c reply records new s
to (outcome.Purged count) old c reply records new s = succeeds old c reply records new s
to (outcome.Expired count) old c reply records new s = succeeds old c reply records new s
to (outcome.Found row) old c reply records new s = succeeds old c reply records new s
to (outcome.Info facts) old c reply records new s = succeeds old c reply records new s
to (outcome.Listed names) old c reply records new s = succeeds old c reply records new s
to (outcome.Consumer name) old c reply records new s = succeeds old c reply records new s
to outcome.Sent old c reply records new s = succeeds old c reply records new s
to (outcome.Heard decision) old c reply records new s = succeeds old c reply records new s
to (outcome.Refused why) old c reply records new s = refuses old c why s.doubted records new s.refuses

pub step-leads : (old new : Held) (c : ShardCall) (reply : ShardReply) (records : List Rec) → Step old c reply records new → new.image ≡ image_after old.image records
unfolding Leads
step-leads old new c reply records s = to reply.outcome old c reply records new s

pub step-follows : (old new : Held) (c : ShardCall) (reply : ShardReply) (records log : List Rec) → Step old c reply records new → old.image ≡ image log → new.image ≡ image (log ++ records)
step-follows old new c reply records log s is =
    step-leads old new c reply records s ∙ ap (λ i. image_after i records) is ∙ sym (image_after-append no_image log records)
