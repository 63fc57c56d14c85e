-- A step of a shard that has just loaded is a step of the shard that had to load.
use Rattle.record_codec.specs.declared.records.Rec.{Rec}
use Rattle.shard_machine.specs.Logs.{made}
use Rattle.shard_machine.specs.Steps.{FailsToLoad, Faults, Held, IsReady, IsTurnedDown, LacksRoom, LacksRoomToLoad, Refuses, RefusesWith, StaysOrLoads, Step, StepTo, Succeeds}
use Rattle.shard_machine.specs.declared.call.ShardCall.{ShardCall}
use Rattle.shard_machine.specs.declared.reply.Outcome.TheVariants as outcome
use Rattle.shard_machine.specs.declared.reply.Outcome.{Outcome}
use Rattle.shard_machine.specs.declared.reply.ShardRefusal.TheVariants as refusal
use Rattle.shard_machine.specs.declared.reply.ShardRefusal.{ShardRefusal}
use Rattle.shard_machine.specs.declared.reply.ShardReply.{ShardReply}
use Rattle.std.proofs.Common.{List, Option, T, ap, append-nil, false, inl, inr, subst, sym, true, ◌++◌, ◌∙◌, ◌≡◌, ◌⊎◌}
use Rattle.stream_fold.specs.declared.entry.Entry.{Entry}

-- it is loaded, and isn't
torn : (T : Type 0) (h : Held) → h.loaded ≡ true → h.loaded ≡ false → T
torn T h on off = absurd (let wrong : true ≡ false = sym on ∙ off in cc)

-- what was ready stays as it is, and adds nothing to what the load added
again : (old : Held) (first : List Rec) (ready : Held) (more : List Rec) (new : Held) → ready.loaded ≡ true → IsReady old first ready → IsReady ready more new → IsReady old (first ++ more) new
again old first ready more new on is then =
    let same = then.same on in
    let none : first ++ more ≡ first = ap (λ (l : List Rec). first ++ l) same.1 ∙ append-nil first in
    subst (λ (h : Held). IsReady old (first ++ more) h) (sym same.0) (subst (λ (l : List Rec). IsReady old l ready) (sym none) is)

succeeds : (old : Held) (first : List Rec) (ready : Held) (c : ShardCall) (reply : ShardReply) (records : List Rec) (new : Held) → ready.loaded ≡ true → IsReady old first ready → Succeeds ready c reply records new → Succeeds old c reply (first ++ records) new
succeeds old first ready c reply records new on is s =
    let same = s.is_ready.same on in
    let none : s.loaded ++ s.does.records ≡ s.does.records = ap (λ (l : List Rec). l ++ s.does.records) same.1 in
    record {
      ready = s.ready;
      loaded = first;
      is_ready = subst (IsReady old first) (sym same.0) is;
      does = s.does;
      answers = s.answers;
      room = s.room;
      replies = s.replies;
      joins = ap (λ (l : List Rec). first ++ l) (s.joins ∙ none);
      becomes = s.becomes;
    }

turned : (old : Held) (first : List Rec) (ready : Held) (c : ShardCall) (why : ShardRefusal) (records : List Rec) (new : Held) → ready.loaded ≡ true → IsReady old first ready → IsTurnedDown ready c why records new → IsTurnedDown old c why (first ++ records) new
turned old first ready c why records new on is t = record { is_ready = again old first ready records new on is t.is_ready; answers = t.answers }

lacks : (old : Held) (first : List Rec) (ready : Held) (c : ShardCall) (end need : _) (records : List Rec) (new : Held) → ready.loaded ≡ true → IsReady old first ready → LacksRoom ready c end need records new ⊎ LacksRoomToLoad ready end need records new
    → LacksRoom old c end need (first ++ records) new ⊎ LacksRoomToLoad old end need (first ++ records) new
lacks old first ready c end need records new on is l = elim l [
  | inl record_lacks ↦ inl (record {
    is_ready = again old first ready records new on is record_lacks.is_ready;
    does = record_lacks.does;
    answers = record_lacks.answers;
    lacking = record_lacks.lacking;
    is = record_lacks.is;
    room = record_lacks.room;
    end_is = record_lacks.end_is;
    need_is = record_lacks.need_is;
  })
  | inr load_lacks ↦ torn _ ready on load_lacks.was
]

faulty : (old : Held) (first : List Rec) (ready : Held) (c : ShardCall) (made : Option Entry) (records : List Rec) (new : Held) → ready.loaded ≡ true → IsReady old first ready → Faults ready c made records new ⊎ FailsToLoad ready made records new
    → Faults old c made (first ++ records) new ⊎ FailsToLoad old made (first ++ records) new
faulty old first ready c made records new on is f = elim f [
  | inl call ↦ inl (record {
    ready = call.ready;
    is_ready = again old first ready records call.ready on is call.is_ready;
    does = call.does;
    answers = call.answers;
    doubtful = call.doubtful;
    is = call.is;
    room = call.room;
    entry = call.entry;
    becomes = call.becomes;
  })
  | inr load ↦ torn _ ready on load.was
]

stays : (old : Held) (first : List Rec) (ready : Held) (records : List Rec) (new : Held) → ready.loaded ≡ true → IsReady old first ready → StaysOrLoads ready records new → StaysOrLoads old (first ++ records) new
stays old first ready records new on is s = elim s [
  | inl same ↦ inr (
      let none : first ++ records ≡ first = ap (λ (l : List Rec). first ++ l) same.1 ∙ append-nil first in
      subst (λ (h : Held). IsReady old (first ++ records) h) (sym same.0) (subst (λ (l : List Rec). IsReady old l ready) (sym none) is))
  | inr then ↦ inr (again old first ready records new on is then)
]

refuses : (old : Held) (first : List Rec) (ready : Held) (c : ShardCall) (why : ShardRefusal) (made : Option Entry) (records : List Rec) (new : Held) → ready.loaded ≡ true → IsReady old first ready → Refuses ready c why made records new → Refuses old c why made (first ++ records) new
refuses old first ready c (refusal.Of why) made records new on is r = (r.0, turned old first ready c (refusal.Of why) records new on is r.1)
refuses old first ready c refusal.NoStream made records new on is r = (r.0, turned old first ready c refusal.NoStream records new on is r.1)
refuses old first ready c (refusal.BadConfig member) made records new on is r = (r.0, turned old first ready c (refusal.BadConfig member) records new on is r.1)
refuses old first ready c refusal.NameTaken made records new on is r = (r.0, turned old first ready c refusal.NameTaken records new on is r.1)
refuses old first ready c refusal.TooManyStreams made records new on is r = (r.0, turned old first ready c refusal.TooManyStreams records new on is r.1)
refuses old first ready c (refusal.OldAttempt kept seen) made records new on is r = (r.0, turned old first ready c (refusal.OldAttempt kept seen) records new on is r.1)
refuses old first ready c refusal.TooManyConsumers made records new on is r = (r.0, turned old first ready c refusal.TooManyConsumers records new on is r.1)
refuses old first ready c refusal.NoMessage made records new on is r = (r.0, turned old first ready c refusal.NoMessage records new on is r.1)
refuses old first ready c (refusal.JournalFull end need) made records new on is r = (r.0, lacks old first ready c end need records new on is r.1)
refuses old first ready c (refusal.BadJournal place) made records new on is r = torn _ ready on r.1.was
refuses old first ready c refusal.NoMemory made records new on is r = (r.0, stays old first ready records new on is r.1)
refuses old first ready c refusal.DiskFault made records new on is r = faulty old first ready c made records new on is r

refuses_with : (old : Held) (first : List Rec) (ready : Held) (c : ShardCall) (why : ShardRefusal) (reply : ShardReply) (records : List Rec) (new : Held) → ready.loaded ≡ true → IsReady old first ready → RefusesWith ready c why reply records new → RefusesWith old c why reply (first ++ records) new
refuses_with old first ready c why reply records new on is r = record { doubted = r.doubted; replies = r.replies; refuses = refuses old first ready c why r.doubted records new on is r.refuses }

step_to : (what : Outcome) (old : Held) (first : List Rec) (ready : Held) (c : ShardCall) (reply : ShardReply) (records : List Rec) (new : Held) → ready.loaded ≡ true → IsReady old first ready → StepTo what ready c reply records new → StepTo what old c reply (first ++ records) new
step_to (outcome.Made fresh) old first ready c reply records new on is s = succeeds old first ready c reply records new on is s
step_to outcome.Updated old first ready c reply records new on is s = succeeds old first ready c reply records new on is s
step_to outcome.Removed old first ready c reply records new on is s = succeeds old first ready c reply records new on is s
step_to (outcome.Stored seq) old first ready c reply records new on is s = succeeds old first ready c reply records new on is s
step_to (outcome.Duplicate seq) old first ready c reply records new on is s = succeeds old first ready c reply records new on is s
step_to outcome.Deleted old first ready c reply records new on is s = succeeds old first ready c reply records new on is s
step_to (outcome.Purged count) old first ready c reply records new on is s = succeeds old first ready c reply records new on is s
step_to (outcome.Expired count) old first ready c reply records new on is s = succeeds old first ready c reply records new on is s
step_to (outcome.Found row) old first ready c reply records new on is s = succeeds old first ready c reply records new on is s
step_to (outcome.Info facts) old first ready c reply records new on is s = succeeds old first ready c reply records new on is s
step_to (outcome.Listed names) old first ready c reply records new on is s = succeeds old first ready c reply records new on is s
step_to (outcome.Consumer name) old first ready c reply records new on is s = succeeds old first ready c reply records new on is s
step_to outcome.Sent old first ready c reply records new on is s = succeeds old first ready c reply records new on is s
step_to (outcome.Heard decision) old first ready c reply records new on is s = succeeds old first ready c reply records new on is s
step_to (outcome.Refused why) old first ready c reply records new on is s = refuses_with old first ready c why reply records new on is s

-- a step of what a load made ready is a step of what had to load, and its records stand behind those of the load
pub step-behind : (old : Held) (first : List Rec) (ready : Held) (c : ShardCall) (reply : ShardReply) (records : List Rec) (new : Held) → ready.loaded ≡ true → IsReady old first ready → Step ready c reply records new → Step old c reply (first ++ records) new
step-behind old first ready c reply records new on is s = step_to reply.outcome old first ready c reply records new on is s
