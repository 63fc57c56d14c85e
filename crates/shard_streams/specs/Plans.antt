-- What is decided about a call on streams, before anything changes: it is what the call is answered.
use Rattle.std.specs.Prelude.{◌≡◌, ◌≢◌, ⊤, ℕ, ◌+◌, ◌<◌, ◌≤◌, ◌^◌, false, List, [], ◌∷◌, ◌++◌, Option, None, Some, Result, Ok, Err}
use Rattle.stream_fold.specs.declared.config.Config.{Config}
use Rattle.stream_fold.specs.declared.entry.Entry.{Entry}
use Rattle.stream_fold.specs.declared.entry.Numbered.{Numbered}
use Rattle.stream_fold.specs.declared.verdict.Refusal.{Refusal}
use Rattle.stream_fold.specs.declared.verdict.Refusal.TheVariants.{IsMirror, BadHeader, WrongStream, WrongLast, WrongSubjectLast, TooLarge, SeqEnd, Full, NoMemory}
use Rattle.stream_fold.specs.Facts.{StreamFacts, FitsFacts, verdict_by_facts}
use Rattle.nats_text.specs.declared.message.Message.{Message}
use Rattle.std.specs.Global.{Vec}
use Rattle.log_replay.specs.declared.replay.Known.{Known}
use Rattle.log_replay.specs.declared.replay.Standing.{Standing}
use Rattle.record_codec.specs.declared.records.Rec.TheVariants.{Create, Remove, Of}
use Rattle.shard_machine.specs.declared.call.ShardCall.{ShardCall}
use Rattle.shard_machine.specs.declared.call.ShardCall.TheVariants as call
use Rattle.shard_machine.specs.declared.call.Which.{Which}
use Rattle.shard_machine.specs.declared.facts.CopyFact.{CopyFact}
use Rattle.shard_machine.specs.declared.facts.Facts.{Facts}
use Rattle.shard_machine.specs.declared.reply.Outcome.{Outcome}
use Rattle.shard_machine.specs.declared.reply.Outcome.TheVariants as outcome
use Rattle.shard_machine.specs.declared.reply.ShardRefusal.{ShardRefusal}
use Rattle.shard_machine.specs.declared.reply.ShardRefusal.TheVariants as refusal
use Rattle.shard_machine.specs.Answers.{Answered, Answers, creates, facts_shown, publishes_by}
use Rattle.shard_machine.specs.Legal.{HasFaultless}
use Rattle.shard_machine.specs.Images.{NameFacts, MayFollowImage, incarnation_in, live_in}
use Rattle.shard_machine.specs.Views.{View, reads, writes}
use Rattle.shard_streams.specs.declared.plan.Creation.{Creation}
use Rattle.shard_streams.specs.declared.plan.Creation.TheVariants.{Stands, New}
use Rattle.shard_streams.specs.declared.plan.Plan.{Plan}

-- the fact, unless memory ran out
abbrev pub UnlessNoRoom : ShardRefusal → Type 0 → Type 0
UnlessNoRoom (refusal.Of why) fact = fact
UnlessNoRoom refusal.NoStream fact = fact
UnlessNoRoom (refusal.BadConfig member) fact = fact
UnlessNoRoom refusal.NameTaken fact = fact
UnlessNoRoom refusal.TooManyStreams fact = fact
UnlessNoRoom (refusal.OldAttempt kept seen) fact = fact
UnlessNoRoom refusal.TooManyConsumers fact = fact
UnlessNoRoom refusal.NoMessage fact = fact
UnlessNoRoom (refusal.JournalFull end need) fact = fact
UnlessNoRoom (refusal.BadJournal place) fact = fact
UnlessNoRoom refusal.NoMemory fact = ⊤
UnlessNoRoom refusal.DiskFault fact = fact

-- the call is refused so, unless memory ran out
abbrev pub IsRefused : View → ShardCall → ShardRefusal → Type 0
IsRefused v c why = UnlessNoRoom why (Answers v c (Err why))

-- ---- a change of one stream

-- the call is answered by an entry of a stream that stands, and its record may come next
pub record WritesEntry (v : View) (c : ShardCall) (name : List ℕ) (entry : Entry) (what : Outcome) : Type 0 where
  pub known : NameFacts
  pub stands : live_in v.image name ≡ Some known
  pub answers : Answers v c (Ok (writes v name known.stream entry what))
  pub follows : 1 ≤ v.image.boot → MayFollowImage v.image (Of name entry)

-- the entry is written, if there is one, and else nothing changes
abbrev pub DoesWith : View → ShardCall → List ℕ → Outcome → Option Entry → Type 0
DoesWith v c name what None = Answers v c (Ok (reads v what))
DoesWith v c name what (Some entry) = WritesEntry v c name entry what

-- the plan is what the call is answered
abbrev pub Plans : View → ShardCall → List ℕ → Result Plan ShardRefusal → Type 0
Plans v c name (Ok plan) = DoesWith v c name plan.outcome plan.entry
Plans v c name (Err why) = IsRefused v c why

-- the shard's refusal for that of a stream
abbrev pub refusal_for : Refusal → ShardRefusal
refusal_for IsMirror = refusal.Of IsMirror
refusal_for (BadHeader name) = refusal.Of (BadHeader name)
refusal_for WrongStream = refusal.Of WrongStream
refusal_for (WrongLast kept) = refusal.Of (WrongLast kept)
refusal_for (WrongSubjectLast kept) = refusal.Of (WrongSubjectLast kept)
refusal_for (TooLarge size limit) = refusal.Of (TooLarge size limit)
refusal_for SeqEnd = refusal.Of SeqEnd
refusal_for (Full count bytes) = refusal.Of (Full count bytes)
refusal_for NoMemory = refusal.NoMemory

-- what a publish of this message, under the subject under which it would be stored, is answered
abbrev pub published : View → List ℕ → StreamFacts → Message → ℕ → Answered
published v name f m now = publishes_by v name f m now (verdict_by_facts f m now)

-- the entry is written that stores the message, and it may come next; or nothing changes
abbrev pub StoresWith : View → List ℕ → StreamFacts → Message → ℕ → Outcome → Option Entry → Type 0
StoresWith v name f m now what None = Ok (reads v what) ≡ published v name f m now
StoresWith v name f m now what (Some entry) = (Ok (writes v name f entry what) ≡ published v name f m now) × FitsFacts f entry × HasFaultless entry

-- the plan is what the publish is answered
abbrev pub PlansPublish : View → List ℕ → StreamFacts → Message → ℕ → Result Plan ShardRefusal → Type 0
PlansPublish v name f m now (Ok plan) = StoresWith v name f m now plan.outcome plan.entry
PlansPublish v name f m now (Err why) = UnlessNoRoom why (Err why ≡ published v name f m now)

-- ---- streams that come and go

-- a stream of the name stands, with this configuration or another one
abbrev pub ClaimsName : Config → Config → Result Creation ShardRefusal → Type 0
ClaimsName old c (Ok Stands) = old ≡ c
ClaimsName old c (Ok New) = ⊥
ClaimsName old c (Err why) = UnlessNoRoom why ((why ≡ refusal.NameTaken) × (old ≢ c))

-- the call makes a stream, and its record may come next where the incarnation is below 2^63
pub record MakesStream (v : View) (c : Config) (now : ℕ) : Type 0 where
  pub free : live_in v.image c.name ≡ None
  pub answers : Answers v (call.Create c now) (Ok (creates v c now))
  pub follows : 1 ≤ v.image.boot → incarnation_in v.image c.name + 1 < 2 ^ 63 → MayFollowImage v.image (Create now c)

-- a stream of this configuration stands, or it may be made
abbrev pub PlansCreate : View → Config → ℕ → Result Creation ShardRefusal → Type 0
PlansCreate v c now (Ok Stands) = Answers v (call.Create c now) (Ok (reads v (outcome.Made false)))
PlansCreate v c now (Ok New) = MakesStream v c now
PlansCreate v c now (Err why) = IsRefused v (call.Create c now) why

-- a stream stands that may go, and its record may come next
pub record TakesStream (v : View) (name : List ℕ) : Type 0 where
  pub known : NameFacts
  pub stands : live_in v.image name ≡ Some known
  pub follows : 1 ≤ v.image.boot → MayFollowImage v.image (Remove name)

-- a stream may go
abbrev pub PlansRemove : View → List ℕ → {T : Type 0} → Result T ShardRefusal → Type 0
PlansRemove v name (Ok value) = TakesStream v name
PlansRemove v name (Err why) = IsRefused v (call.Remove name) why

-- ---- what is shown

-- the name of the stream that stands is added, if one does
abbrev pub AddsName : Option Standing → List (List ℕ) → List (List ℕ) → Type 0
AddsName None old new = new ≡ old
AddsName (Some standing) old new = new ≡ old ++ standing.state.held.limits.name ∷ []

-- the name of the stream, before others, if one stands
abbrev pub name_before : Option Standing → List (List ℕ) → List (List ℕ)
name_before None names = names
name_before (Some standing) names = standing.state.held.limits.name ∷ names

-- the names of the streams that stand, in the order in which they are held
abbrev pub names_in : List (Vec ℕ × Known) → List (List ℕ)
names_in [] = []
names_in (e ∷ es) = name_before e.1.stream (names_in es)

-- a message is shown
abbrev pub Finds : View → List ℕ → Which → Result Numbered ShardRefusal → Type 0
Finds v name which (Ok row) = Answers v (call.Get name which) (Ok (reads v (outcome.Found row)))
Finds v name which (Err why) = IsRefused v (call.Get name which) why

-- the facts of a stream are shown, with this count of consumers and these copies
pub record IsShown (v : View) (name : List ℕ) (count : ℕ) (copies : List CopyFact) (facts : Facts) : Type 0 where
  pub known : NameFacts
  pub stands : live_in v.image name ≡ Some known
  pub are : facts ≡ record (facts_shown v name known) { consumers = count; copies = copies }

-- the facts of a stream are shown, or there is none
abbrev pub Informs : View → List ℕ → ℕ → List CopyFact → Result Facts ShardRefusal → Type 0
Informs v name count copies (Ok facts) = IsShown v name count copies facts
Informs v name count copies (Err why) = IsRefused v (call.Info name) why
