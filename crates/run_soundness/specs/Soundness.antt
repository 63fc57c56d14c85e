-- What holds of every world that a run leads to, in six parts.
use Rattle.std.specs.Prelude.{◌≡◌, ◌⊎◌, ⊤, ℕ, zero, suc, ◌-◌, ◌≤◌, Bool, true, false, List, [], ◌∷◌, ◌++◌, length, Option, Some, None, IsTrue, Contains, slice_get}
use Rattle.std.specs.FinMap.{get}
use Rattle.nats_text.specs.declared.message.Message.{Message}
use Rattle.nats_text.specs.declared.message.Stamp.{Stamp}
use Rattle.nats_text.specs.declared.message.Start.{Start}
use Rattle.nats_text.specs.declared.origin.Origin.{Origin}
use Rattle.js_wire.specs.declared.packet.AskerId.{AskerId}
use Rattle.js_wire.specs.declared.packet.Packet.{Packet}
use Rattle.js_wire.specs.declared.packet.Packet.TheVariants.{Ask, Answer, Refuse, Delivery, Beat, FlowAsk, FlowReply}
use Rattle.stream_fold.specs.declared.config.Copies.{Copies}
use Rattle.stream_fold.specs.declared.config.Copies.TheVariants.{Nothing, Mirror, Sources}
use Rattle.stream_fold.specs.declared.entry.BoundTo.{BoundTo}
use Rattle.stream_fold.specs.Checking.{is_mirror}
use Rattle.stream_fold.specs.Copying.{bound, origin_named, copy_start, marks, stored, MirrorHolds, SourceHolds, NumbersFollow, IsRightStart}
use Rattle.stream_fold.specs.Facts.{facts}
use Rattle.stream_fold.specs.Histories.{History, put, IsHole}
use Rattle.stream_fold.specs.Sourcing.{via}
use Rattle.record_codec.specs.declared.records.Rec.{Rec}
use Rattle.push_consumer.specs.Chains.{chain}
use Rattle.replica_ask.specs.Askers.{AskerState}
use Rattle.replica_ask.specs.Filters.{filters_of}
use Rattle.replica_ask.specs.declared.phase.Phase.{Phase}
use Rattle.replica_ask.specs.declared.phase.Phase.TheVariants.{Idle, Asking, Bound, Stopped}
use Rattle.shard_machine.specs.Logs.{Made, boot, made, live}
use Rattle.shard_machine.specs.Legal.{MayFollow}
use Rattle.shard_machine.specs.Views.{Copy, reached, node_or, askers_of, asker_or_new, ask_start}
use Rattle.shard_machine.specs.Steps.{Held}
use Rattle.run_soundness.specs.Shards.{Consumer, ShardState, Distinct, IsGiven, IsRead, ReadsRight}
use Rattle.run_soundness.specs.Worlds.{World, shard_of}

-- ---- 1. names are given once

-- an asker as a shard has it, or a new one
abbrev pub asker_at : Held → AskerId → AskerState
asker_at h a = asker_or_new a h.image.boot (get (askers_of h.askers a.stream) a.index)

-- No two consumers that a shard ever made have one name. The boot of each consumer's name, and of each attempt
-- that was ever sent, is at most its shard's present one, and where it is that one, the count is at most
-- the present count.
pub record NamesOnce (w : World) : Type 0 where
  pub apart : (n : List ℕ) (k : ℕ) → Distinct (w.shard n k).ever
  pub consumers : (n : List ℕ) (k : ℕ) (c : Consumer) → Contains (w.shard n k).ever c → IsGiven (boot (w.shard n k).log) (w.shard n k).held.given c.name
  pub attempts : (a : AskerId) (attempt : Stamp) (origin stream : List ℕ) (from : Start) (filters : List (List ℕ)) →
      Contains w.bag (Ask a attempt origin stream from filters) →
      IsGiven (boot (w.shard a.node (shard_of a.stream)).log) (asker_at (w.shard a.node (shard_of a.stream)).held a).attempts attempt

-- ---- 2. chains skip holes alone

-- all that consumers ever sent is right
pub record ChainsRight (w : World) : Type 0 where
  pub each : (n : List ℕ) (k : ℕ) (c : Consumer) → Contains (w.shard n k).ever c → ReadsRight (w.shard n k).log c

-- ---- 3. what was ever sent

-- what an answer, a delivery or a beat says of a consumer of this log
abbrev pub SaysOf : Packet → List Rec → Consumer → Type 0
SaysOf (Ask a attempt origin stream from filters) log c = ⊤
SaysOf (Answer a attempt name incarnation from) log c =
    (c.name ≡ name) × (c.wanted.asker ≡ a) × (c.wanted.attempt ≡ attempt) × (c.incarnation ≡ incarnation) × (c.wanted.start ≡ from)
SaysOf (Refuse a attempt code err_code) log c = ⊤
SaysOf (Delivery a attempt stream name number seq pending message) log c =
    (c.name ≡ name) × (c.wanted.asker ≡ a) × (c.wanted.attempt ≡ attempt) × (c.stream ≡ stream)
    × ((k : ℕ) × (number ≡ suc k) × (slice_get (chain c.sent) k ≡ Some seq))
    × ((origin : Made) × IsRead log c origin × (put seq origin.history.entries ≡ Some message))
SaysOf (Beat a attempt origin stream name last_number last_seq stalled) log c =
    (c.name ≡ name) × (c.wanted.asker ≡ a) × (c.wanted.attempt ≡ attempt) × (c.stream ≡ stream) × (last_number ≤ length (chain c.sent))
SaysOf (FlowAsk a attempt origin stream name token) log c = ⊤
SaysOf (FlowReply origin stream name token) log c = ⊤

-- the packet is an answer, a delivery or a beat
abbrev pub names_consumer : Packet → Bool
names_consumer (Ask a attempt origin stream from filters) = false
names_consumer (Answer a attempt name incarnation from) = true
names_consumer (Refuse a attempt code err_code) = false
names_consumer (Delivery a attempt stream name number seq pending message) = true
names_consumer (Beat a attempt origin stream name last_number last_seq stalled) = true
names_consumer (FlowAsk a attempt origin stream name token) = false
names_consumer (FlowReply origin stream name token) = false

-- A consumer was made for an Ask that was sent, to its node and its stream, with its filters. Its start is the
-- Ask's, by the rule on the origin's history as it is or once was.
pub record IsAsked (w : World) (n : List ℕ) (k : ℕ) (c : Consumer) : Type 0 where
  pub from : Start
  pub ask : Contains w.bag (Ask c.wanted.asker c.wanted.attempt n c.stream from c.wanted.filters)
  pub place : k ≡ shard_of c.stream
  pub origin : Made
  pub reads : IsRead (w.shard n k).log c origin
  pub start : IsRightStart origin.history from c.wanted.start

-- Of each asker and attempt one Ask was sent. Each consumer was made for an Ask, and each answer, delivery and beat
-- says what is so of the consumer that it names.
pub record BagRight (w : World) : Type 0 where
  pub one_ask : (a : AskerId) (attempt : Stamp) (o o' s s' : List ℕ) (from from' : Start) (fs fs' : List (List ℕ)) →
      Contains w.bag (Ask a attempt o s from fs) → Contains w.bag (Ask a attempt o' s' from' fs') →
      Ask a attempt o s from fs ≡ Ask a attempt o' s' from' fs'
  pub asked : (n : List ℕ) (k : ℕ) (c : Consumer) → Contains (w.shard n k).ever c → IsAsked w n k c
  pub says : (p : Packet) → Contains w.bag p → IsTrue (names_consumer p) →
      (n : List ℕ) × (k : ℕ) × (c : Consumer) × Contains (w.shard n k).ever c × SaysOf p (w.shard n k).log c

-- ---- 4. what askers wait for

-- the copy of an asker: its stream stands at this shard with this history, and the index names this origin
pub record IsCopy (s : ShardState) (a : AskerId) (g : History) (want : Origin) : Type 0 where
  pub node : a.node ≡ s.held.node
  pub stream : Made
  pub stands : live s.log a.stream ≡ Some stream
  pub history : stream.history ≡ g
  pub origin : origin_named a.index g.config.copies ≡ Some want

-- the copy, as its shard sees it
abbrev pub copy_of : AskerId → History → Origin → Copy
copy_of a g want = record { stream = a.stream; index = a.index; facts = facts g; want = want }

-- the number, or 0 where there is none
abbrev pub or_zero : Option ℕ → ℕ
or_zero None = 0
or_zero (Some n) = n

-- the chain's member before the delivery of this number, or one below the start where it is the first
abbrev pub before_next : Consumer → ℕ → ℕ
before_next c zero = c.wanted.start - 1
before_next c (suc zero) = c.wanted.start - 1
before_next c (suc (suc k)) = or_zero (slice_get (chain c.sent) k)

-- a message of this number of the origin is one that the copy stores
abbrev pub IsToStore : Copies → Origin → Message → ℕ → Type 0
IsToStore Nothing want m seq = ⊥
IsToStore (Mirror origin) want m seq = ⊤
IsToStore (Sources origins) want m seq = (made : Message) × (via want m seq ≡ Some made)

-- the copy has stored a message of this number of its origin
abbrev pub HasStored : Copies → ℕ → History → ℕ → Type 0
HasStored Nothing index g seq = ⊥
HasStored (Mirror origin) index g seq = (m : Message) × (put seq g.entries ≡ Some m)
HasStored (Sources origins) index g seq = Contains (marks index g.entries) seq

-- An asker waits for an answer: its Ask was sent, with its copy's origin, filters and present start.
pub record IsAwaiting (w : World) (a : AskerId) (attempt : Stamp) (g : History) (want : Origin) : Type 0 where
  pub ask : Contains w.bag (Ask a attempt (node_or a.node want.node) want.stream (ask_start (copy_of a g want)) (filters_of want))

-- An asker is bound to a consumer, and awaits its delivery `next`. The consumer was made for the asker's attempt, reads
-- the incarnation that the copy is bound to, and has sent all before `next`; it starts no later than the copy
-- goes on. Of the numbers from its start to the one before `next` the copy has stored each that it stores, but for
-- holes; and it has stored nothing past those.
pub record IsReading (w : World) (a : AskerId) (attempt name : Stamp) (next : ℕ) (g : History) (want : Origin) : Type 0 where
  pub c : Consumer
  pub ever : Contains (w.shard (node_or a.node want.node) (shard_of want.stream)).ever c
  pub named : c.name ≡ name
  pub stream : c.stream ≡ want.stream
  pub asker : c.wanted.asker ≡ a
  pub attempt_is : c.wanted.attempt ≡ attempt
  pub filters : c.wanted.filters ≡ filters_of want
  pub to : BoundTo
  pub is_bound : bound a.index g.entries ≡ Some to
  pub incarnation : c.incarnation ≡ to.incarnation
  pub sent : next ≤ suc (length (chain c.sent))
  pub begins : c.wanted.start ≤ suc (reached (copy_of a g want))
  pub origin : Made
  pub reads : IsRead (w.shard (node_or a.node want.node) (shard_of want.stream)).log c origin
  pub none_left : (seq : ℕ) (m : Message) → c.wanted.start ≤ seq → seq ≤ before_next c next → put seq origin.history.entries ≡ Some m →
      IsToStore g.config.copies want m seq → HasStored g.config.copies a.index g seq ⊎ IsHole origin.history seq
  pub nothing_past : (seq : ℕ) → HasStored g.config.copies a.index g seq → seq ≤ before_next c next

-- what holds of an asker, by its phase; an idle one and one that is stopped wait for nothing
abbrev pub PhaseRight : World → AskerId → History → Origin → Phase → Type 0
PhaseRight w a g want Idle = ⊤
PhaseRight w a g want (Asking attempt since) = IsAwaiting w a attempt g want
PhaseRight w a g want (Bound attempt name next heard) = IsReading w a attempt name next g want
PhaseRight w a g want (Stopped kept seen) = ⊤

-- the asker of each copy waits for what it should
pub record AskersRight (w : World) : Type 0 where
  pub each : (a : AskerId) (g : History) (want : Origin) → IsCopy (w.shard a.node (shard_of a.stream)) a g want →
      PhaseRight w a g want (asker_at (w.shard a.node (shard_of a.stream)).held a).phase

-- ---- 5. what copies hold

-- what a copy holds of the incarnation of its origin that it is bound to
abbrev pub Holds : Copies → Origin → History → History → ℕ → Type 0
Holds Nothing want origin g index = ⊤
Holds (Mirror o) want origin g index = MirrorHolds origin g.entries (copy_start index g)
Holds (Sources os) want origin g index = SourceHolds want origin g index

-- a copy that isn't bound has stored nothing
abbrev pub HoldsNothing : Copies → History → ℕ → Type 0
HoldsNothing Nothing g index = ⊤
HoldsNothing (Mirror o) g index = (seq : ℕ) → put seq g.entries ≡ None
HoldsNothing (Sources os) g index = stored index g.entries ≡ []

-- A copy is bound to an incarnation of its origin that was made. Its start is right for the origin's history, and it
-- holds of it what it should.
pub record HoldsBound (w : World) (n : List ℕ) (g : History) (index : ℕ) (want : Origin) (to : BoundTo) : Type 0 where
  pub origin : Made
  pub reads : made (w.shard (node_or n want.node) (shard_of want.stream)).log want.stream to.incarnation ≡ Some origin
  pub right : IsRightStart origin.history want.start to.start
  pub holds : Holds g.config.copies want origin.history g index

-- what a copy holds, by what it is bound to
abbrev pub HoldsBy : World → List ℕ → History → ℕ → Origin → Option BoundTo → Type 0
HoldsBy w n g index want None = HoldsNothing g.config.copies g index
HoldsBy w n g index want (Some to) = HoldsBound w n g index want to

-- each stream that was ever made by this log of a node holds what it should of each of its origins, and one
-- that is no mirror has numbered its messages without gaps
pub record LogHolds (w : World) (n : List ℕ) (log : List Rec) : Type 0 where
  pub copies : (name : List ℕ) (incarnation : ℕ) (m : Made) (index : ℕ) (want : Origin) →
      made log name incarnation ≡ Some m → origin_named index m.history.config.copies ≡ Some want →
      HoldsBy w n m.history index want (bound index m.history.entries)
  pub numbers : (name : List ℕ) (incarnation : ℕ) (m : Made) →
      made log name incarnation ≡ Some m → is_mirror m.history.config.copies ≡ false → NumbersFollow m.history.entries

-- each copy of each shard holds what it should
pub record CopiesHold (w : World) : Type 0 where
  pub each : (n : List ℕ) (k : ℕ) → LogHolds w n (w.shard n k).log

-- ---- 6. records in doubt

-- a record in doubt may follow its log, and each copy holds what it should with it too
pub record DoubtsHold (w : World) : Type 0 where
  pub follows : (n : List ℕ) (k : ℕ) (r : Rec) → (w.shard n k).held.doubt ≡ Some r → MayFollow (w.shard n k).log r
  pub each : (n : List ℕ) (k : ℕ) (r : Rec) → (w.shard n k).held.doubt ≡ Some r → LogHolds w n ((w.shard n k).log ++ r ∷ [])

-- ---- all of it

-- Names are given once, chains skip holes alone, all that was ever sent says what is so, askers wait for what they
-- should, copies hold what they should, and they do so whatever became of the records in doubt.
pub record Sound (w : World) : Type 0 where
  pub names : NamesOnce w
  pub chains : ChainsRight w
  pub bag : BagRight w
  pub askers : AskersRight w
  pub copies : CopiesHold w
  pub doubts : DoubtsHold w
