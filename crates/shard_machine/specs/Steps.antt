-- The step of a shard: what it holds before a call, the reply, the records that join its log, and what it
-- holds afterwards.
use Rattle.std.specs.Prelude.{◌≡◌, ⊤, ◌⊎◌, ℕ, ◌+◌, ◌<◌, ◌^◌, nat_le, nat_lt, Bool, true, false, ◌&&◌, List, [], ◌∷◌, ◌++◌, length, Option, Some, None, Ok, Err}
use Rattle.std.specs.FinMap.{empty}
use Rattle.js_wire.specs.declared.packet.Packet.{Packet}
use Rattle.js_wire.specs.declared.packet.Packet.TheVariants.{Ask, Answer, Refuse, Delivery, Beat, FlowAsk, FlowReply}
use Rattle.stream_fold.specs.declared.entry.Entry.{Entry}
use Rattle.record_codec.specs.Spelling.{spelling}
use Rattle.record_codec.specs.declared.records.Rec.{Rec}
use Rattle.record_codec.specs.declared.records.Rec.TheVariants.{Boot, Create, Remove, Of}
use Rattle.push_consumer.specs.Progress.{ConsumerState}
use Rattle.shard_machine.specs.declared.call.ShardCall.{ShardCall}
use Rattle.shard_machine.specs.declared.call.ShardCall.TheVariants as call
use Rattle.shard_machine.specs.declared.reply.Outcome.{Outcome}
use Rattle.shard_machine.specs.declared.reply.Outcome.TheVariants as outcome
use Rattle.shard_machine.specs.declared.reply.ShardRefusal.{ShardRefusal}
use Rattle.shard_machine.specs.declared.reply.ShardRefusal.TheVariants as refusal
use Rattle.shard_machine.specs.declared.reply.ShardReply.{ShardReply}
use Rattle.shard_machine.specs.Images.{LogImage, image_after, incarnation_in}
use Rattle.shard_machine.specs.Views.{View, Effect, Askers, idle_askers, replied}
use Rattle.shard_machine.specs.Answers.{Answers}

-- What a shard holds, loaded or not: beside its view the record of which it isn't known whether the
-- journal has it, and where the journal ends, which is the place of its closed gate. Image and end are those
-- without the record in doubt. A shard that is loaded has no doubt; one that isn't has no consumers, and its
-- askers are idle.
pub record Held : Type 0 where
  pub node : List ℕ
  pub image : LogImage
  pub doubt : Option Rec
  pub loaded : Bool
  pub given : ℕ
  pub consumers : List ConsumerState
  pub askers : Askers
  pub end : ℕ

-- what a loaded shard answers by
abbrev pub view_in : Held → View
view_in h = record { node = h.node; image = h.image; given = h.given; consumers = h.consumers; askers = h.askers }

-- ---- room

-- how many bytes of the journal a record takes: an open gate, a length of four bytes, and its spelling
abbrev pub taken : Rec → ℕ
taken r = 5 + length (spelling r)

-- how many bytes have to be left for a record: those and the closed gate behind it
abbrev pub needed : Rec → ℕ
needed r = taken r + 1

-- the numbers that a record makes are below 2^63
abbrev pub has_number : LogImage → Rec → Bool
has_number i (Boot number) = nat_lt number (2 ^ 63)
has_number i (Create time config) = nat_lt (incarnation_in i config.name + 1) (2 ^ 63)
has_number i (Remove name) = true
has_number i (Of name entry) = true

-- the journal that ends there has room for the record
abbrev pub has_room : ℕ → LogImage → Rec → Bool
has_room end i r = nat_le (end + needed r) (2 ^ 40) && has_number i r

-- there is room for the record of a call, which makes at most one
abbrev pub HaveRoom : Held → List Rec → Type 0
HaveRoom h [] = ⊤
HaveRoom h (r ∷ rs) = (has_room h.end h.image r ≡ true) × (rs ≡ [])

-- where the journal ends behind these records
abbrev pub end_after : ℕ → List Rec → ℕ
end_after end [] = end
end_after end (r ∷ rs) = end_after (end + taken r) rs

-- ---- loads

-- the record in doubt is in the log, or isn't
abbrev pub IsSettled : Option Rec → List Rec → Type 0
IsSettled None records = records ≡ []
IsSettled (Some r) records = (records ≡ []) ⊎ (records ≡ r ∷ [])

-- the next opening of a log of this image
abbrev pub next_boot : LogImage → Rec
next_boot i = Boot (i.boot + 1)

-- a shard whose record in doubt is in, or out, may append the next opening
abbrev pub may_open : Held → List Rec → Bool
may_open old settled = has_room (end_after old.end settled) (image_after old.image settled) (next_boot (image_after old.image settled))

-- A shard loads: the record in doubt is in or out, and an opening joins the log. No consumer stands,
-- and no asker has asked.
pub record Loads (old : Held) (records : List Rec) (new : Held) : Type 0 where
  pub settled : List Rec
  pub in_or_out : IsSettled old.doubt settled
  pub room : may_open old settled ≡ true
  pub joins : records ≡ settled ++ next_boot (image_after old.image settled) ∷ []
  pub becomes : new ≡ record {
    node = old.node;
    image = image_after old.image records;
    doubt = None;
    loaded = true;
    given = 0;
    consumers = [];
    askers = empty;
    end = end_after old.end records;
  }

-- a shard that isn't loaded loads before all else, and one that is stays as it is
pub record IsReady (old : Held) (records : List Rec) (ready : Held) : Type 0 where
  pub loads : old.loaded ≡ false → Loads old records ready
  pub same : old.loaded ≡ true → (ready ≡ old) × (records ≡ [])

-- ---- a call that is answered

-- what is held after an effect
abbrev pub after_effect : Held → Effect → Held
after_effect h e = record {
  node = h.node;
  image = image_after h.image e.records;
  doubt = None;
  loaded = true;
  given = e.given;
  consumers = e.consumers;
  askers = e.askers;
  end = end_after h.end e.records;
}

-- the call is answered, and its record has joined the log
pub record Succeeds (old : Held) (c : ShardCall) (reply : ShardReply) (records : List Rec) (new : Held) : Type 0 where
  pub ready : Held
  pub loaded : List Rec
  pub is_ready : IsReady old loaded ready
  pub does : Effect
  pub answers : Answers (view_in ready) c (Ok does)
  pub room : HaveRoom ready does.records
  pub replies : reply ≡ does.reply
  pub joins : records ≡ loaded ++ does.records
  pub becomes : new ≡ after_effect ready does

-- ---- refusals

-- the packet that refuses an asker's request with these numbers of the JetStream API; it goes to the asker of
-- an Ask alone
abbrev pub refuse_with : Packet → ℕ → ℕ → List Packet
refuse_with (Ask asker attempt origin stream start filters) code err_code = Refuse asker attempt code err_code ∷ []
refuse_with (Answer asker attempt consumer incarnation start) code err_code = []
refuse_with (Refuse asker attempt other other_err) code err_code = []
refuse_with (Delivery asker attempt stream consumer number seq pending message) code err_code = []
refuse_with (Beat asker attempt origin stream consumer last_number last_seq stalled) code err_code = []
refuse_with (FlowAsk asker attempt origin stream consumer token) code err_code = []
refuse_with (FlowReply origin stream consumer token) code err_code = []

-- why no consumer is made, as the asker is told it; some refusals it isn't told
abbrev pub refusal_packets : Packet → ShardRefusal → List Packet
refusal_packets ask (refusal.Of why) = []
refusal_packets ask refusal.NoStream = refuse_with ask 404 10059
refusal_packets ask (refusal.BadConfig member) = []
refusal_packets ask refusal.NameTaken = []
refusal_packets ask refusal.TooManyStreams = []
refusal_packets ask (refusal.OldAttempt kept seen) = []
refusal_packets ask refusal.TooManyConsumers = refuse_with ask 400 10912
refusal_packets ask refusal.NoMessage = []
refusal_packets ask (refusal.JournalFull end need) = refuse_with ask 500 10913
refusal_packets ask (refusal.BadJournal place) = refuse_with ask 500 10915
refusal_packets ask refusal.NoMemory = []
refusal_packets ask refusal.DiskFault = []

-- what is sent at a refusal: an asker is told that no consumer was made for it
abbrev pub refused_packets : ShardCall → ShardRefusal → List Packet
refused_packets (call.Create config now) why = []
refused_packets (call.Update config) why = []
refused_packets (call.Remove name) why = []
refused_packets (call.Publish name message now) why = []
refused_packets (call.Delete name seq) why = []
refused_packets (call.Purge name pattern below) why = []
refused_packets (call.Expire name now) why = []
refused_packets (call.Get name which) why = []
refused_packets (call.Info name) why = []
refused_packets call.Names why = []
refused_packets (call.MakeConsumer ask now) why = refusal_packets ask why
refused_packets (call.Pump name budget now) why = []
refused_packets (call.FlowReply packet) why = []
refused_packets (call.Reach node there now) why = []
refused_packets (call.Heard packet now) why = []
refused_packets (call.Tick now) why = []
refused_packets call.LinkLost why = []

-- a refusal, and the entry that is in doubt where a disk failed
abbrev pub refused : ShardCall → ShardRefusal → Option Entry → ShardReply
refused c why doubted = replied (outcome.Refused why) doubted (refused_packets c why) []

-- the call itself is refused, and nothing changes but by a load
pub record IsTurnedDown (old : Held) (c : ShardCall) (why : ShardRefusal) (records : List Rec) (new : Held) : Type 0 where
  pub is_ready : IsReady old records new
  pub answers : Answers (view_in new) c (Err why)

-- the call's record has no room
pub record LacksRoom (old : Held) (c : ShardCall) (end need : ℕ) (records : List Rec) (new : Held) : Type 0 where
  pub is_ready : IsReady old records new
  pub does : Effect
  pub answers : Answers (view_in new) c (Ok does)
  pub lacking : Rec
  pub is : does.records ≡ lacking ∷ []
  pub room : has_room new.end new.image lacking ≡ false
  pub end_is : end ≡ new.end
  pub need_is : need ≡ needed lacking

-- the opening of a load has no room, or the disk is too long to be read
pub record LacksRoomToLoad (old : Held) (end need : ℕ) (records : List Rec) (new : Held) : Type 0 where
  pub was : old.loaded ≡ false
  pub none : records ≡ []
  pub same : new ≡ old
  pub why :
      ((settled : List Rec) × IsSettled old.doubt settled × (may_open old settled ≡ false) × (end ≡ end_after old.end settled) × (need ≡ needed (next_boot (image_after old.image settled))))
      ⊎ ((2 ^ 40 < end) × (need ≡ 0))

-- what a disk holds is no journal
pub record CannotLoad (old : Held) (records : List Rec) (new : Held) : Type 0 where
  pub was : old.loaded ≡ false
  pub none : records ≡ []
  pub same : new ≡ old

-- ---- faults of a disk

-- the entry of a record, where it is one of a stream's history
abbrev pub entry_of : Rec → Option Entry
entry_of (Boot number) = None
entry_of (Create time config) = None
entry_of (Remove name) = None
entry_of (Of name entry) = Some entry

-- the entry of the record in doubt
abbrev pub entry_in_doubt : Option Rec → Option Entry
entry_in_doubt None = None
entry_in_doubt (Some r) = entry_of r

-- A disk failed while the call's record was appended: it is in doubt, and the shard isn't loaded. No
-- consumer stands, and each asker is idle.
pub record Faults (old : Held) (c : ShardCall) (doubted : Option Entry) (records : List Rec) (new : Held) : Type 0 where
  pub ready : Held
  pub is_ready : IsReady old records ready
  pub does : Effect
  pub answers : Answers (view_in ready) c (Ok does)
  pub doubtful : Rec
  pub is : does.records ≡ doubtful ∷ []
  pub room : HaveRoom ready does.records
  pub entry : doubted ≡ entry_in_doubt new.doubt
  pub becomes : new ≡ record ready { doubt = Some doubtful; loaded = false; consumers = []; askers = idle_askers ready.askers }

-- A disk failed during a load: an older doubt stays, or it ended and the opening is in doubt.
pub record FailsToLoad (old : Held) (doubted : Option Entry) (records : List Rec) (new : Held) : Type 0 where
  pub was : old.loaded ≡ false
  pub entry : doubted ≡ entry_in_doubt new.doubt
  pub result :
      ((new ≡ old) × (records ≡ []))
      ⊎ (IsSettled old.doubt records × (may_open old records ≡ true) × (new ≡ record old { image = image_after old.image records; doubt = Some (next_boot (image_after old.image records)); end = end_after old.end records }))

-- nothing changes, or a load is all that does
abbrev pub StaysOrLoads : Held → List Rec → Held → Type 0
StaysOrLoads old records new = ((new ≡ old) × (records ≡ [])) ⊎ IsReady old records new

-- ---- the step

-- a call is refused
abbrev pub Refuses : Held → ShardCall → ShardRefusal → Option Entry → List Rec → Held → Type 0
Refuses old c (refusal.Of why) made records new = (made ≡ None) × IsTurnedDown old c (refusal.Of why) records new
Refuses old c refusal.NoStream made records new = (made ≡ None) × IsTurnedDown old c refusal.NoStream records new
Refuses old c (refusal.BadConfig member) made records new = (made ≡ None) × IsTurnedDown old c (refusal.BadConfig member) records new
Refuses old c refusal.NameTaken made records new = (made ≡ None) × IsTurnedDown old c refusal.NameTaken records new
Refuses old c refusal.TooManyStreams made records new = (made ≡ None) × IsTurnedDown old c refusal.TooManyStreams records new
Refuses old c (refusal.OldAttempt kept seen) made records new = (made ≡ None) × IsTurnedDown old c (refusal.OldAttempt kept seen) records new
Refuses old c refusal.TooManyConsumers made records new = (made ≡ None) × IsTurnedDown old c refusal.TooManyConsumers records new
Refuses old c refusal.NoMessage made records new = (made ≡ None) × IsTurnedDown old c refusal.NoMessage records new
Refuses old c (refusal.JournalFull end need) made records new = (made ≡ None) × (LacksRoom old c end need records new ⊎ LacksRoomToLoad old end need records new)
Refuses old c (refusal.BadJournal place) made records new = (made ≡ None) × CannotLoad old records new
Refuses old c refusal.NoMemory made records new = (made ≡ None) × StaysOrLoads old records new
Refuses old c refusal.DiskFault made records new = Faults old c made records new ⊎ FailsToLoad old made records new

-- the reply of a refusal is the refusal's
pub record RefusesWith (old : Held) (c : ShardCall) (why : ShardRefusal) (reply : ShardReply) (records : List Rec) (new : Held) : Type 0 where
  pub doubted : Option Entry
  pub replies : reply ≡ refused c why doubted
  pub refuses : Refuses old c why doubted records new

-- by what came of the call
abbrev pub StepTo : Outcome → Held → ShardCall → ShardReply → List Rec → Held → Type 0
StepTo (outcome.Made fresh) old c reply records new = Succeeds old c reply records new
StepTo outcome.Updated old c reply records new = Succeeds old c reply records new
StepTo outcome.Removed old c reply records new = Succeeds old c reply records new
StepTo (outcome.Stored seq) old c reply records new = Succeeds old c reply records new
StepTo (outcome.Duplicate seq) old c reply records new = Succeeds old c reply records new
StepTo outcome.Deleted old c reply records new = Succeeds old c reply records new
StepTo (outcome.Purged count) old c reply records new = Succeeds old c reply records new
StepTo (outcome.Expired count) old c reply records new = Succeeds old c reply records new
StepTo (outcome.Found row) old c reply records new = Succeeds old c reply records new
StepTo (outcome.Info facts) old c reply records new = Succeeds old c reply records new
StepTo (outcome.Listed names) old c reply records new = Succeeds old c reply records new
StepTo (outcome.Consumer name) old c reply records new = Succeeds old c reply records new
StepTo outcome.Sent old c reply records new = Succeeds old c reply records new
StepTo (outcome.Heard decision) old c reply records new = Succeeds old c reply records new
StepTo (outcome.Refused why) old c reply records new = RefusesWith old c why reply records new

-- What a shard holds before a call, the reply, the records that join its log, and what it holds
-- afterwards.
abbrev pub Step : Held → ShardCall → ShardReply → List Rec → Held → Type 0
Step old c reply records new = StepTo reply.outcome old c reply records new
