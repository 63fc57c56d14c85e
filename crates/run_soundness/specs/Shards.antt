-- A shard of a world: what it holds, its log, and every consumer that was ever made at it.
use Rattle.std.specs.Prelude.{◌≡◌, ◌≢◌, ℕ, ◌≤◌, false, List, [], ◌∷◌, ◌++◌, map, flat_map, if◌then◌else◌, Option, Some, None, Contains, ⊤}
use Rattle.std.specs.List.{find}
use Rattle.std.specs.FinMap.{empty}
use Rattle.nats_text.specs.declared.message.Stamp.{Stamp}
use Rattle.stream_fold.specs.declared.entry.Numbered.{Numbered}
use Rattle.record_codec.specs.declared.records.Rec.{Rec}
use Rattle.js_wire.specs.declared.packet.Packet.{Packet}
use Rattle.js_wire.specs.declared.packet.Packet.TheVariants.{Ask, Answer, Refuse, Delivery, Beat, FlowAsk, FlowReply}
use Rattle.push_consumer.specs.declared.wanted.Wanted.{Wanted}
use Rattle.push_consumer.specs.Chains.{Sendings, IsRight, no_sendings, with_rows}
use Rattle.push_consumer.specs.Progress.{ConsumerState}
use Rattle.replica_ask.specs.Orders.{same_stamp}
use Rattle.shard_machine.specs.declared.call.ShardCall.{ShardCall}
use Rattle.shard_machine.specs.declared.reply.Outcome.{Outcome}
use Rattle.shard_machine.specs.declared.reply.Outcome.TheVariants as outcome
use Rattle.shard_machine.specs.declared.reply.ShardReply.{ShardReply}
use Rattle.shard_machine.specs.Logs.{Made, made}
use Rattle.shard_machine.specs.Images.{LogImage, no_image, incarnation_in}
use Rattle.shard_machine.specs.Views.{idle_askers}
use Rattle.shard_machine.specs.Steps.{Held, Loads, Step}

-- A consumer that was made at some time: its name, the stream and the incarnation of it that it reads, what
-- its copy wanted, and all that it has sent.
pub record Consumer : Type 0 where
  pub name : Stamp
  pub stream : List ℕ
  pub incarnation : ℕ
  pub wanted : Wanted
  pub sent : Sendings

-- What a shard holds, the log for which it stands, and every consumer that was ever made at it, the first
-- first.
pub record ShardState : Type 0 where
  pub held : Held
  pub log : List Rec
  pub ever : List Consumer

-- ---- what consumers have sent

-- what this packet delivers in the name of a consumer
abbrev pub delivered_by : Stamp → Packet → List Numbered
delivered_by name (Ask asker attempt origin stream start filters) = []
delivered_by name (Answer asker attempt consumer incarnation start) = []
delivered_by name (Refuse asker attempt code err_code) = []
delivered_by name (Delivery asker attempt stream consumer number seq pending message) = if same_stamp consumer name then (record { seq = seq; message = message }) ∷ [] else []
delivered_by name (Beat asker attempt origin stream consumer last_number last_seq stalled) = []
delivered_by name (FlowAsk asker attempt origin stream consumer token) = []
delivered_by name (FlowReply origin stream consumer token) = []

-- what these packets deliver in the name of a consumer, in their order
abbrev pub delivered : Stamp → List Packet → List Numbered
delivered name packets = flat_map (delivered_by name) packets

-- what stands of the consumer of a name
abbrev pub standing_of : List ConsumerState → Stamp → Option ConsumerState
standing_of consumers name = find (λ c. same_stamp c.name name) consumers

-- with the greatest token that was answered, where the consumer stands
abbrev pub answered_now : Option ConsumerState → Sendings → Sendings
answered_now None s = s
answered_now (Some c) s = record s { answered = c.progress.answered }

-- the consumer once these packets were sent and these consumers stand
abbrev pub sent_now : List ConsumerState → List Packet → Consumer → Consumer
sent_now consumers packets k = record k { sent = answered_now (standing_of consumers k.name) (with_rows k.sent (delivered k.name packets)) }

-- a consumer that was just made, of what is held of it
abbrev pub just_made : LogImage → Option ConsumerState → List Consumer
just_made i None = []
just_made i (Some c) = (record { name = c.name; stream = c.stream; incarnation = incarnation_in i c.stream; wanted = c.wanted; sent = no_sendings }) ∷ []

-- the consumer that a call made, by what came of it and by what is held then
abbrev pub made_by : Outcome → Held → List Consumer
made_by (outcome.Made fresh) h = []
made_by outcome.Updated h = []
made_by outcome.Removed h = []
made_by (outcome.Stored seq) h = []
made_by (outcome.Duplicate seq) h = []
made_by outcome.Deleted h = []
made_by (outcome.Purged count) h = []
made_by (outcome.Expired count) h = []
made_by (outcome.Found row) h = []
made_by (outcome.Info facts) h = []
made_by (outcome.Listed names) h = []
made_by (outcome.Consumer name) h = just_made h.image (standing_of h.consumers name)
made_by outcome.Sent h = []
made_by (outcome.Heard decision) h = []
made_by (outcome.Refused why) h = []

-- every consumer that was ever made, behind a call with this reply, where this is held then
abbrev pub ever_after : Held → ShardReply → List Consumer → List Consumer
ever_after h reply ever = map (sent_now h.consumers reply.packets) ever ++ made_by reply.outcome h

-- ---- what may become of a shard

-- a call is answered so, and its records join the log
pub record Moves (old : ShardState) (c : ShardCall) (reply : ShardReply) (new : ShardState) : Type 0 where
  pub records : List Rec
  pub step : Step old.held c reply records new.held
  pub log : new.log ≡ old.log ++ records
  pub ever : new.ever ≡ ever_after new.held reply old.ever

-- a shard loads, and its records join the log
pub record LoadsOn (old new : ShardState) : Type 0 where
  pub records : List Rec
  pub loads : Loads old.held records new.held
  pub log : new.log ≡ old.log ++ records
  pub ever : new.ever ≡ old.ever

-- a shard forgets all but its log, and isn't loaded
pub record RestsOn (old new : ShardState) : Type 0 where
  pub held : new.held ≡ record old.held { loaded = false; consumers = []; askers = idle_askers old.held.askers }
  pub log : new.log ≡ old.log
  pub ever : new.ever ≡ old.ever

-- what the shard of a node holds that was never loaded, whose empty journal ends there
abbrev pub empty_held : List ℕ → ℕ → Held
empty_held node end = record { node = node; image = no_image; doubt = None; loaded = false; given = 0; consumers = []; askers = empty; end = end }

-- a shard of a node that was never loaded
pub record IsNewShard (node : List ℕ) (s : ShardState) : Type 0 where
  pub end : ℕ
  pub held : s.held ≡ empty_held node end
  pub log : s.log ≡ []
  pub ever : s.ever ≡ []

-- ---- names of consumers

-- no two have one name
abbrev pub Distinct : List Consumer → Type 0
Distinct [] = ⊤
Distinct (c ∷ cs) = ((d : Consumer) → Contains cs d → d.name ≢ c.name) × Distinct cs

-- the stamp was given in an earlier boot, or in this one at most as this count
pub record IsGiven (b given : ℕ) (stamp : Stamp) : Type 0 where
  pub boot : stamp.boot ≤ b
  pub count : stamp.boot ≡ b → stamp.count ≤ given

-- the consumer reads this stream of the log
abbrev pub IsRead : List Rec → Consumer → Made → Type 0
IsRead log c m = made log c.stream c.incarnation ≡ Some m

-- What a consumer has sent is right for the stream that it reads, whether it stands or not: by the state in
-- which it stands, or stood last.
pub record ReadsRight (log : List Rec) (c : Consumer) : Type 0 where
  pub origin : Made
  pub reads : IsRead log c origin
  pub state : ConsumerState
  pub wanted : state.wanted ≡ c.wanted
  pub right : IsRight origin.history state c.sent
