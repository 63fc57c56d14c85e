-- Where a packet goes, which calls it makes where it comes, and what follows a call.
use Rattle.std.specs.Prelude.{ℕ, Bool, true, false, if◌then◌else◌, ◌&&◌, List, [], ◌∷◌, ◌++◌, map, Option, is_some, Some, None}
use Rattle.std.specs.Str.{bytes_eq}
use Rattle.js_wire.specs.declared.packet.Packet.{Packet}
use Rattle.js_wire.specs.declared.packet.Packet.TheVariants.{Ask, Answer, Refuse, Delivery, Beat, FlowAsk, FlowReply}
use Rattle.shard_machine.specs.declared.call.ShardCall.{ShardCall}
use Rattle.shard_machine.specs.declared.call.ShardCall.TheVariants as call
use Rattle.shard_machine.specs.declared.reply.Outcome.{Outcome}
use Rattle.shard_machine.specs.declared.reply.Outcome.TheVariants as outcome
use Rattle.run_soundness.specs.Worlds.{shard_of}
use Rattle.world_steps.specs.declared.event.Direction.TheVariants.{ToLeaf, ToHub}
use Rattle.world_steps.specs.declared.job.Job.{Job}
use Rattle.world_steps.specs.Links.{Site, is_hub, site_of, change_channel, with_frame}

-- ---- where a packet is for

-- the node that a packet is for: what a copy asks, and what it answers to a flow request, go to its origin, all else to
-- the copy
abbrev pub destination : Packet → List ℕ
destination (Ask asker attempt origin stream start filters) = origin
destination (Answer asker attempt consumer incarnation start) = asker.node
destination (Refuse asker attempt code err_code) = asker.node
destination (Delivery asker attempt stream consumer number seq pending message) = asker.node
destination (Beat asker attempt origin stream consumer last_number last_seq stalled) = asker.node
destination (FlowAsk asker attempt origin stream consumer token) = asker.node
destination (FlowReply origin stream consumer token) = origin

-- the stream of that node
abbrev pub stream_of : Packet → List ℕ
stream_of (Ask asker attempt origin stream start filters) = stream
stream_of (Answer asker attempt consumer incarnation start) = asker.stream
stream_of (Refuse asker attempt code err_code) = asker.stream
stream_of (Delivery asker attempt stream consumer number seq pending message) = asker.stream
stream_of (Beat asker attempt origin stream consumer last_number last_seq stalled) = asker.stream
stream_of (FlowAsk asker attempt origin stream consumer token) = asker.stream
stream_of (FlowReply origin stream consumer token) = stream

-- ---- calls

-- a call at the shard of a stream
abbrev pub job_at : List ℕ → ShardCall → Job
job_at stream c = record { shard = shard_of stream; call = c }

-- the consumers of a stream send what they may, without a bound on how many messages
abbrev pub pump : ℕ → List ℕ → Job
pump now stream = job_at stream (call.Pump stream 4294967295 now)

-- the call that a packet makes where it comes
abbrev pub call_of : ℕ → Packet → ShardCall
call_of now (Ask asker attempt origin stream start filters) = call.MakeConsumer (Ask asker attempt origin stream start filters) now
call_of now (Answer asker attempt consumer incarnation start) = call.Heard (Answer asker attempt consumer incarnation start) now
call_of now (Refuse asker attempt code err_code) = call.Heard (Refuse asker attempt code err_code) now
call_of now (Delivery asker attempt stream consumer number seq pending message) = call.Heard (Delivery asker attempt stream consumer number seq pending message) now
call_of now (Beat asker attempt origin stream consumer last_number last_seq stalled) = call.Heard (Beat asker attempt origin stream consumer last_number last_seq stalled) now
call_of now (FlowAsk asker attempt origin stream consumer token) = call.Heard (FlowAsk asker attempt origin stream consumer token) now
call_of now (FlowReply origin stream consumer token) = call.FlowReply (FlowReply origin stream consumer token)

-- the calls that a packet makes where it comes: the one, and then a pump of the same stream
abbrev pub packet_jobs : ℕ → Packet → List Job
packet_jobs now p = job_at (stream_of p) (call_of now p) ∷ pump now (stream_of p) ∷ []

-- the stream of an operation, which may change what the stream keeps
abbrev pub operated : ShardCall → Option (List ℕ)
operated (call.Create config now) = Some config.name
operated (call.Update config) = Some config.name
operated (call.Remove name) = Some name
operated (call.Publish name message now) = Some name
operated (call.Delete name seq) = Some name
operated (call.Purge name pattern below) = Some name
operated (call.Expire name now) = Some name
operated (call.Get name which) = None
operated (call.Info name) = None
operated call.Names = None
operated (call.MakeConsumer ask now) = None
operated (call.Pump name budget now) = None
operated (call.FlowReply packet) = None
operated (call.Reach node there now) = None
operated (call.Heard packet now) = None
operated (call.Tick now) = None
operated call.LinkLost = None

-- the call wasn't refused
abbrev pub is_accepted : Outcome → Bool
is_accepted (outcome.Refused why) = false
is_accepted _ = true

-- a pump, where there is a stream
abbrev pub pump_if : ℕ → Option (List ℕ) → List Job
pump_if now None = []
pump_if now (Some name) = pump now name ∷ []

-- the names that were listed
abbrev pub listed : Outcome → List (List ℕ)
listed (outcome.Listed names) = names
listed _ = []

-- The moments of what a node does: `now` is that of all that calls bring, `timer` that of the pumps that belong to
-- a timer moment.
pub record Moments : Type 0 where
  pub now : ℕ
  pub timer : ℕ

-- What follows a call at once: an operation that was accepted is followed by a pump of its stream, and a list of
-- names by a pump of each.
abbrev pub followers : Moments → ShardCall → Outcome → List Job
followers m c what = (if is_accepted what then pump_if m.now (operated c) else []) ++ map (pump m.timer) (listed what)

-- ---- the way of a packet

-- The hub sends a packet to the leaf that it is for, where the leaf's link is up.
abbrev pub sent_by_hub : (List ℕ → Bool) → Packet → List Site → List Site
sent_by_hub joined p sites = if joined (destination p) then change_channel (destination p) ToLeaf (with_frame p) sites else sites

-- A leaf sends a packet to the hub, where its link is up, whichever node it is for, if that is there.
abbrev pub sent_by_leaf : (List ℕ → Bool) → List ℕ → Packet → List Site → List Site
sent_by_leaf joined leaf p sites = if joined leaf && is_some (site_of sites (destination p)) then change_channel leaf ToHub (with_frame p) sites else sites

-- A packet for another node is under way then, or it goes nowhere.
abbrev pub sent : (List ℕ → Bool) → List ℕ → Packet → List Site → List Site
sent joined at p sites = if is_hub sites at then sent_by_hub joined p sites else sent_by_leaf joined at p sites

-- What is under way, and the calls that are due at a node.
pub record Due : Type 0 where
  pub sites : List Site
  pub jobs : List Job

-- A packet at a node: one for the node itself makes calls, behind those that are due; another one is sent.
abbrev pub routed : ℕ → (List ℕ → Bool) → List ℕ → Packet → Due → Due
routed now joined at p d =
    if bytes_eq (destination p) at then (record { sites = d.sites; jobs = d.jobs ++ packet_jobs now p })
    else (record { sites = sent joined at p d.sites; jobs = d.jobs })

-- these packets, the first first
abbrev pub all_routed : ℕ → (List ℕ → Bool) → List ℕ → List Packet → Due → Due
all_routed now joined at [] d = d
all_routed now joined at (p ∷ ps) d = all_routed now joined at ps (routed now joined at p d)
