-- What a shard that is loaded holds, what is looked up in it, and what an answer does.
use Rattle.std.specs.Prelude.{◌≡◌, ℕ, ◌+◌, ◌-◌, max, ◌==◌, Bool, true, false, ◌&&◌, List, [], ◌∷◌, ◌++◌, map, filter, count_by, flat_map, if◌then◌else◌, Option, Some, None, is_none, slice_get}
use Rattle.std.specs.FinMap.{FinMap, empty, get, insert, entries, from_entries}
use Rattle.std.specs.Ordering.{nat_cmp}
use Rattle.std.specs.Cmp.Lexicographic.{slice_cmp}
use Rattle.std.specs.Str.{bytes_eq}
use Rattle.nats_text.specs.declared.message.Start.{Start}
use Rattle.nats_text.specs.declared.message.Start.TheVariants.{Seq, Time}
use Rattle.nats_text.specs.declared.origin.Origin.{Origin}
use Rattle.js_wire.specs.declared.packet.AskerId.{AskerId}
use Rattle.js_wire.specs.declared.packet.Packet.{Packet}
use Rattle.js_wire.specs.declared.packet.Packet.TheVariants.{Ask}
use Rattle.stream_fold.specs.declared.config.Copies.{Copies}
use Rattle.stream_fold.specs.declared.config.Copies.TheVariants.{Nothing, Mirror, Sources}
use Rattle.stream_fold.specs.declared.entry.BoundTo.{BoundTo}
use Rattle.stream_fold.specs.declared.entry.Entry.{Entry}
use Rattle.stream_fold.specs.declared.entry.Entry.TheVariants.{Put, Del, Purge, Expire, Bind, Limits}
use Rattle.stream_fold.specs.declared.entry.Numbered.{Numbered}
use Rattle.stream_fold.specs.Histories.{message_at}
use Rattle.stream_fold.specs.Facts.{StreamFacts, facts_after, mark_by_facts, front_by_facts}
use Rattle.record_codec.specs.declared.records.Rec.{Rec}
use Rattle.record_codec.specs.declared.records.Rec.TheVariants.{Of}
use Rattle.push_consumer.specs.Progress.{ConsumerState}
use Rattle.replica_ask.specs.Askers.{AskerState, new_asker, with_phase, next_attempt, asking}
use Rattle.replica_ask.specs.Filters.{filters_of}
use Rattle.replica_ask.specs.declared.phase.Phase.TheVariants.{Idle}
use Rattle.tap_row.specs.declared.notice.Notice.{Notice}
use Rattle.tap_row.specs.declared.notice.Notice.TheVariants.{Stored, Removed}
use Rattle.shard_machine.specs.declared.reply.Outcome.{Outcome}
use Rattle.shard_machine.specs.declared.reply.ShardReply.{ShardReply}
use Rattle.shard_machine.specs.Images.{LogImage, NameFacts, live_in, live_names}

-- the askers of one stream, by the index of their origin
abbrev pub StreamAskers : Type 0
StreamAskers = FinMap nat_cmp AskerState

-- the askers of a shard, by the name of their stream; they outlive it until the shard is opened anew
abbrev pub Askers : Type 0
Askers = FinMap (slice_cmp nat_cmp) StreamAskers

-- The node, the image of the log, how many consumers were made since the last opening, those that stand,
-- in the order of their names, and the askers.
pub record View : Type 0 where
  pub node : List ℕ
  pub image : LogImage
  pub given : ℕ
  pub consumers : List ConsumerState
  pub askers : Askers

-- What an answer does: the reply, the records that join the log, and what is held then beside the
-- log's image.
pub record Effect : Type 0 where
  pub reply : ShardReply
  pub records : List Rec
  pub given : ℕ
  pub consumers : List ConsumerState
  pub askers : Askers

-- ---- copies

-- the origins of a stream, by index
abbrev pub origins_of : Copies → List Origin
origins_of Nothing = []
origins_of (Mirror origin) = origin ∷ []
origins_of (Sources origins) = origins

-- a copy of a stream that stands: its name, which of the stream's origins it is, what is known of the
-- stream, and the origin
pub record Copy : Type 0 where
  pub stream : List ℕ
  pub index : ℕ
  pub facts : StreamFacts
  pub want : Origin

-- the copies of these origins, the first of them with this index
abbrev pub copies_from : List ℕ → StreamFacts → ℕ → List Origin → List Copy
copies_from name f index [] = []
copies_from name f index (origin ∷ origins) = record { stream = name; index = index; facts = f; want = origin } ∷ copies_from name f (index + 1) origins

-- the copies of a stream, by index
abbrev pub copies_of : List ℕ → StreamFacts → List Copy
copies_of name f = copies_from name f 0 (origins_of f.config.copies)

-- the copies of a stream, if it stands
abbrev pub copies_under : LogImage → List ℕ → List Copy
copies_under i name = copies_if name (live_in i name) where
  copies_if : List ℕ → Option NameFacts → List Copy
  copies_if name None = []
  copies_if name (Some known) = copies_of name known.stream

-- all copies, by the name of their stream and then by index
abbrev pub all_copies : LogImage → List Copy
all_copies i = flat_map (copies_under i) (live_names i)

-- how far a copy has come with its origin: a mirror to its front, a source to its mark
abbrev pub reached_by : Copies → ℕ → Origin → StreamFacts → ℕ
reached_by Nothing index want f = 0
reached_by (Mirror origin) index want f = front_by_facts want.start f
reached_by (Sources origins) index want f = mark_by_facts index f

-- the same of a copy
abbrev pub reached : Copy → ℕ
reached c = reached_by c.facts.config.copies c.index c.want c.facts

-- the node of an origin: the copy's own where none is named
abbrev pub node_or : List ℕ → Option (List ℕ) → List ℕ
node_or own None = own
node_or own (Some other) = other

-- ---- askers

-- the asker's name
abbrev pub id_of : List ℕ → Copy → AskerId
id_of node_name c = record { node = node_name; stream = c.stream; index = c.index }

-- the askers of a stream
abbrev pub askers_of : Askers → List ℕ → StreamAskers
askers_of askers stream = or_none (get askers stream) where
  or_none : Option StreamAskers → StreamAskers
  or_none None = empty
  or_none (Some found) = found

-- an asker, or a new one where none was there
abbrev pub asker_or_new : AskerId → ℕ → Option AskerState → AskerState
asker_or_new id boot None = new_asker id boot
asker_or_new id boot (Some a) = a

-- the asker of a copy
abbrev pub asker_of : View → Copy → AskerState
asker_of v c = asker_or_new (id_of v.node c) v.image.boot (get (askers_of v.askers c.stream) c.index)

-- with an asker of this stream and index in place of an earlier one
abbrev pub with_asker : List ℕ → ℕ → AskerState → Askers → Askers
with_asker stream index a askers = insert askers stream (insert (askers_of askers stream) index a)

-- each asker of a stream is idle
abbrev pub all_idle : StreamAskers → StreamAskers
all_idle askers = from_entries (map (λ p. (p.0, with_phase p.1 Idle)) (entries askers))

-- each asker of the shard is idle
abbrev pub idle_askers : Askers → Askers
idle_askers askers = from_entries (map (λ p. (p.0, all_idle p.1)) (entries askers))

-- each asker of this stream is idle
abbrev pub idle_under : List ℕ → Askers → Askers
idle_under stream askers = idle_if (get askers stream) where
  idle_if : Option StreamAskers → Askers
  idle_if None = askers
  idle_if (Some found) = insert askers stream (all_idle found)

-- ---- asking

-- where a copy starts: at the configured start before it is bound, and then behind what it has
abbrev pub ask_start : Copy → Start
ask_start c = start_if (get c.facts.bindings c.index) where
  start_if : Option BoundTo → Start
  start_if None = c.want.start
  start_if (Some to) = Seq (reached c + 1)

-- what a copy asks
abbrev pub ask_of : View → Copy → Packet
ask_of v c = Ask (id_of v.node c) (next_attempt (asker_of v c)) (node_or v.node c.want.node) c.want.stream (ask_start c) (filters_of c.want)

-- the asker of a copy has asked at this moment
abbrev pub with_asked : View → ℕ → Copy → Askers → Askers
with_asked v now c askers = with_asker c.stream c.index (asking (asker_of v c) now) askers

-- each of these copies asks: the packets
abbrev pub asks_of : View → List Copy → List Packet
asks_of v copies = map (ask_of v) copies

-- each of these copies asks: the askers then
abbrev pub with_all_asked : View → ℕ → List Copy → Askers → Askers
with_all_asked v now [] askers = askers
with_all_asked v now (c ∷ cs) askers = with_all_asked v now cs (with_asked v now c askers)

-- ---- notices

-- a message is stored
abbrev pub stored_notice : List ℕ → Entry → List Notice
stored_notice name (Put seq message mark) = Stored name seq ∷ []
stored_notice name (Del seq) = []
stored_notice name (Purge pattern below) = []
stored_notice name (Expire now) = []
stored_notice name (Bind index incarnation start) = []
stored_notice name (Limits config) = []

-- so many earlier messages are no longer kept
abbrev pub removed_notice : List ℕ → ℕ → List Notice
removed_notice name count = if count == 0 then [] else Removed name count ∷ []

-- how many of the messages that were kept are not kept after an entry
abbrev pub count_gone : StreamFacts → Entry → ℕ
count_gone f e = count_by (λ row. is_none (message_at row.seq (facts_after f e).rows)) f.rows

-- what the taps are told of an entry
abbrev pub entry_notices : List ℕ → StreamFacts → Entry → List Notice
entry_notices name f e = stored_notice name e ++ removed_notice name (count_gone f e)

-- ---- effects

-- a reply
abbrev pub replied : Outcome → Option Entry → List Packet → List Notice → ShardReply
replied what made sent told = record { outcome = what; entry = made; packets = sent; notices = told }

-- a reply, and nothing changes
abbrev pub reads : View → Outcome → Effect
reads v what = record { reply = replied what None [] []; records = []; given = v.given; consumers = v.consumers; askers = v.askers }

-- an entry joins the history of a stream
abbrev pub writes : View → List ℕ → StreamFacts → Entry → Outcome → Effect
writes v name f e what = record { reply = replied what (Some e) [] (entry_notices name f e); records = Of name e ∷ []; given = v.given; consumers = v.consumers; askers = v.askers }

-- packets are sent, and what is held beside the log changes
abbrev pub sends : View → List Packet → List ConsumerState → Askers → Effect
sends v sent then_consumers then_askers = record { reply = replied Rattle.shard_machine.specs.declared.reply.Outcome.TheVariants.Sent None sent []; records = []; given = v.given; consumers = then_consumers; askers = then_askers }
