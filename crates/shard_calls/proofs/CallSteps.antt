-- The steps of a shard, by what came of the parts of a call.
use Rattle.record_codec.specs.declared.records.Rec.{Rec}
use Rattle.shard_calls.proofs.AnswerKinds.{IsDone, IsGround, done, ground}
use Rattle.shard_machine.proofs.RefusedPackets.{none-of-fault}
use Rattle.shard_machine.specs.Answers.{Answers}
use Rattle.shard_machine.specs.Images.{image_after}
use Rattle.shard_machine.specs.Steps.{HaveRoom, Held, IsReady, IsSettled, Refuses, Step, StepTo, Succeeds, after_effect, end_after, entry_in_doubt, entry_of, has_room, may_open, needed, next_boot, refused, refused_packets, view_in}
use Rattle.shard_machine.specs.Views.{Effect, idle_askers}
use Rattle.shard_machine.specs.declared.call.ShardCall.{ShardCall}
use Rattle.shard_machine.specs.declared.reply.Outcome.TheVariants as outcome
use Rattle.shard_machine.specs.declared.reply.Outcome.{Outcome}
use Rattle.shard_machine.specs.declared.reply.ShardRefusal.TheVariants as refusal
use Rattle.shard_machine.specs.declared.reply.ShardRefusal.{ShardRefusal}
use Rattle.shard_machine.specs.declared.reply.ShardReply.{ShardReply}
use Rattle.std.proofs.Common.{Err, List, None, Ok, Option, Some, [], false, inl, inr, refl, subst, sym, true, ℕ, ◌++◌, ◌<◌, ◌^◌, ◌∙◌, ◌∷◌, ◌≡◌, ◌≢◌, ◌⊎◌}
use Rattle.stream_fold.specs.declared.entry.Entry.{Entry}

-- a shard that is loaded is ready
pub is_ready : (h : Held) → h.loaded ≡ true → IsReady h [] h
is_ready h on = record { loads = λ off. absurd (let wrong : true ≡ false = sym on ∙ off in cc); same = λ _. (refl, refl) }

by-outcome : (o : Outcome) (h : Held) (c : ShardCall) (reply : ShardReply) (records : List Rec) (new : Held) → IsDone o → Succeeds h c reply records new → StepTo o h c reply records new
by-outcome (outcome.Made fresh) h c reply records new is s = s
by-outcome outcome.Updated h c reply records new is s = s
by-outcome outcome.Removed h c reply records new is s = s
by-outcome (outcome.Stored seq) h c reply records new is s = s
by-outcome (outcome.Duplicate seq) h c reply records new is s = s
by-outcome outcome.Deleted h c reply records new is s = s
by-outcome (outcome.Purged count) h c reply records new is s = s
by-outcome (outcome.Expired count) h c reply records new is s = s
by-outcome (outcome.Found row) h c reply records new is s = s
by-outcome (outcome.Info facts) h c reply records new is s = s
by-outcome (outcome.Listed names) h c reply records new is s = s
by-outcome (outcome.Consumer name) h c reply records new is s = s
by-outcome outcome.Sent h c reply records new is s = s
by-outcome (outcome.Heard decision) h c reply records new is s = s
by-outcome (outcome.Refused why) h c reply records new is s = absurd is

-- a loaded shard answers, and its record has joined the log
pub answered : (h : Held) (c : ShardCall) (does : Effect) → h.loaded ≡ true → Answers (view_in h) c (Ok does) → HaveRoom h does.records → Step h c does.reply does.records (after_effect h does)
answered h c does on answers room = by-outcome does.reply.outcome h c does.reply does.records (after_effect h does) (done (view_in h) c does answers) (record {
  ready = h;
  loaded = [];
  is_ready = is_ready h on;
  does = does;
  answers = answers;
  room = room;
  replies = refl;
  joins = refl;
  becomes = refl;
})

-- ---- refusals

-- what is refused on a ground of the call's own
turned : (h : Held) (c : ShardCall) (why : ShardRefusal) → h.loaded ≡ true → IsGround why → Answers (view_in h) c (Err why) → Refuses h c why None [] h
turned h c (refusal.Of why) on is a = (refl, record { is_ready = is_ready h on; answers = a })
turned h c refusal.NoStream on is a = (refl, record { is_ready = is_ready h on; answers = a })
turned h c (refusal.BadConfig member) on is a = (refl, record { is_ready = is_ready h on; answers = a })
turned h c refusal.NameTaken on is a = (refl, record { is_ready = is_ready h on; answers = a })
turned h c refusal.TooManyStreams on is a = (refl, record { is_ready = is_ready h on; answers = a })
turned h c (refusal.OldAttempt kept seen) on is a = (refl, record { is_ready = is_ready h on; answers = a })
turned h c refusal.TooManyConsumers on is a = (refl, record { is_ready = is_ready h on; answers = a })
turned h c refusal.NoMessage on is a = (refl, record { is_ready = is_ready h on; answers = a })
turned h c (refusal.JournalFull end need) on is a = absurd is
turned h c (refusal.BadJournal place) on is a = absurd is
turned h c refusal.NoMemory on is a = absurd is
turned h c refusal.DiskFault on is a = absurd is

pub turned_down : (h : Held) (c : ShardCall) (why : ShardRefusal) → h.loaded ≡ true → Answers (view_in h) c (Err why) → Refuses h c why None [] h
turned_down h c why on a = turned h c why on (ground (view_in h) c why a) a

-- there was no memory, and nothing changed
pub without_memory : (h : Held) (c : ShardCall) → Refuses h c refusal.NoMemory None [] h
without_memory h c = (refl, inl (refl, refl))

-- the call's record has no room
pub lacking : (h : Held) (c : ShardCall) (does : Effect) (r : Rec) → h.loaded ≡ true → Answers (view_in h) c (Ok does) → does.records ≡ r ∷ [] → has_room h.end h.image r ≡ false → Refuses h c (refusal.JournalFull h.end (needed r)) None [] h
lacking h c does r on answers is room = (refl, inl (record { is_ready = is_ready h on; does = does; answers = answers; lacking = r; is = is; room = room; end_is = refl; need_is = refl }))

-- what is held once the call's record is in doubt
abbrev pub doubting : Held → Rec → Held
doubting h r = record h { doubt = Some r; loaded = false; consumers = []; askers = idle_askers h.askers }

-- a disk failed while the call's record was added
pub faulted : (h : Held) (c : ShardCall) (does : Effect) (r : Rec) → h.loaded ≡ true → Answers (view_in h) c (Ok does) → does.records ≡ r ∷ [] → HaveRoom h does.records → Refuses h c refusal.DiskFault (entry_of r) [] (doubting h r)
faulted h c does r on answers is room = inl (record { ready = h; is_ready = is_ready h on; does = does; answers = answers; doubtful = r; is = is; room = room; entry = refl; becomes = refl })

-- ---- loads

-- what is held once a shard has loaded
abbrev pub loaded_as : Held → List Rec → Held
loaded_as h records = record {
  node = h.node;
  image = image_after h.image records;
  doubt = None;
  loaded = true;
  given = 0;
  consumers = [];
  askers = Rattle.std.specs.FinMap.empty;
  end = end_after h.end records;
}

pub loads : (h : Held) (settled : List Rec) → h.loaded ≡ false → IsSettled h.doubt settled → may_open h settled ≡ true → IsReady h (settled ++ next_boot (image_after h.image settled) ∷ []) (loaded_as h (settled ++ next_boot (image_after h.image settled) ∷ []))
loads h settled off is room = record {
  loads = λ _. record { settled = settled; in_or_out = is; room = room; joins = refl; becomes = refl };
  same = λ on. absurd (let wrong : true ≡ false = sym on ∙ off in cc);
}

-- the next opening has no room
pub full : (h : Held) (c : ShardCall) (settled : List Rec) → h.loaded ≡ false → IsSettled h.doubt settled → may_open h settled ≡ false
    → Refuses h c (refusal.JournalFull (end_after h.end settled) (needed (next_boot (image_after h.image settled)))) None [] h
full h c settled off is room = (refl, inr (record { was = off; none = refl; same = refl; why = inl (settled, is, room, refl, refl) }))

-- a disk is too long to be read
pub too_long : (h : Held) (c : ShardCall) (len : ℕ) → h.loaded ≡ false → 2 ^ 40 < len → Refuses h c (refusal.JournalFull len 0) None [] h
too_long h c len off long = (refl, inr (record { was = off; none = refl; same = refl; why = inr (long, refl) }))

-- what a disk holds is no journal
pub bad : (h : Held) (c : ShardCall) (place : ℕ) → h.loaded ≡ false → Refuses h c (refusal.BadJournal place) None [] h
bad h c place off = (refl, record { was = off; none = refl; same = refl })

-- a disk failed before the log was read
pub unread : (h : Held) (c : ShardCall) → h.loaded ≡ false → Refuses h c refusal.DiskFault (entry_in_doubt h.doubt) [] h
unread h c off = inr (record { was = off; entry = refl; result = inl (refl, refl) })

-- what is held once the opening is in doubt
abbrev pub opening : Held → List Rec → Held
opening h settled = record h { image = image_after h.image settled; doubt = Some (next_boot (image_after h.image settled)); end = end_after h.end settled }

-- a disk failed while the opening was added
pub unopened : (h : Held) (c : ShardCall) (settled : List Rec) → h.loaded ≡ false → IsSettled h.doubt settled → may_open h settled ≡ true → Refuses h c refusal.DiskFault None settled (opening h settled)
unopened h c settled off is room = inr (record { was = off; entry = refl; result = inr (is, room, refl) })

-- ---- replies

or_memory : (why : ShardRefusal) (h : Held) (c : ShardCall) (doubted : Option Entry) (records : List Rec) (new : Held) → refused_packets c why ≢ [] → Refuses h c why doubted records new → Refuses h c refusal.NoMemory None records new
or_memory (refusal.Of why) h c doubted records new told r = (refl, inr r.1.is_ready)
or_memory refusal.NoStream h c doubted records new told r = (refl, inr r.1.is_ready)
or_memory (refusal.BadConfig member) h c doubted records new told r = (refl, inr r.1.is_ready)
or_memory refusal.NameTaken h c doubted records new told r = (refl, inr r.1.is_ready)
or_memory refusal.TooManyStreams h c doubted records new told r = (refl, inr r.1.is_ready)
or_memory (refusal.OldAttempt kept seen) h c doubted records new told r = (refl, inr r.1.is_ready)
or_memory refusal.TooManyConsumers h c doubted records new told r = (refl, inr r.1.is_ready)
or_memory refusal.NoMessage h c doubted records new told r = (refl, inr r.1.is_ready)
or_memory (refusal.JournalFull end need) h c doubted records new told r = elim r.1 [
  | inl l ↦ (refl, inr l.is_ready)
  | inr l ↦ (refl, inl (l.same, l.none))
]
or_memory (refusal.BadJournal place) h c doubted records new told r = (refl, inl (r.1.same, r.1.none))
or_memory refusal.NoMemory h c doubted records new told r = (refl, r.1)
or_memory refusal.DiskFault h c doubted records new told r = absurd (told (none-of-fault c))

-- the reply of a refusal, or want of memory for what it would send
abbrev pub Replies : ShardCall → ShardRefusal → Option Entry → ShardReply → Type 0
Replies c why doubted reply = (reply ≡ refused c why doubted) ⊎ ((refused_packets c why ≢ []) × (reply ≡ refused c refusal.NoMemory None))

refuses-step : (h : Held) (c : ShardCall) (why : ShardRefusal) (doubted : Option Entry) (records : List Rec) (new : Held) (reply : ShardReply) → reply ≡ refused c why doubted → Refuses h c why doubted records new → Step h c reply records new
refuses-step h c why doubted records new reply is r = subst (λ (x : ShardReply). Step h c x records new) (sym is) (record { doubted = doubted; replies = refl; refuses = r })

pub refusal-step : (h : Held) (c : ShardCall) (why : ShardRefusal) (doubted : Option Entry) (records : List Rec) (new : Held) (reply : ShardReply) → Replies c why doubted reply → Refuses h c why doubted records new → Step h c reply records new
refusal-step h c why doubted records new reply replies r = elim replies [
  | inl is ↦ refuses-step h c why doubted records new reply is r
  | inr none ↦ refuses-step h c refusal.NoMemory None records new reply none.1 (or_memory why h c doubted records new none.0 r)
]
