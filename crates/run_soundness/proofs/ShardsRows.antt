-- What each row of the table does to the log and to the consumers of a shard.
use Rattle.std.proofs.Common.{◌≡◌, ◌≢◌, ℕ, ◌+◌, ◌-◌, ◌<◌, ◌≤◌, ◌^◌, max, Bool, true, false, cond, not, ◌&&◌, eqb, leb, ltb, List, [], ◌∷◌, length, Option, Some, None, IsSome, append-nil, refl, sym, ap, ◌∙◌, subst, arith, ◌⊎◌, inl, inr}
use Rattle.std.specs.Prelude.{⊤, filter, map, flat_map, count_by, option_map, Contains, Result, Ok, Err, codes}
use Rattle.std.specs.List.{find}
use Rattle.std.specs.Str.{bytes_eq}
use Rattle.std.specs.Cmp.Lexicographic.{bytes_decides}
use Rattle.std.proofs.lemmas.Bool.{eqb-false, ltb-true}
use Rattle.std.proofs.lemmas.List.Elements.{Contains-append_right, Contains-append_cases}
use Rattle.nats_text.specs.Headers.{first_value}
use Rattle.nats_text.specs.declared.message.Message.{Message}
use Rattle.nats_text.specs.declared.message.Stamp.{Stamp}
use Rattle.nats_text.specs.declared.message.Start.{Start}
use Rattle.nats_text.specs.declared.message.Start.TheVariants.{Seq, Time}
use Rattle.js_wire.specs.declared.packet.AskerId.{AskerId}
use Rattle.js_wire.specs.declared.packet.Packet.{Packet}
use Rattle.js_wire.specs.declared.packet.Packet.TheVariants.{Ask, Answer, Refuse, Delivery, Beat, FlowAsk, FlowReply}
use Rattle.stream_fold.specs.declared.config.Config.{Config}
use Rattle.stream_fold.specs.declared.decision.Decision.{Decision}
use Rattle.stream_fold.specs.declared.decision.Reason.TheVariants.{Foreign}
use Rattle.stream_fold.specs.declared.decision.Why.{Why}
use Rattle.stream_fold.specs.declared.decision.Decision.TheVariants.{Store, Bind as Binds, Rebind, Skip, Ignore, AskAgain, Reply, Heard as Hears, Refused as IsRefused, Stop}
use Rattle.stream_fold.specs.declared.entry.Entry.{Entry}
use Rattle.stream_fold.specs.declared.entry.Entry.TheVariants.{Put, Del, Purge, Expire, Limits}
use Rattle.stream_fold.specs.declared.entry.Numbered.{Numbered}
use Rattle.stream_fold.specs.declared.verdict.Refusal.{Refusal}
use Rattle.stream_fold.specs.declared.verdict.Refusal.TheVariants.{WrongLast, WrongSubjectLast, TooLarge, SeqEnd}
use Rattle.stream_fold.specs.declared.verdict.Verdict.{Verdict}
use Rattle.stream_fold.specs.declared.verdict.Verdict.TheVariants.{Fresh, Duplicate as IsDuplicate}
use Rattle.stream_fold.specs.Checking.{config_fault, is_mirror}
use Rattle.stream_fold.specs.Copying.{Follows, IsRightStart, number_since}
use Rattle.stream_fold.specs.RowLists.{EachRow}
use Rattle.stream_fold.proofs.KeptRows.{EachRow-weaker, kept-put, put-positive}
use Rattle.stream_fold.specs.Facts.{StreamFacts, facts, verdict_by_facts, repeat_by_facts}
use Rattle.stream_fold.specs.Histories.{History, put, kept, last, message_at, is_purged, is_expired, NumbersRise}
use Rattle.stream_fold.specs.Publishing.{is_other_number, number_or_0, last_of, content_size, capped, rows_with, is_full, full, later_refusal, earlier_refusal, repeat_or, fresh_or, verdict_behind}
use Rattle.stream_fold.proofs.FactLemmas.{facts-tell}
use Rattle.mirror_core.specs.Entries.{IfEntry}
use Rattle.source_core.specs.Decisions.{at_time}
use Rattle.record_codec.specs.declared.records.Rec.{Rec}
use Rattle.record_codec.specs.declared.records.Rec.TheVariants.{Create, Remove, Of}
use Rattle.push_consumer.specs.declared.wanted.Wanted.{Wanted}
use Rattle.push_consumer.specs.Chains.{Sendings, IsRight, with_rows}
use Rattle.push_consumer.specs.Laws.{answered_to}
use Rattle.push_consumer.specs.Progress.{ConsumerState, new_consumer, beats, beat, beat_at, after_beat, is_awaited}
use Rattle.push_consumer.specs.Pumps.{pumped, pump_packets, pump_rows}
use Rattle.replica_ask.specs.Orders.{same_stamp}
use Rattle.replica_ask.specs.declared.phase.Phase.{Phase}
use Rattle.shard_machine.specs.declared.call.ShardCall.{ShardCall}
use Rattle.shard_machine.specs.declared.call.ShardCall.TheVariants as call
use Rattle.shard_machine.specs.declared.call.Which.{Which}
use Rattle.shard_machine.specs.declared.reply.Outcome.{Outcome}
use Rattle.shard_machine.specs.declared.reply.Outcome.TheVariants as outcome
use Rattle.shard_machine.specs.declared.reply.ShardRefusal.{ShardRefusal}
use Rattle.shard_machine.specs.declared.reply.ShardRefusal.TheVariants as refusal
use Rattle.shard_machine.specs.Logs.{Made, boot, incarnation, live}
use Rattle.shard_machine.specs.Legal.{MayFollow}
use Rattle.shard_machine.specs.Images.{next, LogImage, NameFacts, image, live_in, incarnation_in, live_names, known_of, MayFollowImage}
use Rattle.shard_machine.specs.Views.{View, Effect, Copy, copies_under, all_copies, asks_of, ask_of, reads, writes, sends, asker_of, idle_askers}
use Rattle.shard_machine.specs.Answers.{Answered, Answers, Creates, creates, Updates, removes, reads_stream, publishes, publishes_by, takes_subject, transformed, deletes, purges, expires, below_or_all, gets, row_by, informs, serves, next_name, makes, makes_asked, makes_for, makes_consumer, is_earlier, consumer_start, for_stream, consumers_of, pumps, takes_token, takes_at, takes_reply, paused_for, reaches, copies_of_node, ticks, beats_of, due_copies, addressee, copy_of_asker, decided_by, hears, follows, with_record, flow_answer}
use Rattle.shard_machine.specs.Steps.{Held, has_number}
use Rattle.shard_machine.proofs.Images.{images-tell}
use Rattle.shard_machine.proofs.Legality.{tell-legal}
use Rattle.run_soundness.specs.Shards.{delivered, standing_of, answered_now, just_made, made_by}
use Rattle.run_soundness.specs.Below.{Laws}
use Rattle.run_soundness.proofs.Lists.{Contains-none, Contains-one, Contains-head, map-back, map-on, flat-back, filter-was, filter-pass}
use Rattle.run_soundness.proofs.Stamps.{Apart, Apart-filter, Apart-push, Apart-map, standing-of}
use Rattle.run_soundness.proofs.Logs.{NoBoot, Leaves, same_bytes}
use Rattle.run_soundness.proofs.LogsLegal.{LogOk, MadeOk, MayStand, live-ok, made-rise, fit-bound, fit-keeps}
use Rattle.run_soundness.proofs.Chains.{right-pump, answered-is, pump-own, pump-else, delivered-none, delivered-one}
use Rattle.run_soundness.proofs.ShardsPumps.{IsSentBy, Said, pump-said, pump-put}
use Rattle.run_soundness.proofs.ShardsCopies.{EntryOk, IsCopyOf, copy-under, copy-all, copy-among, heard-copy, decided-ok}
use Rattle.run_soundness.proofs.ShardsAskers.{AskersRow, AskIs, askers-same, askers-idle, askers-under, askers-asked, askers-heard, ask-of-one, asks-nothing, no-records}
use Rattle.run_soundness.proofs.ShardsSent.{asks-none, beats-none, flow-none, append-none, flat-none}

-- ---- what is said of a row

-- A loaded shard that answers by this view has this log: a legal one. Each consumer reads a stream that
-- stands, no two have one name, and none has the next one.
pub record Before (log : List Rec) (v : View) : Type 0 where
  pub image_is : v.image ≡ image log
  pub logs : LogOk log
  pub booted : 1 ≤ boot log
  pub reading : (c : ConsumerState) → Contains v.consumers c → (m : Made) × (live log c.stream ≡ Some m)
  pub apart : Apart v.consumers
  pub fresh : (c : ConsumerState) → Contains v.consumers c → c.name ≢ next_name v

abbrev pub option_list : Option Rec → List Rec
option_list None = []
option_list (Some r) = r ∷ []

-- the records that an answer adds: at most one, which may stand behind the log, is no opening, and leaves the
-- streams of the consumers that stand then
pub record Adds (log : List Rec) (does : Effect) : Type 0 where
  pub one : Option Rec
  pub are : does.records ≡ option_list one
  pub may : (r : Rec) → one ≡ Some r → MayStand log r
  pub no_boot : (r : Rec) → one ≡ Some r → NoBoot r
  pub leaves : (r : Rec) → one ≡ Some r → (c : ConsumerState) → Contains does.consumers c → Leaves r c.stream

-- a consumer that stood before: what never changes of it stays, and what is right for what it has sent stays
-- right with what is delivered in its name
pub record Grew (log : List Rec) (packets : List Packet) (c d : ConsumerState) : Type 0 where
  pub name : d.name ≡ c.name
  pub stream : d.stream ≡ c.stream
  pub wanted : d.wanted ≡ c.wanted
  pub right : (m : Made) (s : Sendings) → live log c.stream ≡ Some m → NumbersRise m.history.entries → IsRight m.history c s → IsRight m.history d (answered_now (Some d) (with_rows s (delivered c.name packets)))

-- a consumer that was made in this answer
pub record IsNew (log : List Rec) (v : View) (does : Effect) (d : ConsumerState) : Type 0 where
  pub now : ℕ
  pub is : d ≡ new_consumer (next_name v) d.stream d.wanted now
  pub given : v.given + 1 ≤ does.given
  pub here : Contains does.consumers d
  pub known : Made
  pub reads_it : live log d.stream ≡ Some known

-- the consumer that was made is the one that an answer tells
pub record IsAnswered (log : List Rec) (made : Option ConsumerState) (asker : AskerId) (attempt consumer : Stamp) (number start : ℕ) : Type 0 where
  pub it : ConsumerState
  pub made_it : made ≡ Some it
  pub name : consumer ≡ it.name
  pub asker_is : asker ≡ it.wanted.asker
  pub attempt_is : attempt ≡ it.wanted.attempt
  pub number_is : number ≡ incarnation log it.stream
  pub start_is : start ≡ it.wanted.start

-- a delivery is one of a consumer that stood, of a row that it sends now, which was put
pub record IsDelivered (log : List Rec) (v : View) (packets : List Packet) (asker : AskerId) (attempt : Stamp) (stream : List ℕ) (consumer : Stamp) (number seq : ℕ) (message : Message) : Type 0 where
  pub it : ConsumerState
  pub stood : Contains v.consumers it
  pub sent : IsSentBy it it.progress.count (delivered it.name packets) asker attempt stream consumer number seq message
  pub origin : Made
  pub reads_it : live log it.stream ≡ Some origin
  pub was_put : put seq origin.history.entries ≡ Some message

-- a beat is one of a consumer that stood
pub record IsBeat (v : View) (asker : AskerId) (attempt : Stamp) (stream : List ℕ) (consumer : Stamp) (number : ℕ) : Type 0 where
  pub it : ConsumerState
  pub stood : Contains v.consumers it
  pub asker_is : asker ≡ it.wanted.asker
  pub attempt_is : attempt ≡ it.wanted.attempt
  pub stream_is : stream ≡ it.stream
  pub name : consumer ≡ it.name
  pub number_is : number ≡ it.progress.count

-- what a packet of a reply says of consumers
abbrev pub Speaks : List Rec → View → List Packet → Option ConsumerState → Packet → Type 0
Speaks log v packets made (Ask asker attempt origin stream start filters) = ⊤
Speaks log v packets made (Answer asker attempt consumer number start) = IsAnswered log made asker attempt consumer number start
Speaks log v packets made (Refuse asker attempt code err_code) = ⊤
Speaks log v packets made (Delivery asker attempt stream consumer number seq pending message) = IsDelivered log v packets asker attempt stream consumer number seq message
Speaks log v packets made (Beat asker attempt origin stream consumer last_number last_seq stalled) = IsBeat v asker attempt stream consumer last_number
Speaks log v packets made (FlowAsk asker attempt origin stream consumer token) = ⊤
Speaks log v packets made (FlowReply origin stream consumer token) = ⊤

-- a consumer was made for the Ask of the call, and its start is right
pub record IsMadeFor (log : List Rec) (called : ShardCall) (d : ConsumerState) : Type 0 where
  pub asker : AskerId
  pub attempt : Stamp
  pub origin : List ℕ
  pub start : Start
  pub filters : List (List ℕ)
  pub now : ℕ
  pub is : called ≡ call.MakeConsumer (Ask asker attempt origin d.stream start filters) now
  pub wanted : d.wanted ≡ record { asker = asker; attempt = attempt; origin = origin; start = d.wanted.start; filters = filters }
  pub begins : (m : Made) → live log d.stream ≡ Some m → IsRightStart m.history start d.wanted.start

-- what becomes of the consumers
pub record Evolves (log : List Rec) (v : View) (called : ShardCall) (does : Effect) : Type 0 where
  pub given : v.given ≤ does.given
  pub made : Option ConsumerState
  pub made_is : (h : Held) → h.consumers ≡ does.consumers → Apart does.consumers → made_by does.reply.outcome h ≡ just_made h.image made
  pub new : (d : ConsumerState) → made ≡ Some d → IsNew log v does d
  pub asked : (d : ConsumerState) → made ≡ Some d → IsMadeFor log called d
  pub back : (d : ConsumerState) → Contains does.consumers d → ((c : ConsumerState) × Contains v.consumers c × Grew log does.reply.packets c d) ⊎ (made ≡ Some d)
  pub apart : Apart does.consumers
  pub none : (name : Stamp) → ((d : ConsumerState) → Contains does.consumers d → d.name ≢ name) → delivered name does.reply.packets ≡ []
  pub speaks : (p : Packet) → Contains does.reply.packets p → Speaks log v does.reply.packets made p

pub record Row (log : List Rec) (v : View) (called : ShardCall) (does : Effect) : Type 0 where
  pub adds : Adds log does
  pub evolves : Evolves log v called does
  pub askers : AskersRow v called does

-- ---- consumers

-- with the token that the consumer has answered
answered-by : (h : History) (d : ConsumerState) (s other : Sendings) → other.sent ≡ s.sent → IsRight h d other → answered_now (Some d) s ≡ other
answered-by h d s other same right = λ i. record { sent = sym same i; answered = right.stands.answer i }

-- what leaves a consumer right that sends nothing
abbrev StaysRight : ConsumerState → ConsumerState → Type 0
StaysRight c d = (h : History) (s : Sendings) → IsRight h c s → (other : Sendings) × (other.sent ≡ s.sent) × IsRight h d other

still-right : (c : ConsumerState) → StaysRight c c
still-right c h s ok = (s, refl, ok)

-- a consumer in whose name nothing is delivered
grew-still : (log : List Rec) (packets : List Packet) (c d : ConsumerState) → delivered c.name packets ≡ [] → d.name ≡ c.name → d.stream ≡ c.stream → d.wanted ≡ c.wanted → StaysRight c d → Grew log packets c d
grew-still log packets c d none n st w f = record {
  name = n;
  stream = st;
  wanted = w;
  right = λ m s l rise ok.
      let r = f m.history s ok in
      subst (λ (rows : List Numbered). IsRight m.history d (answered_now (Some d) (with_rows s rows))) (sym none)
      (subst (IsRight m.history d) (sym (answered-by m.history d s r.0 r.1 r.2)) r.2);
}

grew-same : (log : List Rec) (packets : List Packet) (c : ConsumerState) → delivered c.name packets ≡ [] → Grew log packets c c
grew-same log packets c none = grew-still log packets c c none refl refl refl (still-right c)

no_made : (P : ConsumerState → Type 0) (d : ConsumerState) → None ≡ Some d → P d
no_made P d e = absurd (cc)

-- a change of a consumer that leaves what never changes, and leaves it right
record Changes (f : ConsumerState → ConsumerState) : Type 0 where
  name : (c : ConsumerState) → (f c).name ≡ c.name
  stream : (c : ConsumerState) → (f c).stream ≡ c.stream
  wanted : (c : ConsumerState) → (f c).wanted ≡ c.wanted
  right : (c : ConsumerState) → StaysRight c (f c)

-- a beat, where it is time
beat_list_of : Option Packet → List Packet
beat_list_of None = []
beat_list_of (Some packet) = packet ∷ []

-- an answer that makes no consumer, and delivers nothing
record IsQuiet (log : List Rec) (v : View) (does : Effect) : Type 0 where
  given : v.given ≤ does.given
  makes : (h : Held) → made_by does.reply.outcome h ≡ []
  none : (name : Stamp) → delivered name does.reply.packets ≡ []
  speaks : (p : Packet) → Contains does.reply.packets p → Speaks log v does.reply.packets None p

-- nothing is sent
quiet-none : (log : List Rec) (v : View) (does : Effect) → v.given ≤ does.given → ((h : Held) → made_by does.reply.outcome h ≡ []) → does.reply.packets ≡ [] → IsQuiet log v does
quiet-none log v does given makes none = record {
  given = given;
  makes = makes;
  none = λ name. ap (delivered name) none;
  speaks = λ p q. absurd (Contains-none p (subst (λ (l : List Packet). Contains l p) none q));
}

-- a flow request is answered
flow-speaks : (log : List Rec) (v : View) (packets : List Packet) (packet p : Packet) → Contains (flow_answer packet) p → Speaks log v packets None p
flow-speaks log v packets (Ask asker attempt origin stream start filters) p q = absurd (Contains-none p q)
flow-speaks log v packets (Answer asker attempt consumer number start) p q = absurd (Contains-none p q)
flow-speaks log v packets (Refuse asker attempt code err_code) p q = absurd (Contains-none p q)
flow-speaks log v packets (Delivery asker attempt stream consumer number seq pending message) p q = absurd (Contains-none p q)
flow-speaks log v packets (Beat asker attempt origin stream consumer last_number last_seq None) p q = absurd (Contains-none p q)
flow-speaks log v packets (Beat asker attempt origin stream consumer last_number last_seq (Some token)) p q = subst (Speaks log v packets None) (Contains-one (FlowReply origin stream consumer token) p q) tt
flow-speaks log v packets (FlowAsk asker attempt origin stream consumer token) p q = subst (Speaks log v packets None) (Contains-one (FlowReply origin stream consumer token) p q) tt
flow-speaks log v packets (FlowReply origin stream consumer token) p q = absurd (Contains-none p q)

-- a beat
beat-speaks : (log : List Rec) (v : View) (packets : List Packet) (c : ConsumerState) (now : ℕ) (p : Packet) → Contains v.consumers c → Contains (beat_list_of (beat_at now c)) p → Speaks log v packets None p
unfolding beat_list_of
beat-speaks log v packets c now p stood q = by (beats now c) q
  where
    by : (t : Bool) → Contains (beat_list_of (cond t (Some (beat c)) None)) p → Speaks log v packets None p
    by true r = subst (Speaks log v packets None) (Contains-one (beat c) p r) (record { it = c; stood = stood; asker_is = refl; attempt_is = refl; stream_is = refl; name = refl; number_is = refl })
    by false r = absurd (Contains-none p r)

beats-speak : (log : List Rec) (v : View) (packets : List Packet) (now : ℕ) (name : List ℕ) (p : Packet) → Contains (beats_of v now name) p → Speaks log v packets None p
unfolding beat_list_of
beats-speak log v packets now name p q =
    let w = flat-back (λ (c : ConsumerState). beat_list_of (beat_at now c)) (consumers_of name v.consumers) p q in
    beat-speaks log v packets w.of now p (filter-was (reads_stream name) v.consumers w.of w.here) w.part

asks-speak : (log : List Rec) (v : View) (packets : List Packet) (w : View) (copies : List Copy) (p : Packet) → Contains (asks_of w copies) p → Speaks log v packets None p
asks-speak log v packets w copies p q = let i = map-back (ask_of w) copies p q in subst (Speaks log v packets None) i.is tt

-- copies ask
quiet-asks : (log : List Rec) (v : View) (does : Effect) (w : View) (copies : List Copy) → v.given ≤ does.given → ((h : Held) → made_by does.reply.outcome h ≡ []) → does.reply.packets ≡ asks_of w copies → IsQuiet log v does
quiet-asks log v does w copies given made asks = record {
  given = given;
  makes = made;
  none = λ name. ap (delivered name) asks ∙ asks-none name w copies;
  speaks = λ p q. (let i = map-back (ask_of w) copies p (subst (λ (l : List Packet). Contains l p) asks q) in subst (Speaks log v does.reply.packets None) i.is tt);
}

-- each consumer changes so
evolves-map : (log : List Rec) (v : View) (called : ShardCall) (does : Effect) (f : ConsumerState → ConsumerState) → Apart v.consumers → does.consumers ≡ map f v.consumers → IsQuiet log v does → Changes f → Evolves log v called does
evolves-map log v called does f apart are q c = record {
  given = q.given;
  made = None;
  made_is = λ h same a. q.makes h;
  new = λ d e. no_made (IsNew log v does) d e;
  asked = λ d e. no_made (IsMadeFor log called) d e;
  back = λ d here. let w = map-back f v.consumers d (subst (λ (l : List ConsumerState). Contains l d) are here) in
      inl (w.of, w.here, subst (Grew log does.reply.packets w.of) w.is (grew-still log does.reply.packets w.of (f w.of) (q.none w.of.name) (c.name w.of) (c.stream w.of) (c.wanted w.of) (c.right w.of)));
  apart = subst Apart (sym are) (Apart-map f c.name v.consumers apart);
  none = λ name h. q.none name;
  speaks = q.speaks;
}

-- some consumers go
evolves-filter : (log : List Rec) (v : View) (called : ShardCall) (does : Effect) (p : ConsumerState → Bool) → Apart v.consumers → does.consumers ≡ filter p v.consumers → IsQuiet log v does → Evolves log v called does
evolves-filter log v called does p apart are q = record {
  given = q.given;
  made = None;
  made_is = λ h same a. q.makes h;
  new = λ d e. no_made (IsNew log v does) d e;
  asked = λ d e. no_made (IsMadeFor log called) d e;
  back = λ d here. inl (d, filter-was p v.consumers d (subst (λ (l : List ConsumerState). Contains l d) are here), grew-same log does.reply.packets d (q.none d.name));
  apart = subst Apart (sym are) (Apart-filter p v.consumers apart);
  none = λ name h. q.none name;
  speaks = q.speaks;
}

-- the consumers stay
evolves-same : (log : List Rec) (v : View) (called : ShardCall) (does : Effect) → Apart v.consumers → does.consumers ≡ v.consumers → IsQuiet log v does → Evolves log v called does
evolves-same log v called does apart are q = record {
  given = q.given;
  made = None;
  made_is = λ h same a. q.makes h;
  new = λ d e. no_made (IsNew log v does) d e;
  asked = λ d e. no_made (IsMadeFor log called) d e;
  back = λ d here. inl (d, subst (λ (l : List ConsumerState). Contains l d) are here, grew-same log does.reply.packets d (q.none d.name));
  apart = subst Apart (sym are) apart;
  none = λ name h. q.none name;
  speaks = q.speaks;
}

-- a consumer is made, in place of others
evolves-made : (log : List Rec) (v : View) (called : ShardCall) (now : ℕ) (known : NameFacts) (name : List ℕ) (what : Wanted) (m : Made) → Before log v → live log name ≡ Some m → known.incarnation ≡ incarnation log name → IsMadeFor log called (new_consumer (next_name v) name what now) → Evolves log v called (makes_consumer v now known name what)
evolves-made log v called now known name what m b l inc for =
    let d : ConsumerState = new_consumer (next_name v) name what now in
    let p : ConsumerState → Bool = λ c. not (serves name what.asker c) in
    let does : Effect = makes_consumer v now known name what in
    let among : Contains does.consumers d = Contains-append_right (filter p v.consumers) (d ∷ []) d (Contains-head d []) in
    record {
      given = omega arith;
      made = Some d;
      made_is = λ h same apart.
          ap (just_made h.image) (ap (λ (l : List ConsumerState). standing_of l (next_name v)) same
          ∙ standing-of does.consumers d apart among);
      new = λ x e. (let same : d ≡ x = cc in subst (IsNew log v does) same (record { now = now; is = refl; given = omega arith; here = among; known = m; reads_it = l }));
      asked = λ x e. (let same : d ≡ x = cc in subst (IsMadeFor log called) same for);
      back = λ x q. elim (Contains-append_cases (filter p v.consumers) (d ∷ []) x q) [
        | inl old ↦ inl (x, filter-was p v.consumers x old, grew-same log does.reply.packets x refl)
        | inr own ↦ inr (ap Some (Contains-one d x own))
      ];
      apart = Apart-push (filter p v.consumers) d (Apart-filter p v.consumers b.apart) (λ c q. b.fresh c (filter-was p v.consumers c q));
      none = λ n h. refl;
      speaks = λ x q. subst (Speaks log v does.reply.packets (Some d)) (Contains-one (Answer what.asker what.attempt (next_name v) known.incarnation what.start) x q)
          (record { it = d; made_it = refl; name = refl; asker_is = refl; attempt_is = refl; number_is = inc; start_is = refl });
    }

-- ---- a pump

pumped_if : Bool → List Numbered → ℕ → ℕ → ConsumerState → ConsumerState
pumped_if t rows budget now c = cond t (pumped rows budget now c) c

pumped-name : (t : Bool) (rows : List Numbered) (budget now : ℕ) (c : ConsumerState) → (pumped_if t rows budget now c).name ≡ c.name
unfolding pumped_if
pumped-name true rows budget now c = refl
pumped-name false rows budget now c = refl

-- one consumer of several over a pump, by whether it reads the stream
grew-pumps : Laws → (log : List Rec) (packets : List Packet) (name : List ℕ) (m : Made) (c : ConsumerState) (budget now : ℕ) (t : Bool) → reads_stream name c ≡ t → live log name ≡ Some m →
    delivered c.name packets ≡ cond t (pump_rows (kept m.history) budget c) [] → Grew log packets c (pumped_if t (kept m.history) budget now c)
unfolding pumped_if
grew-pumps laws log packets name m c budget now true reads l sent = record {
  name = refl;
  stream = refl;
  wanted = refl;
  right = λ k s here rise ok.
      let rows : List Numbered = pump_rows (kept m.history) budget c in
      let same : m ≡ k = (let q : Some m ≡ Some k = sym l ∙ (ap (live log) (sym (same_bytes c.stream name reads)) ∙ here) in cc) in
      let before : IsRight m.history c s = subst (λ (x : Made). IsRight x.history c s) (sym same) ok in
      let after : IsRight m.history (pumped (kept m.history) budget now c) (with_rows s rows) = right-pump laws m.history c s budget now (subst (λ (x : Made). NumbersRise x.history.entries) (sym same) rise) before in
      subst (λ (x : Made). IsRight x.history (pumped (kept m.history) budget now c) (answered_now (Some (pumped (kept m.history) budget now c)) (with_rows s (delivered c.name packets)))) same
      (subst (λ (r : List Numbered). IsRight m.history (pumped (kept m.history) budget now c) (answered_now (Some (pumped (kept m.history) budget now c)) (with_rows s r))) (sym sent)
      (subst (IsRight m.history (pumped (kept m.history) budget now c)) (sym (answered-is m.history (pumped (kept m.history) budget now c) (with_rows s rows) after)) after));
}
grew-pumps laws log packets name m c budget now false reads l sent = grew-same log packets c sent

-- a packet of a pump
pump-speaks : Laws → (log : List Rec) (v : View) (packets : List Packet) (m : Made) (c : ConsumerState) (budget : ℕ) (p : Packet) → Contains v.consumers c → live log c.stream ≡ Some m → delivered c.name packets ≡ pump_rows (kept m.history) budget c → MadeOk c.stream m →
    Said c c.progress.count (pump_rows (kept m.history) budget c) p → Speaks log v packets None p
pump-speaks laws log v packets m c budget (Ask asker attempt origin stream start filters) stood l own ok said = tt
pump-speaks laws log v packets m c budget (Answer asker attempt consumer number start) stood l own ok said = absurd said
pump-speaks laws log v packets m c budget (Refuse asker attempt code err_code) stood l own ok said = tt
pump-speaks laws log v packets m c budget (Delivery asker attempt stream consumer number seq pending message) stood l own ok said = record {
  it = c;
  stood = stood;
  sent = subst (λ (r : List Numbered). IsSentBy c c.progress.count r asker attempt stream consumer number seq message) (sym own) said;
  origin = m;
  reads_it = l;
  was_put = pump-put laws m.history c budget said.place (record { seq = seq; message = message }) (made-rise laws c.stream m ok) said.row;
}
pump-speaks laws log v packets m c budget (Beat asker attempt origin stream consumer last_number last_seq stalled) stood l own ok said = absurd said
pump-speaks laws log v packets m c budget (FlowAsk asker attempt origin stream consumer token) stood l own ok said = tt
pump-speaks laws log v packets m c budget (FlowReply origin stream consumer token) stood l own ok said = tt

evolves-pumps : Laws → (log : List Rec) (v : View) (called : ShardCall) (name : List ℕ) (m : Made) (rows : List Numbered) (budget now : ℕ) → Before log v → live log name ≡ Some m → rows ≡ kept m.history →
    Evolves log v called (sends v (flat_map (pump_packets rows budget) (consumers_of name v.consumers)) (for_stream name (pumped rows budget now) v.consumers) v.askers)
unfolding pumped_if
evolves-pumps laws log v called name m rows budget now b l same =
    let f : ConsumerState → ConsumerState = λ c. pumped_if (reads_stream name c) rows budget now c in
    let g : ConsumerState → List Packet = pump_packets rows budget in
    let packets : List Packet = flat_map g (consumers_of name v.consumers) in
    record {
      given = omega arith;
      made = None;
      made_is = λ h e a. refl;
      new = λ d e. no_made (IsNew log v (sends v packets (for_stream name (pumped rows budget now) v.consumers) v.askers)) d e;
      asked = λ d e. no_made (IsMadeFor log called) d e;
      back = λ d here. let w = map-back f v.consumers d here in
          inl (
            w.of,
            w.here,
            subst (Grew log packets w.of) (ap (λ r. pumped_if (reads_stream name w.of) r budget now w.of) (sym same) ∙ w.is)
                (grew-pumps laws log packets name m w.of budget now (reads_stream name w.of) refl l
                (delivered-one (reads_stream name) g w.of.name (λ d f. pump-else w.of.name d rows budget f) v.consumers w.of b.apart w.here refl
                ∙ ap (λ r. cond (reads_stream name w.of) r []) (pump-own w.of rows budget ∙ ap (λ r. pump_rows r budget w.of) same))),
          );
      apart = Apart-map f (λ c. pumped-name (reads_stream name c) rows budget now c) v.consumers b.apart;
      none = λ n h. delivered-none (reads_stream name) g n (λ d f. pump-else n d rows budget f) v.consumers
          (λ c q e. h (f c) (map-on f v.consumers c q) (pumped-name (reads_stream name c) rows budget now c ∙ e));
      speaks = λ p q.
          (let w = flat-back g (consumers_of name v.consumers) p q in
          let it = w.of in
          let stood : Contains v.consumers it = filter-was (reads_stream name) v.consumers it w.here in
          let reads : reads_stream name it ≡ true = filter-pass (reads_stream name) v.consumers it w.here in
          let own : delivered it.name packets ≡ pump_rows rows budget it =
          delivered-one (reads_stream name) g it.name (λ d f. pump-else it.name d rows budget f) v.consumers it b.apart stood refl
          ∙ (ap (λ t. cond t (delivered it.name (g it)) []) reads ∙ pump-own it rows budget) in
          pump-speaks laws log v packets m it budget p stood (ap (live log) (same_bytes it.stream name reads) ∙ l) (own ∙ ap (λ r. pump_rows r budget it) same) (subst (λ n. MadeOk n m) (sym (same_bytes it.stream name reads)) (live-ok log name m b.logs l))
          (subst (λ (r : List Numbered). Said it it.progress.count (pump_rows r budget it) p) same (pump-said it rows budget p w.part)));
    }

-- ---- where a consumer starts

since-positive : (moment : ℕ) (rows : List Numbered) (end : ℕ) → EachRow (λ r. 1 ≤ r.seq) rows → 1 ≤ end → 1 ≤ number_since moment rows end
since-positive moment [] end h le = le
since-positive moment (row ∷ rows) end h le = by (leb moment row.message.time) (since-positive moment rows end h.1 le)
  where
    by : (t : Bool) → 1 ≤ number_since moment rows end → 1 ≤ cond t row.seq (number_since moment rows end)
    by true q = h.0
    by false q = q

kept-positive : (h : History) → NumbersRise h.entries → EachRow (λ r. 1 ≤ r.seq) (kept h)
kept-positive h rise = EachRow-weaker (λ r. put r.seq h.entries ≡ Some r.message) (λ r. 1 ≤ r.seq) (λ r q. put-positive h.entries r.seq r.message rise q) (kept h) (kept-put h rise)

max_one : (n : ℕ) → 1 ≤ n → max 1 n ≡ n
max_one n le = omega arith

right-start : (h : History) (start : Start) → NumbersRise h.entries → IsRightStart h start (consumer_start (facts h) start)
right-start h (Seq n) rise = refl
right-start h (Time moment) rise =
    let rows_is : (facts h).rows ≡ kept h = (facts-tell h).rows in
    let last_is : (facts h).last ≡ last h.entries = (facts-tell h).last in
    let same : number_since moment (facts h).rows ((facts h).last + 1) ≡ number_since moment (kept h) (last h.entries + 1) =
    ap (λ (r : List Numbered). number_since moment r ((facts h).last + 1)) rows_is ∙ ap (λ n. number_since moment (kept h) (n + 1)) last_is in
    record {
      front = h.entries;
      rest = [];
      whole = sym (append-nil h.entries);
      is = ap (max 1) same ∙ max_one (number_since moment (kept h) (last h.entries + 1)) (since-positive moment (kept h) (last h.entries + 1) (kept-positive h rise) (omega arith));
    }

-- ---- records

-- a call is answered, or refused
abbrev fine : Effect → Answered
fine does = Ok does

abbrev turned : ShardRefusal → Answered
turned why = Err why

-- a message that is kept goes
if_kept : View → List ℕ → NameFacts → ℕ → Option Message → Answered
if_kept v name known seq None = Err refusal.NoMessage
if_kept v name known seq (Some m) = Ok (writes v name known.stream (Del seq) outcome.Deleted)

-- a message is shown where it was found
if_found : View → Option Numbered → Answered
if_found v None = Err refusal.NoMessage
if_found v (Some row) = Ok (reads v (outcome.Found row))

module _ (log : List Rec) (v : View) (b : Before log v) where
  -- what is known of a stream that stands, by its log
  pub live-known : (name : List ℕ) (known : NameFacts) → live_in v.image name ≡ Some known → (m : Made) × (live log name ≡ Some m) × (known_of (incarnation log name) m ≡ known)
  live-known name known e = by (live log name) refl (sym ((images-tell log).live name) ∙ (ap (λ i. live_in i name) (sym b.image_is) ∙ e))
    where
      by : (o : Option Made) → live log name ≡ o → option_map (known_of (incarnation log name)) o ≡ Some known → (m : Made) × (live log name ≡ Some m) × (known_of (incarnation log name) m ≡ known)
      by None l f = absurd (cc)
      by (Some m) l f = (m, l, (cc))

module _ (laws : Laws) (log : List Rec) (v : View) (b : Before log v) (called : ShardCall) where
  may-by-image : (r : Rec) → MayFollowImage v.image r → MayFollow log r
  may-by-image r may = (tell-legal log r).0 (subst (λ i. MayFollowImage i r) b.image_is may)

  booted-image : 1 ≤ v.image.boot
  booted-image = subst (λ n. 1 ≤ n) (sym ((images-tell log).boot) ∙ ap (λ (i : LogImage). i.boot) (sym b.image_is)) b.booted

  -- nothing joins the log
  adds-none : (does : Effect) → does.records ≡ [] → Adds log does
  adds-none does e = record { one = None; are = e; may = λ r f. absurd (cc); no_boot = λ r f. absurd (cc); leaves = λ r f. absurd (cc) }

  -- an entry joins the history of a stream that stands
  adds-entry : (does : Effect) (name : List ℕ) (known : NameFacts) (e : Entry) → does.records ≡ Of name e ∷ [] → live_in v.image name ≡ Some known → EntryOk known.stream e → Adds log does
  adds-entry does name known e are here ok =
      let k = live-known log v b name known here in
      let f_is : facts k.0.history ≡ known.stream = ap (λ (x : NameFacts). x.stream) k.2 in
      record {
        one = Some (Of name e);
        are = are;
        may = λ r same. (let is : Of name e ≡ r = cc in subst (MayStand log) is (record {
          follows = may-by-image (Of name e) (booted-image, known, here, record { fits = ok.fits; faultless = ok.faultless });
          number = λ name2 e2 m is2 l no.
              (let names : name ≡ name2 = cc in
              let entries : e ≡ e2 = cc in
              let same_made : k.0 ≡ m = (let s : Some k.0 ≡ Some m = sym k.1 ∙ (ap (live log) names ∙ l) in cc) in
              let tell = facts-tell k.0.history in
              let limits : known.stream.config.copies ≡ m.history.config.copies =
              ap (λ (x : StreamFacts). x.config.copies) (sym f_is) ∙ (ap (λ (x : Config). x.copies) tell.limits
              ∙ ((fit-keeps k.0.history (live-ok log name k.0 b.logs k.1).fit).copies ∙ ap (λ (x : Made). x.history.config.copies) same_made)) in
              let lasts : known.stream.last ≡ last m.history.entries =
              ap (λ (x : StreamFacts). x.last) (sym f_is) ∙ (tell.last ∙ ap (λ (x : Made). last x.history.entries) same_made) in
              subst (λ n. Follows n e2) lasts (subst (Follows known.stream.last) entries (ok.number (ap is_mirror limits ∙ no))));
        }));
        no_boot = λ r same. (let is : Of name e ≡ r = cc in subst NoBoot is tt);
        leaves = λ r same c q. (let is : Of name e ≡ r = cc in subst (λ x. Leaves x c.stream) is tt);
      }

  adds-create : (does : Effect) (c : Config) (now : ℕ) → does.records ≡ Create now c ∷ [] → does.consumers ≡ v.consumers → config_fault c ≡ None → live_in v.image c.name ≡ None → has_number v.image (Create now c) ≡ true → Adds log does
  adds-create does c now are same fault free number =
      let follows : MayFollow log (Create now c) = may-by-image (Create now c) (booted-image, record { free = free; faultless = fault; number = ltb-true (incarnation_in v.image c.name + 1) (2 ^ 63) number }) in
      record {
        one = Some (Create now c);
        are = are;
        may = λ r e. (let is : Create now c ≡ r = cc in subst (MayStand log) is (record { follows = follows; number = λ name2 e2 m is2 l no. absurd (cc) }));
        no_boot = λ r e. (let is : Create now c ≡ r = cc in subst NoBoot is tt);
        leaves = λ r e k q. (let is : Create now c ≡ r = cc in subst (λ x. Leaves x k.stream) is
            (λ named. let w = b.reading k (subst (λ (l : List ConsumerState). Contains l k) same q) in
            let z : None ≡ Some w.0 = sym follows.1.free ∙ (ap (live log) named ∙ w.1) in cc));
      }

  not_reads : (name : List ℕ) (c : ConsumerState) → not (reads_stream name c) ≡ true → name ≢ c.stream
  not_reads name c t e = (let yes : reads_stream name c ≡ true = (bytes_decides c.stream name).1 (sym e) in let z : false ≡ true = ap not (sym yes) ∙ t in cc)

  adds-remove : (does : Effect) (name : List ℕ) (known : NameFacts) → does.records ≡ Remove name ∷ [] → does.consumers ≡ filter (λ c. not (reads_stream name c)) v.consumers → live_in v.image name ≡ Some known → Adds log does
  adds-remove does name known are same here = record {
    one = Some (Remove name);
    are = are;
    may = λ r e. (let is : Remove name ≡ r = cc in subst (MayStand log) is (record { follows = may-by-image (Remove name) (booted-image, subst IsSome (sym here) refl); number = λ name2 e2 m is2 l no. absurd (cc) }));
    no_boot = λ r e. (let is : Remove name ≡ r = cc in subst NoBoot is tt);
    leaves = λ r e c q. (let is : Remove name ≡ r = cc in subst (λ x. Leaves x c.stream) is
        (not_reads name c (filter-pass (λ x. not (reads_stream name x)) v.consumers c (subst (λ (l : List ConsumerState). Contains l c) same q))));
  }

  -- ---- row by row

  same_Ok : (x y : Effect) → fine x ≡ fine y → x ≡ y
  same_Ok x y e = cc

  -- a call that reads
  row-reads : (o : Outcome) → ((h : Held) → made_by o h ≡ []) → Row log v called (reads v o)
  row-reads o makes = record { adds = adds-none (reads v o) refl; evolves = evolves-same log v called (reads v o) b.apart refl (quiet-none log v (reads v o) (omega arith) makes refl); askers = askers-same v called (reads v o) refl (no-records (reads v o) refl) (asks-nothing v (reads v o) refl) }

  -- a call that writes an entry
  row-writes : (name : List ℕ) (known : NameFacts) (e : Entry) (o : Outcome) → ((h : Held) → made_by o h ≡ []) → live_in v.image name ≡ Some known → EntryOk known.stream e → Row log v called (writes v name known.stream e o)
  row-writes name known e o makes here ok = record {
    adds = adds-entry (writes v name known.stream e o) name known e refl here ok;
    evolves = evolves-same log v called (writes v name known.stream e o) b.apart refl (quiet-none log v (writes v name known.stream e o) (omega arith) makes refl);
    askers = askers-same v called (writes v name known.stream e o) refl (λ t c x. cc) (asks-nothing v (writes v name known.stream e o) refl);
  }

  -- an entry that takes something, or none
  row-takes : (does : Effect) (name : List ℕ) (known : NameFacts) (e : Entry) (count : ℕ) (o : Outcome) (t : Bool) → ((h : Held) → made_by o h ≡ []) → live_in v.image name ≡ Some known → EntryOk known.stream e →
      fine does ≡ cond t (fine (reads v o)) (fine (writes v name known.stream e o)) → Row log v called does
  row-takes does name known e count o true makes here ok q = subst (Row log v called) (sym (same_Ok does (reads v o) q)) (row-reads o makes)
  row-takes does name known e count o false makes here ok q = subst (Row log v called) (sym (same_Ok does (writes v name known.stream e o) q)) (row-writes name known e o makes here ok)

  create-askers : (c : Config) (now : ℕ) → AskersRow v called (creates v c now)
  create-askers c now =
      let i : LogImage = next v.image (Create now c) in
      let copies : List Copy = copies_under i c.name in
      let are : (k : Copy) → Contains copies k → IsCopyOf i k = λ k q. copy-under i c.name k q in
      let sent : (k : Copy) → Contains copies k → Contains (creates v c now).reply.packets (ask_of v k) = λ k q. map-on (ask_of v) copies k q in
      askers-asked v called (creates v c now) now copies are refl sent
      (λ p q. let w = map-back (ask_of v) copies p q in subst (AskIs v (creates v c now)) w.is (ask-of-one v called (creates v c now) now copies are refl sent w.of w.here))
      (λ t config e k is n. let same : c ≡ config = cc in subst (λ name. Contains (copies_under i name) k) (n ∙ ap (λ (x : Config). x.name) (sym same)) (copy-among i k is))

  row-create : (c : Config) (now : ℕ) → config_fault c ≡ None → live_in v.image c.name ≡ None → has_number v.image (Create now c) ≡ true → Row log v called (creates v c now)
  row-create c now fault free number = record {
    adds = adds-create (creates v c now) c now refl refl fault free number;
    evolves = evolves-same log v called (creates v c now) b.apart refl (quiet-asks log v (creates v c now) (with_record v (Create now c)) (copies_under (with_record v (Create now c)).image c.name) (omega arith) (λ h. refl) refl);
    askers = create-askers c now;
  }

  new_by : (does : Effect) (c : Config) (now : ℕ) (t : Bool) → ((r : Rec) → does.records ≡ r ∷ [] → has_number v.image r ≡ true) → config_fault c ≡ None → live_in v.image c.name ≡ None →
      fine does ≡ cond t (turned refusal.TooManyStreams) (fine (creates v c now)) → Row log v called does
  new_by does c now true number fault free q = absurd (cc)
  new_by does c now false number fault free q =
      let same = same_Ok does (creates v c now) q in
      subst (Row log v called) (sym same) (row-create c now fault free (number (Create now c) (ap (λ (x : Effect). x.records) same)))

  create_by : (does : Effect) (c : Config) (now : ℕ) (fault : Option (List ℕ)) (o : Option NameFacts) → ((r : Rec) → does.records ≡ r ∷ [] → has_number v.image r ≡ true) → config_fault c ≡ fault → live_in v.image c.name ≡ o → Creates v c now fault o (Ok does) → Row log v called does
  create_by does c now (Some member) o number e f a = absurd (cc)
  create_by does c now None (Some known) number e f a = elim a [
    | inl same ↦ subst (Row log v called) (sym (same_Ok does (reads v (outcome.Made false)) same.1)) (row-reads (outcome.Made false) (λ h. refl))
    | inr other ↦ (let z = other.1 in absurd (cc))
  ]
  create_by does c now None None number e f a = new_by does c now (leb 256 (length (live_names v.image))) number e f a

  update_by : (does : Effect) (c : Config) (fault : Option (List ℕ)) (o : Option NameFacts) → config_fault c ≡ fault → live_in v.image c.name ≡ o → Updates v c fault o (Ok does) → Row log v called does
  update_by does c fault None e f a = absurd (cc)
  update_by does c (Some member) (Some known) e f a = absurd (cc)
  update_by does c None (Some known) e f a = elim a [
    | inl keeps ↦ subst (Row log v called) (sym (same_Ok does (writes v c.name known.stream (Limits c) outcome.Updated) keeps.1))
        (row-writes c.name known (Limits c) outcome.Updated (λ h. refl) f (record { fits = keeps.0; faultless = e; number = λ no. tt }))
    | inr changes ↦ (let z = changes.1 in absurd (cc))
  ]

  remove_by : (does : Effect) (name : List ℕ) (o : Option NameFacts) → live_in v.image name ≡ o → fine does ≡ removes v name o → Row log v called does
  remove_by does name None f a = absurd (cc)
  remove_by does name (Some known) f a =
      let p : ConsumerState → Bool = λ c. not (reads_stream name c) in
      let same = same_Ok does _ a in
      subst (Row log v called) (sym same) (record {
        adds = adds-remove _ name known refl refl f;
        evolves = evolves-filter log v called _ p b.apart refl (quiet-none log v _ (omega arith) (λ h. refl) refl);
        askers = askers-under v called _ name refl (λ t c x. cc) (asks-nothing v _ refl);
      })

  -- ---- messages

  fresh-end : (o : Option Refusal) → fresh_or o ≡ Ok Fresh → o ≡ None
  fresh-end None e = refl
  fresh-end (Some r) e = absurd (cc)

  repeat-end : (o : Option ℕ) (r : Option Refusal) → repeat_or o r ≡ Ok Fresh → r ≡ None
  repeat-end None r e = fresh-end r e
  repeat-end (Some n) r e = absurd (cc)

  verdict-end : (o : Option Refusal) (n : Option ℕ) (r : Option Refusal) → verdict_behind o n r ≡ Ok Fresh → r ≡ None
  verdict-end None n r e = repeat-end n r e
  verdict-end (Some w) n r e = absurd (cc)

  -- the fourth of four tests, where none is met
  fourth : (a b c d : Bool) (w x y z : Refusal) (o : Option Refusal) → cond a (Some w) (cond b (Some x) (cond c (Some y) (cond d (Some z) o))) ≡ None → d ≡ false
  fourth true b c d w x y z o e = absurd (cc)
  fourth false true c d w x y z o e = absurd (cc)
  fourth false false true d w x y z o e = absurd (cc)
  fourth false false false true w x y z o e = absurd (cc)
  fourth false false false false w x y z o e = refl

  -- a publish that is new doesn't stand at the end of all numbers
  fresh-last : (f : StreamFacts) (m : Message) (now : ℕ) → verdict_by_facts f m now ≡ Ok Fresh → eqb f.last (2 ^ 63 - 1) ≡ false
  fresh-last f m now e =
      fourth
      (is_other_number f.last (first_value (codes "Nats-Expected-Last-Sequence") m.headers))
      (is_other_number (number_or_0 (last_of m.subject f.rows)) (first_value (codes "Nats-Expected-Last-Subject-Sequence") m.headers))
      (not (eqb f.config.max_msg_size 0) && ltb f.config.max_msg_size (content_size m))
      (eqb f.last (2 ^ 63 - 1))
      (WrongLast f.last) (WrongSubjectLast (number_or_0 (last_of m.subject f.rows))) (TooLarge (capped (content_size m)) f.config.max_msg_size) SeqEnd
      (cond (is_full f.config (rows_with f.config m f.rows f.last)) (Some (full (rows_with f.config m f.rows f.last))) None)
      (verdict-end (earlier_refusal f.config m) (repeat_by_facts f (first_value (codes "Nats-Msg-Id") m.headers) now) (later_refusal f.config m f.rows f.last) e)

  publish_by : (does : Effect) (name : List ℕ) (known : NameFacts) (m : Message) (now : ℕ) (r : Result Verdict Refusal) → live_in v.image name ≡ Some known → verdict_by_facts known.stream m now ≡ r → fine does ≡ publishes_by v name known.stream m now r → Row log v called does
  publish_by does name known m now (Ok Fresh) here e a =
      let k = live-known log v b name known here in
      let f_is : facts k.0.history ≡ known.stream = ap (λ (x : NameFacts). x.stream) k.2 in
      let below : known.stream.last < 2 ^ 63 =
      subst (λ n. n < 2 ^ 63) (sym (facts-tell k.0.history).last ∙ ap (λ (x : StreamFacts). x.last) f_is) (fit-bound k.0.history (live-ok log name k.0 b.logs k.1).fit) in
      let other : known.stream.last ≢ 2 ^ 63 - 1 = eqb-false known.stream.last (2 ^ 63 - 1) (fresh-last known.stream m now e) in
      subst (Row log v called) (sym (same_Ok does _ a))
      (row-writes name known (Put (known.stream.last + 1) (at_time (max now known.stream.clock) m) None) (outcome.Stored (known.stream.last + 1)) (λ h. refl) here
      (record { fits = (omega arith, omega arith, tt); faultless = tt; number = λ no. refl }))
  publish_by does name known m now (Ok (IsDuplicate seq)) here e a = subst (Row log v called) (sym (same_Ok does (reads v (outcome.Duplicate seq)) a)) (row-reads (outcome.Duplicate seq) (λ h. refl))
  publish_by does name known m now (Err why) here e a = absurd (cc)

  subject_by : (does : Effect) (name : List ℕ) (known : NameFacts) (m : Message) (now : ℕ) (t : Bool) → live_in v.image name ≡ Some known →
      fine does ≡ cond t (publishes_by v name known.stream (transformed known.stream.config m) now (verdict_by_facts known.stream (transformed known.stream.config m) now)) (Err refusal.NoStream) → Row log v called does
  subject_by does name known m now true here a = publish_by does name known (transformed known.stream.config m) now (verdict_by_facts known.stream (transformed known.stream.config m) now) here refl a
  subject_by does name known m now false here a = absurd (cc)

  publishes_row : (does : Effect) (name : List ℕ) (m : Message) (now : ℕ) (o : Option NameFacts) → live_in v.image name ≡ o → fine does ≡ publishes v name m now o → Row log v called does
  publishes_row does name m now None here a = absurd (cc)
  publishes_row does name m now (Some known) here a = subject_by does name known m now (takes_subject known.stream.config m.subject) here a

  delete_by : (does : Effect) (name : List ℕ) (known : NameFacts) (seq : ℕ) (o : Option Message) → live_in v.image name ≡ Some known → message_at seq known.stream.rows ≡ o → fine does ≡ if_kept v name known seq o → Row log v called does
  unfolding if_kept
  delete_by does name known seq None here e a = absurd (cc)
  delete_by does name known seq (Some m) here e a = subst (Row log v called) (sym (same_Ok does _ a))
      (row-writes name known (Del seq) outcome.Deleted (λ h. refl) here (record { fits = subst IsSome (sym e) refl; faultless = tt; number = λ no. tt }))

  deletes_row : (does : Effect) (name : List ℕ) (seq : ℕ) (o : Option NameFacts) → live_in v.image name ≡ o → fine does ≡ deletes v name seq o → Row log v called does
  unfolding if_kept
  deletes_row does name seq None here a = absurd (cc)
  deletes_row does name seq (Some known) here a = delete_by does name known seq (message_at seq known.stream.rows) here refl a

  purges_row : (does : Effect) (name pattern : List ℕ) (below : Option ℕ) (o : Option NameFacts) → live_in v.image name ≡ o → fine does ≡ purges v name pattern below o → Row log v called does
  purges_row does name pattern below None here a = absurd (cc)
  purges_row does name pattern below (Some known) here a =
      let end : ℕ = below_or_all below known.stream.last in
      let count : ℕ = count_by (is_purged pattern end) known.stream.rows in
      row-takes does name known (Purge pattern end) count (outcome.Purged count) (eqb count 0) (λ h. refl) here (record { fits = tt; faultless = tt; number = λ no. tt }) a

  expires_row : (does : Effect) (name : List ℕ) (now : ℕ) (o : Option NameFacts) → live_in v.image name ≡ o → fine does ≡ expires v name now o → Row log v called does
  expires_row does name now None here a = absurd (cc)
  expires_row does name now (Some known) here a =
      let count : ℕ = count_by (is_expired known.stream.config.max_age now) known.stream.rows in
      row-takes does name known (Expire now) count (outcome.Expired count) (eqb count 0) (λ h. refl) here (record { fits = tt; faultless = tt; number = λ no. tt }) a

  get_by : (does : Effect) (o : Option Numbered) → fine does ≡ if_found v o → Row log v called does
  unfolding if_found
  get_by does None a = absurd (cc)
  get_by does (Some row) a = subst (Row log v called) (sym (same_Ok does (reads v (outcome.Found row)) a)) (row-reads (outcome.Found row) (λ h. refl))

  gets_row : (does : Effect) (which : Which) (o : Option NameFacts) → fine does ≡ gets v which o → Row log v called does
  unfolding if_found
  gets_row does which None a = absurd (cc)
  gets_row does which (Some known) a = get_by does (row_by known.stream.rows which) a

  informs_row : (does : Effect) (name : List ℕ) (o : Option NameFacts) → fine does ≡ informs v name o → Row log v called does
  informs_row does name None a = absurd (cc)
  informs_row does name (Some known) a = subst (Row log v called) (sym (same_Ok does _ a)) (row-reads _ (λ h. refl))

  -- ---- consumers

  -- the askers stay
  row-sends : (packets : List Packet) (consumers : List ConsumerState) → ((p : Packet) → Contains packets p → AskIs v (sends v packets consumers v.askers) p) → Evolves log v called (sends v packets consumers v.askers) → Row log v called (sends v packets consumers v.askers)
  row-sends packets consumers asks e = record {
    adds = adds-none (sends v packets consumers v.askers) refl;
    evolves = e;
    askers = askers-same v called (sends v packets consumers v.askers) refl (no-records (sends v packets consumers v.askers) refl) asks;
  }

  row-makes : (now : ℕ) (known : NameFacts) (name : List ℕ) (what : Wanted) → live_in v.image name ≡ Some known → IsMadeFor log called (new_consumer (next_name v) name what now) → Row log v called (makes_consumer v now known name what)
  row-makes now known name what here for =
      let k = live-known log v b name known here in
      record {
        adds = adds-none (makes_consumer v now known name what) refl;
        evolves = evolves-made log v called now known name what k.0 b k.1 (ap (λ (x : NameFacts). x.incarnation) (sym k.2)) for;
        askers = askers-same v called (makes_consumer v now known name what) refl (no-records (makes_consumer v now known name what) refl)
            (λ p q. subst (AskIs v (makes_consumer v now known name what)) (Contains-one (Answer what.asker what.attempt (next_name v) known.incarnation what.start) p q) tt);
      }

  make_by : (does : Effect) (now : ℕ) (known : NameFacts) (name : List ℕ) (what : Wanted) (t : Bool) (why : ShardRefusal) → live_in v.image name ≡ Some known → IsMadeFor log called (new_consumer (next_name v) name what now) → fine does ≡ cond t (Ok (makes_consumer v now known name what)) (Err why) → Row log v called does
  make_by does now known name what true why here for a = subst (Row log v called) (sym (same_Ok does _ a)) (row-makes now known name what here for)
  make_by does now known name what false why here for a = absurd (cc)

  make_unless : (does : Effect) (now : ℕ) (known : NameFacts) (name : List ℕ) (what : Wanted) (t : Bool) (why : ShardRefusal) → live_in v.image name ≡ Some known → IsMadeFor log called (new_consumer (next_name v) name what now) → fine does ≡ cond t (Err why) (Ok (makes_consumer v now known name what)) → Row log v called does
  make_unless does now known name what true why here for a = absurd (cc)
  make_unless does now known name what false why here for a = subst (Row log v called) (sym (same_Ok does _ a)) (row-makes now known name what here for)

  make_for : (does : Effect) (now : ℕ) (known : NameFacts) (name : List ℕ) (what : Wanted) (present : Option ConsumerState) → live_in v.image name ≡ Some known → IsMadeFor log called (new_consumer (next_name v) name what now) → fine does ≡ makes_for v now known name what present → Row log v called does
  make_for does now known name what None here for a = make_unless does now known name what (leb 1024 (count_by (reads_stream name) v.consumers)) refusal.TooManyConsumers here for a
  make_for does now known name what (Some present) here for a = make_by does now known name what (is_earlier present.wanted.attempt what.attempt) (refusal.OldAttempt present.wanted.attempt what.attempt) here for a

  -- a consumer starts where it should
  begins-right : (name : List ℕ) (known : NameFacts) (start : Start) → live_in v.image name ≡ Some known → (m : Made) → live log name ≡ Some m → IsRightStart m.history start (consumer_start known.stream start)
  begins-right name known start here m l =
      let k = live-known log v b name known here in
      let same : k.0 ≡ m = (let q : Some k.0 ≡ Some m = sym k.1 ∙ l in cc) in
      let f_is : facts m.history ≡ known.stream = ap (λ (x : Made). facts x.history) (sym same) ∙ ap (λ (x : NameFacts). x.stream) k.2 in
      subst (λ (f : StreamFacts). IsRightStart m.history start (consumer_start f start)) f_is (right-start m.history start (made-rise laws name m (live-ok log name m b.logs l)))

  make_asked : (does : Effect) (now : ℕ) (name : List ℕ) (asker : AskerId) (attempt : Stamp) (origin : List ℕ) (start : Start) (filters : List (List ℕ)) (o : Option NameFacts) → called ≡ call.MakeConsumer (Ask asker attempt origin name start filters) now → live_in v.image name ≡ o → fine does ≡ makes_asked v now name asker attempt origin start filters o → Row log v called does
  make_asked does now name asker attempt origin start filters None is here a = absurd (cc)
  make_asked does now name asker attempt origin start filters (Some known) is here a =
      make_for does now known name (record { asker = asker; attempt = attempt; origin = origin; start = consumer_start known.stream start; filters = filters }) (find (serves name asker) v.consumers) here
      (record { asker = asker; attempt = attempt; origin = origin; start = start; filters = filters; now = now; is = is; wanted = refl; begins = begins-right name known start here }) a

  makes_row : (does : Effect) (now : ℕ) (ask : Packet) → called ≡ call.MakeConsumer ask now → fine does ≡ makes v now ask → Row log v called does
  makes_row does now (Ask asker attempt origin stream start filters) is a = make_asked does now stream asker attempt origin start filters (live_in v.image stream) is refl a
  makes_row does now (Answer asker attempt consumer incarnation start) is a = absurd (cc)
  makes_row does now (Refuse asker attempt code err_code) is a = absurd (cc)
  makes_row does now (Delivery asker attempt stream consumer number seq pending message) is a = absurd (cc)
  makes_row does now (Beat asker attempt origin stream consumer last_number last_seq stalled) is a = absurd (cc)
  makes_row does now (FlowAsk asker attempt origin stream consumer token) is a = absurd (cc)
  makes_row does now (FlowReply origin stream consumer token) is a = absurd (cc)

  -- a pump sends no Ask
  said-asks : (does : Effect) (c : ConsumerState) (first : ℕ) (rows : List Numbered) (p : Packet) → Said c first rows p → AskIs v does p
  said-asks does c first rows (Ask asker attempt origin stream start filters) h = absurd h
  said-asks does c first rows (Answer asker attempt consumer number start) h = tt
  said-asks does c first rows (Refuse asker attempt code err_code) h = tt
  said-asks does c first rows (Delivery asker attempt stream consumer number seq pending message) h = tt
  said-asks does c first rows (Beat asker attempt origin stream consumer last_number last_seq stalled) h = tt
  said-asks does c first rows (FlowAsk asker attempt origin stream consumer token) h = tt
  said-asks does c first rows (FlowReply origin stream consumer token) h = tt

  pump-asks : (does : Effect) (rows : List Numbered) (budget : ℕ) (name : List ℕ) (p : Packet) → Contains (flat_map (pump_packets rows budget) (consumers_of name v.consumers)) p → AskIs v does p
  pump-asks does rows budget name p q =
      let w = flat-back (pump_packets rows budget) (consumers_of name v.consumers) p q in
      said-asks does w.of w.of.progress.count (pump_rows rows budget w.of) p (pump-said w.of rows budget p w.part)

  pumps_row : (does : Effect) (name : List ℕ) (budget now : ℕ) (o : Option NameFacts) → live_in v.image name ≡ o → fine does ≡ pumps v name budget now o → Row log v called does
  pumps_row does name budget now None here a = absurd (cc)
  pumps_row does name budget now (Some known) here a =
      let k = live-known log v b name known here in
      let rows : known.stream.rows ≡ kept k.0.history = ap (λ (x : NameFacts). x.stream.rows) (sym k.2) ∙ (facts-tell k.0.history).rows in
      let packets : List Packet = flat_map (pump_packets known.stream.rows budget) (consumers_of name v.consumers) in
      let new : List ConsumerState = for_stream name (pumped known.stream.rows budget now) v.consumers in
      subst (Row log v called) (sym (same_Ok does (sends v packets new v.askers) a)) (row-sends packets new (λ p q. pump-asks (sends v packets new v.askers) known.stream.rows budget name p q)
      (evolves-pumps laws log v called name k.0 known.stream.rows budget now b k.1 rows))

  -- an answer to a flow request
  same_sent : (t : Bool) (s : Sendings) (token : ℕ) → (cond t (record s { answered = token }) s).sent ≡ s.sent
  same_sent true s token = refl
  same_sent false s token = refl

  token_if : Bool → Bool → ℕ → ConsumerState → ConsumerState
  token_if t u token c = cond t (cond u (takes_token token c) c) c

  token-changes : (t u : Bool) (token : ℕ) (c : ConsumerState) → ((token_if t u token c).name ≡ c.name) × ((token_if t u token c).stream ≡ c.stream) × ((token_if t u token c).wanted ≡ c.wanted) × StaysRight c (token_if t u token c)
  unfolding token_if
  token-changes true true token c = (refl, refl, refl, λ h s ok. (answered_to token c s, same_sent (is_awaited token c.progress) s token, laws.answers_right h c s token ok))
  token-changes true false token c = (refl, refl, refl, still-right c)
  token-changes false u token c = (refl, refl, refl, still-right c)

  tokens_row : (does : Effect) (stream : List ℕ) (consumer : Stamp) (token : ℕ) (o : Option NameFacts) → fine does ≡ takes_at v stream consumer token o → Row log v called does
  unfolding token_if
  tokens_row does stream consumer token None a = absurd (cc)
  tokens_row does stream consumer token (Some known) a =
      let f : ConsumerState → ConsumerState = λ c. token_if (reads_stream stream c) (same_stamp c.name consumer) token c in
      let new : List ConsumerState = for_stream stream (λ c. cond (same_stamp c.name consumer) (takes_token token c) c) v.consumers in
      subst (Row log v called) (sym (same_Ok does (sends v [] new v.askers) a)) (row-sends [] new (λ p q. absurd (Contains-none p q))
      (evolves-map log v called (sends v [] new v.askers) f b.apart refl (quiet-none log v _ (omega arith) (λ h. refl) refl) (record {
        name = λ c. (token-changes (reads_stream stream c) (same_stamp c.name consumer) token c).0;
        stream = λ c. (token-changes (reads_stream stream c) (same_stamp c.name consumer) token c).1;
        wanted = λ c. (token-changes (reads_stream stream c) (same_stamp c.name consumer) token c).2;
        right = λ c. (token-changes (reads_stream stream c) (same_stamp c.name consumer) token c).3;
      })))

  replies_row : (does : Effect) (packet : Packet) → fine does ≡ takes_reply v packet → Row log v called does
  replies_row does (Ask asker attempt origin stream start filters) a = absurd (cc)
  replies_row does (Answer asker attempt consumer incarnation start) a = absurd (cc)
  replies_row does (Refuse asker attempt code err_code) a = absurd (cc)
  replies_row does (Delivery asker attempt stream consumer number seq pending message) a = absurd (cc)
  replies_row does (Beat asker attempt origin stream consumer last_number last_seq stalled) a = absurd (cc)
  replies_row does (FlowAsk asker attempt origin stream consumer token) a = absurd (cc)
  replies_row does (FlowReply origin stream consumer token) a = tokens_row does stream consumer token (live_in v.image stream) a

  -- ---- links and time

  pause_if : Bool → Bool → ConsumerState → ConsumerState
  pause_if t there c = cond t (record c { paused = not there }) c

  pause-changes : (t there : Bool) (c : ConsumerState) → ((pause_if t there c).name ≡ c.name) × ((pause_if t there c).stream ≡ c.stream) × ((pause_if t there c).wanted ≡ c.wanted) × StaysRight c (pause_if t there c)
  unfolding pause_if
  pause-changes true there c = (refl, refl, refl, λ h s ok. (s, refl, laws.pauses_right h c s (not there) ok))
  pause-changes false there c = (refl, refl, refl, still-right c)

  paused-changes : (node : List ℕ) (there : Bool) → Changes (paused_for node there)
  unfolding pause_if
  paused-changes node there = record {
    name = λ c. (pause-changes (bytes_eq c.wanted.asker.node node) there c).0;
    stream = λ c. (pause-changes (bytes_eq c.wanted.asker.node node) there c).1;
    wanted = λ c. (pause-changes (bytes_eq c.wanted.asker.node node) there c).2;
    right = λ c. (pause-changes (bytes_eq c.wanted.asker.node node) there c).3;
  }

  reach-askers : (node : List ℕ) (now : ℕ) → AskersRow v called (reaches v node true now)
  reach-askers node now =
      let copies : List Copy = copies_of_node v node in
      let are : (k : Copy) → Contains copies k → IsCopyOf v.image k = λ k q. copy-all v.image k (filter-was _ (all_copies v.image) k q) in
      let sent : (k : Copy) → Contains copies k → Contains (reaches v node true now).reply.packets (ask_of v k) = λ k q. map-on (ask_of v) copies k q in
      askers-asked v called (reaches v node true now) now copies are refl sent
      (λ p q. let w = map-back (ask_of v) copies p q in subst (AskIs v (reaches v node true now)) w.is (ask-of-one v called (reaches v node true now) now copies are refl sent w.of w.here))
      (λ t config e k is n. absurd (no-records (reaches v node true now) refl t config e))

  reaches_row : (node : List ℕ) (there : Bool) (now : ℕ) → Row log v called (reaches v node there now)
  reaches_row node true now = record {
    adds = adds-none (reaches v node true now) refl;
    evolves = evolves-map log v called (reaches v node true now) (paused_for node true) b.apart refl (quiet-asks log v (reaches v node true now) v (copies_of_node v node) (omega arith) (λ h. refl) refl) (paused-changes node true);
    askers = reach-askers node now;
  }
  reaches_row node false now = record {
    adds = adds-none (reaches v node false now) refl;
    evolves = evolves-map log v called (reaches v node false now) (paused_for node false) b.apart refl (quiet-none log v _ (omega arith) (λ h. refl) refl) (paused-changes node false);
    askers = askers-same v called (reaches v node false now) refl (no-records (reaches v node false now) refl) (asks-nothing v (reaches v node false now) refl);
  }

  beat_if : Bool → ℕ → ConsumerState → ConsumerState
  beat_if t now c = cond t (record c { moment = now }) c

  beat-changes : (t : Bool) (now : ℕ) (c : ConsumerState) → ((beat_if t now c).name ≡ c.name) × ((beat_if t now c).stream ≡ c.stream) × ((beat_if t now c).wanted ≡ c.wanted)
  unfolding beat_if
  beat-changes true now c = (refl, refl, refl)
  beat-changes false now c = (refl, refl, refl)

  beats-changes : (now : ℕ) → Changes (after_beat now)
  unfolding beat_if
  beats-changes now = record {
    name = λ c. (beat-changes (beats now c) now c).0;
    stream = λ c. (beat-changes (beats now c) now c).1;
    wanted = λ c. (beat-changes (beats now c) now c).2;
    right = λ c h s ok. (s, refl, laws.beats_right h c s now ok);
  }

  -- a beat is no Ask
  beat-asks : (does : Effect) (now : ℕ) (c : ConsumerState) (p : Packet) → Contains (beat_list_of (beat_at now c)) p → AskIs v does p
  unfolding beat_list_of
  beat-asks does now c p q = by (beats now c) q
    where
      by : (t : Bool) → Contains (beat_list_of (cond t (Some (beat c)) None)) p → AskIs v does p
      by true r = subst (AskIs v does) (Contains-one (beat c) p r) tt
      by false r = absurd (Contains-none p r)

  beats-ask : (does : Effect) (now : ℕ) (name : List ℕ) (p : Packet) → Contains (beats_of v now name) p → AskIs v does p
  unfolding beat_list_of
  beats-ask does now name p q =
      let w = flat-back (λ (c : ConsumerState). beat_list_of (beat_at now c)) (consumers_of name v.consumers) p q in
      beat-asks does now w.of p w.part

  tick-askers : (now : ℕ) → AskersRow v called (ticks v now)
  tick-askers now =
      let copies : List Copy = due_copies v now in
      let beaten : List Packet = flat_map (beats_of v now) (live_names v.image) in
      let are : (k : Copy) → Contains copies k → IsCopyOf v.image k = λ k q. copy-all v.image k (filter-was _ (all_copies v.image) k q) in
      let sent : (k : Copy) → Contains copies k → Contains (ticks v now).reply.packets (ask_of v k) = λ k q. Contains-append_right beaten (asks_of v copies) (ask_of v k) (map-on (ask_of v) copies k q) in
      askers-asked v called (ticks v now) now copies are refl sent
      (λ p q. elim (Contains-append_cases beaten (asks_of v copies) p q) [
        | inl one ↦ (let w = flat-back (beats_of v now) (live_names v.image) p one in beats-ask (ticks v now) now w.of p w.part)
        | inr asked ↦ (let w = map-back (ask_of v) copies p asked in subst (AskIs v (ticks v now)) w.is (ask-of-one v called (ticks v now) now copies are refl sent w.of w.here))
      ])
      (λ t config e k is n. absurd (no-records (ticks v now) refl t config e))

  ticks_row : (now : ℕ) → Row log v called (ticks v now)
  ticks_row now = record {
    adds = adds-none (ticks v now) refl;
    evolves = evolves-map log v called (ticks v now) (after_beat now) b.apart refl (record {
      given = omega arith;
      makes = λ h. refl;
      none = λ n. append-none n (flat_map (beats_of v now) (live_names v.image)) (asks_of v (due_copies v now)) (flat-none n (beats_of v now) (beats-none n v now) (live_names v.image)) (asks-none n v (due_copies v now));
      speaks = λ p q. elim (Contains-append_cases (flat_map (beats_of v now) (live_names v.image)) (asks_of v (due_copies v now)) p q) [
        | inl beaten ↦ (let w = flat-back (beats_of v now) (live_names v.image) p beaten in beats-speak log v (ticks v now).reply.packets now w.of p w.part)
        | inr asked ↦ asks-speak log v (ticks v now).reply.packets v (due_copies v now) p asked
      ];
    }) (beats-changes now);
    askers = tick-askers now;
  }

  -- ---- packets for copies

  -- the answer to a flow request is no Ask
  flow-asks : (does : Effect) (packet p : Packet) → Contains (flow_answer packet) p → AskIs v does p
  flow-asks does (Ask asker attempt origin stream start filters) p q = absurd (Contains-none p q)
  flow-asks does (Answer asker attempt consumer number start) p q = absurd (Contains-none p q)
  flow-asks does (Refuse asker attempt code err_code) p q = absurd (Contains-none p q)
  flow-asks does (Delivery asker attempt stream consumer number seq pending message) p q = absurd (Contains-none p q)
  flow-asks does (Beat asker attempt origin stream consumer last_number last_seq None) p q = absurd (Contains-none p q)
  flow-asks does (Beat asker attempt origin stream consumer last_number last_seq (Some token)) p q = subst (AskIs v does) (Contains-one (FlowReply origin stream consumer token) p q) tt
  flow-asks does (FlowAsk asker attempt origin stream consumer token) p q = subst (AskIs v does) (Contains-one (FlowReply origin stream consumer token) p q) tt
  flow-asks does (FlowReply origin stream consumer token) p q = absurd (Contains-none p q)

  -- a copy decides about the packet of the call
  record Decides (c : Copy) (now : ℕ) (packet : Packet) (d : Decision) : Type 0 where
    is : called ≡ call.Heard packet now
    heard : copy_of_asker v (addressee packet) ≡ Some c
    copy : IsCopyOf v.image c
    d_is : d ≡ decided_by c.facts.config.copies v c now packet
    right : IfEntry (EntryOk c.facts) d

  quiet-row : (does : Effect) → does.records ≡ [] → does.consumers ≡ v.consumers → IsQuiet log v does → AskersRow v called does → Row log v called does
  quiet-row does none same q askers = record { adds = adds-none does none; evolves = evolves-same log v called does b.apart same q; askers = askers }

  entry-row : (does : Effect) (c : Copy) (e : Entry) → does.records ≡ Of c.stream e ∷ [] → does.consumers ≡ v.consumers → IsQuiet log v does → IsCopyOf v.image c → EntryOk c.facts e → AskersRow v called does → Row log v called does
  entry-row does c e are same q is ok askers = record {
    adds = adds-entry does c.stream is.known e are is.here (subst (λ (f : StreamFacts). EntryOk f e) is.facts ok);
    evolves = evolves-same log v called does b.apart same q;
    askers = askers;
  }

  again-askers : (c : Copy) (now : ℕ) (packet : Packet) (phase : Phase) (why : Why) → IsCopyOf v.image c → AskersRow v called (follows v c now packet phase (AskAgain why))
  again-askers c now packet phase why is =
      let does : Effect = follows v c now packet phase (AskAgain why) in
      let are : (k : Copy) → Contains (c ∷ []) k → IsCopyOf v.image k = λ k q. subst (IsCopyOf v.image) (Contains-one c k q) is in
      let sent : (k : Copy) → Contains (c ∷ []) k → Contains does.reply.packets (ask_of v k) = λ k q. map-on (ask_of v) (c ∷ []) k q in
      askers-asked v called does now (c ∷ []) are refl sent
      (λ p q. let w = map-back (ask_of v) (c ∷ []) p q in subst (AskIs v does) w.is (ask-of-one v called does now (c ∷ []) are refl sent w.of w.here))
      (λ t config e k same n. absurd (no-records does refl t config e))

  follows_row : (c : Copy) (now : ℕ) (packet : Packet) (d : Decision) → Decides c now packet d → Row log v called (follows v c now packet (asker_of v c).phase d)
  follows_row c now packet (Store e) w = entry-row (follows v c now packet (asker_of v c).phase (Store e)) c e refl refl (quiet-none log v _ (omega arith) (λ h. refl) refl) w.copy w.right
      (askers-heard v called _ packet now c (Store e) w.is w.heard w.d_is refl refl refl (λ t k x. cc) (asks-nothing v _ refl))
  follows_row c now packet (Binds e) w = entry-row (follows v c now packet (asker_of v c).phase (Binds e)) c e refl refl (quiet-none log v _ (omega arith) (λ h. refl) refl) w.copy w.right
      (askers-heard v called _ packet now c (Binds e) w.is w.heard w.d_is refl refl refl (λ t k x. cc) (asks-nothing v _ refl))
  follows_row c now packet Rebind w = quiet-row (follows v c now packet (asker_of v c).phase Rebind) refl refl (quiet-none log v _ (omega arith) (λ h. refl) refl)
      (askers-heard v called _ packet now c Rebind w.is w.heard w.d_is refl refl refl (no-records (follows v c now packet (asker_of v c).phase Rebind) refl) (asks-nothing v _ refl))
  follows_row c now packet Skip w = quiet-row (follows v c now packet (asker_of v c).phase Skip) refl refl (quiet-none log v _ (omega arith) (λ h. refl) refl)
      (askers-heard v called _ packet now c Skip w.is w.heard w.d_is refl refl refl (no-records (follows v c now packet (asker_of v c).phase Skip) refl) (asks-nothing v _ refl))
  follows_row c now packet (Ignore why) w = row-reads (outcome.Heard (Ignore why)) (λ h. refl)
  follows_row c now packet (AskAgain why) w = quiet-row (follows v c now packet (asker_of v c).phase (AskAgain why)) refl refl (quiet-asks log v (follows v c now packet (asker_of v c).phase (AskAgain why)) v (c ∷ []) (omega arith) (λ h. refl) refl)
      (again-askers c now packet (asker_of v c).phase why w.copy)
  follows_row c now packet Reply w = quiet-row (follows v c now packet (asker_of v c).phase Reply) refl refl (record { given = omega arith; makes = λ h. refl; none = λ n. flow-none n packet; speaks = λ p q. flow-speaks log v (flow_answer packet) packet p q })
      (askers-heard v called _ packet now c Reply w.is w.heard w.d_is refl refl refl (no-records (follows v c now packet (asker_of v c).phase Reply) refl) (λ p q. flow-asks (follows v c now packet (asker_of v c).phase Reply) packet p q))
  follows_row c now packet Hears w = quiet-row (follows v c now packet (asker_of v c).phase Hears) refl refl (quiet-none log v _ (omega arith) (λ h. refl) refl)
      (askers-heard v called _ packet now c Hears w.is w.heard w.d_is refl refl refl (no-records (follows v c now packet (asker_of v c).phase Hears) refl) (asks-nothing v _ refl))
  follows_row c now packet IsRefused w = row-reads (outcome.Heard IsRefused) (λ h. refl)
  follows_row c now packet (Stop kept seen) w = quiet-row (follows v c now packet (asker_of v c).phase (Stop kept seen)) refl refl (quiet-none log v _ (omega arith) (λ h. refl) refl)
      (askers-heard v called _ packet now c (Stop kept seen) w.is w.heard w.d_is refl refl refl (no-records (follows v c now packet (asker_of v c).phase (Stop kept seen)) refl) (asks-nothing v _ refl))

  hears_row : (now : ℕ) (packet : Packet) (o : Option Copy) → called ≡ call.Heard packet now → copy_of_asker v (addressee packet) ≡ o → Row log v called (hears v now packet o)
  hears_row now packet None is e = row-reads (outcome.Heard (Ignore Foreign)) (λ h. refl)
  hears_row now packet (Some c) is e =
      let copy = heard-copy v (addressee packet) c e in
      follows_row c now packet (decided_by c.facts.config.copies v c now packet) (record { is = is; heard = e; copy = copy; d_is = refl; right = decided-ok v c now packet copy })

  -- ---- the table

  idle-row : Row log v called (sends v [] v.consumers (idle_askers v.askers))
  idle-row = quiet-row (sends v [] v.consumers (idle_askers v.askers)) refl refl (quiet-none log v _ (omega arith) (λ h. refl) refl)
      (askers-idle v called (sends v [] v.consumers (idle_askers v.askers)) refl (no-records (sends v [] v.consumers (idle_askers v.askers)) refl) (asks-nothing v (sends v [] v.consumers (idle_askers v.askers)) refl))

module _ (laws : Laws) (log : List Rec) (v : View) (b : Before log v) where
  -- What is answered adds what may stand, and leaves what consumers have sent right.
  pub row-of : (c : ShardCall) (does : Effect) → ((r : Rec) → does.records ≡ r ∷ [] → has_number v.image r ≡ true) → Answers v c (Ok does) → Row log v c does
  row-of (call.Create config now) does number a = create_by laws log v b (call.Create config now) does config now (config_fault config) (live_in v.image config.name) number refl refl a
  row-of (call.Update config) does number a = update_by laws log v b (call.Update config) does config (config_fault config) (live_in v.image config.name) refl refl a
  row-of (call.Remove name) does number a = remove_by laws log v b (call.Remove name) does name (live_in v.image name) refl a
  row-of (call.Publish name message now) does number a = publishes_row laws log v b (call.Publish name message now) does name message now (live_in v.image name) refl a
  row-of (call.Delete name seq) does number a = deletes_row laws log v b (call.Delete name seq) does name seq (live_in v.image name) refl a
  row-of (call.Purge name pattern below) does number a = purges_row laws log v b (call.Purge name pattern below) does name pattern below (live_in v.image name) refl a
  row-of (call.Expire name now) does number a = expires_row laws log v b (call.Expire name now) does name now (live_in v.image name) refl a
  row-of (call.Get name which) does number a = gets_row laws log v b (call.Get name which) does which (live_in v.image name) a
  row-of (call.Info name) does number a = informs_row laws log v b (call.Info name) does name (live_in v.image name) a
  row-of call.Names does number a = subst (Row log v call.Names) (sym (same_Ok laws log v b call.Names does _ a)) (row-reads laws log v b call.Names (outcome.Listed (live_names v.image)) (λ h. refl))
  row-of (call.MakeConsumer ask now) does number a = makes_row laws log v b (call.MakeConsumer ask now) does now ask refl a
  row-of (call.Pump name budget now) does number a = pumps_row laws log v b (call.Pump name budget now) does name budget now (live_in v.image name) refl a
  row-of (call.FlowReply packet) does number a = replies_row laws log v b (call.FlowReply packet) does packet a
  row-of (call.Reach node there now) does number a = subst (Row log v (call.Reach node there now)) (sym (same_Ok laws log v b (call.Reach node there now) does _ a)) (reaches_row laws log v b (call.Reach node there now) node there now)
  row-of (call.Heard packet now) does number a = subst (Row log v (call.Heard packet now)) (sym (same_Ok laws log v b (call.Heard packet now) does _ a)) (hears_row laws log v b (call.Heard packet now) now packet (copy_of_asker v (addressee packet)) refl refl)
  row-of (call.Tick now) does number a = subst (Row log v (call.Tick now)) (sym (same_Ok laws log v b (call.Tick now) does _ a)) (ticks_row laws log v b (call.Tick now) now)
  row-of call.LinkLost does number a = subst (Row log v call.LinkLost) (sym (same_Ok laws log v b call.LinkLost does _ a)) (idle-row laws log v b call.LinkLost)
