-- What was acknowledged stays in the log.
use Rattle.std.proofs.Common.{◌≡◌, ℕ, ◌+◌, max, Bool, true, false, cond, eqb, leb, List, [], ◌∷◌, ◌++◌, length, Option, Some, None, refl, sym, ap, ◌∙◌, subst, ◌⊎◌, inl, inr, append_assoc}
use Rattle.std.specs.Prelude.{Result, Ok, Err, count_by}
use Rattle.std.specs.List.{find}
use Rattle.nats_text.specs.declared.message.Message.{Message}
use Rattle.nats_text.specs.declared.message.Stamp.{Stamp}
use Rattle.nats_text.specs.declared.message.Start.{Start}
use Rattle.js_wire.specs.declared.packet.AskerId.{AskerId}
use Rattle.js_wire.specs.declared.packet.Packet.{Packet}
use Rattle.js_wire.specs.declared.packet.Packet.TheVariants.{Ask, Answer, Refuse, Delivery, Beat, FlowAsk, FlowReply}
use Rattle.stream_fold.specs.declared.config.Config.{Config}
use Rattle.stream_fold.specs.declared.decision.Decision.{Decision}
use Rattle.stream_fold.specs.declared.decision.Decision.TheVariants.{Store, Bind as Binds, Rebind, Skip, Ignore, AskAgain, Reply, Heard as Hears, Refused as IsRefused, Stop}
use Rattle.stream_fold.specs.declared.entry.Entry.{Entry}
use Rattle.stream_fold.specs.declared.entry.Entry.TheVariants.{Put, Del, Purge, Expire, Limits}
use Rattle.stream_fold.specs.declared.entry.Numbered.{Numbered}
use Rattle.stream_fold.specs.declared.verdict.Refusal.{Refusal}
use Rattle.stream_fold.specs.declared.verdict.Verdict.{Verdict}
use Rattle.stream_fold.specs.declared.verdict.Verdict.TheVariants.{Fresh, Duplicate as IsDuplicate}
use Rattle.stream_fold.specs.Facts.{StreamFacts, verdict_by_facts}
use Rattle.stream_fold.specs.Histories.{message_at, is_purged, is_expired}
use Rattle.stream_fold.specs.Checking.{config_fault}
use Rattle.record_codec.specs.declared.records.Rec.{Rec}
use Rattle.record_codec.specs.declared.records.Rec.TheVariants.{Of}
use Rattle.push_consumer.specs.declared.wanted.Wanted.{Wanted}
use Rattle.push_consumer.specs.Progress.{ConsumerState}
use Rattle.source_core.specs.Decisions.{at_time}
use Rattle.replica_ask.specs.declared.phase.Phase.{Phase}
use Rattle.shard_machine.specs.declared.call.ShardCall.{ShardCall}
use Rattle.shard_machine.specs.declared.call.ShardCall.TheVariants as call
use Rattle.shard_machine.specs.declared.call.Which.{Which}
use Rattle.shard_machine.specs.declared.reply.ShardRefusal.{ShardRefusal}
use Rattle.shard_machine.specs.declared.reply.ShardRefusal.TheVariants as refusal
use Rattle.shard_machine.specs.declared.reply.Outcome.{Outcome}
use Rattle.shard_machine.specs.declared.reply.Outcome.TheVariants as outcome
use Rattle.shard_machine.specs.declared.reply.ShardReply.{ShardReply}
use Rattle.shard_machine.specs.Logs.{Made, with_change, incarnation, made, live}
use Rattle.shard_machine.specs.Images.{NameFacts, live_in, live_names}
use Rattle.shard_machine.specs.Views.{View, Effect, Copy, reads, writes, asker_of}
use Rattle.shard_machine.specs.Answers.{Answered, Answers, Creates, creates, Updates, removes, reads_stream, serves, is_earlier, consumer_start, makes_consumer, ticks, publishes, publishes_by, takes_subject, transformed, deletes, purges, expires, below_or_all, gets, row_by, informs, makes, makes_asked, makes_for, pumps, takes_at, takes_reply, reaches, hears, follows, addressee, copy_of_asker, decided_by}
use Rattle.shard_machine.specs.Steps.{Held, IsReady, IsSettled, LacksRoom, LacksRoomToLoad, StaysOrLoads, Faults, FailsToLoad, Refuses, StepTo, view_in}
use Rattle.run_soundness.specs.Shards.{ShardState}
use Rattle.run_soundness.specs.Worlds.Event.{Call}
use Rattle.run_soundness.specs.Below.{Laws}
use Rattle.run_soundness.specs.Laws.{IsAccepted, stream_of, written_to, Survives, OnlyLoads, AcknowledgedSurvives}
use Rattle.run_soundness.proofs.Invariant.{Inv}
use Rattle.run_soundness.proofs.Lasting.{run-grows}
use Rattle.run_soundness.proofs.Logs.{live-is, live-entry}
use Rattle.run_soundness.proofs.LogsLegal.{MayStand}
use Rattle.run_soundness.proofs.Runs.{Inv-event, Inv-run, Inv-empty}
use Rattle.run_soundness.proofs.ShardsGrow.{ShardGrows}
use Rattle.run_soundness.proofs.ShardsKept.{ShardOk, AnswersOn, row}
use Rattle.run_soundness.proofs.ShardsRows.{option_list}
use Rattle.run_soundness.proofs.ShardsSteps.{Came, Fine, Down, Fault, ShardOk-ready, moves-came}
use Rattle.run_soundness.proofs.ShardsCopies.{copy-stream, heard-by}

-- ---- the entry of a reply is the record of the answer

-- the entry is the one record of the answer, in a stream that the call may write in
record Wrote (c : ShardCall) (does : Effect) (e : Entry) : Type 0 where
  name : List ℕ
  writes : written_to c ≡ Some name
  record_is : does.records ≡ Of name e ∷ []

-- what is said of an answer with an entry
abbrev Tells : ShardCall → Answered → Type 0
Tells c (Ok does) = (e : Entry) → does.reply.entry ≡ Some e → Wrote c does e
Tells c (Err why) = Unit {0}

tells-none : (c : ShardCall) (does : Effect) → does.reply.entry ≡ None → Tells c (Ok does)
tells-none c does none e q = absurd (let z : None ≡ Some e = sym none ∙ q in cc)

tells-entry : (c : ShardCall) (does : Effect) (name : List ℕ) (x : Entry) → written_to c ≡ Some name → does.reply.entry ≡ Some x → does.records ≡ Of name x ∷ [] → Tells c (Ok does)
tells-entry c does name x w is records e q = record { name = name; writes = w; record_is = records ∙ ap (λ y. Of name y ∷ []) (let z : Some x ≡ Some e = sym is ∙ q in cc) }

tells-if : (c : ShardCall) (t : Bool) (x y : Answered) → Tells c x → Tells c y → Tells c (cond t x y)
tells-if c true x y p q = p
tells-if c false x y p q = q

tells-decided : (c : ShardCall) (v : View) (k : Copy) (now : ℕ) (packet : Packet) (phase : Phase) (d : Decision) → written_to c ≡ Some k.stream → Tells c (Ok (follows v k now packet phase d))
tells-decided c v k now packet phase (Store e) w = tells-entry c (follows v k now packet phase (Store e)) k.stream e w refl refl
tells-decided c v k now packet phase (Binds e) w = tells-entry c (follows v k now packet phase (Binds e)) k.stream e w refl refl
tells-decided c v k now packet phase Rebind w = tells-none c (follows v k now packet phase Rebind) refl
tells-decided c v k now packet phase Skip w = tells-none c (follows v k now packet phase Skip) refl
tells-decided c v k now packet phase (Ignore why) w = tells-none c (follows v k now packet phase (Ignore why)) refl
tells-decided c v k now packet phase (AskAgain why) w = tells-none c (follows v k now packet phase (AskAgain why)) refl
tells-decided c v k now packet phase Reply w = tells-none c (follows v k now packet phase Reply) refl
tells-decided c v k now packet phase Hears w = tells-none c (follows v k now packet phase Hears) refl
tells-decided c v k now packet phase IsRefused w = tells-none c (follows v k now packet phase IsRefused) refl
tells-decided c v k now packet phase (Stop kept seen) w = tells-none c (follows v k now packet phase (Stop kept seen)) refl

is-for : (v : View) (o : Option AskerId) (k : Copy) → copy_of_asker v o ≡ Some k → stream_of o ≡ Some k.stream
is-for v None k e = absurd (cc)
is-for v (Some id) k e = ap Some (sym (copy-stream v.image id.stream k (heard-by v id k e).among))

tells-heard : (v : View) (now : ℕ) (packet : Packet) (o : Option Copy) → copy_of_asker v (addressee packet) ≡ o → Tells (call.Heard packet now) (Ok (hears v now packet o))
tells-heard v now packet None e = tells-none (call.Heard packet now) (hears v now packet None) refl
tells-heard v now packet (Some k) e = tells-decided (call.Heard packet now) v k now packet (asker_of v k).phase (decided_by k.facts.config.copies v k now packet) (is-for v (addressee packet) k e)

tells-created : (v : View) (c : Config) (now : ℕ) (fault : Option (List ℕ)) (o : Option NameFacts) (answer : Answered) → Creates v c now fault o answer → Tells (call.Create c now) answer
tells-created v c now (Some member) o answer a = subst (Tells (call.Create c now)) (sym a) tt
tells-created v c now None (Some known) answer a = elim a [
  | inl same ↦ subst (Tells (call.Create c now)) (sym same.1) (tells-none (call.Create c now) (reads v (outcome.Made false)) refl)
  | inr other ↦ subst (Tells (call.Create c now)) (sym other.1) tt
]
tells-created v c now None None answer a =
    subst (Tells (call.Create c now)) (sym a)
    (tells-if (call.Create c now) (leb 256 (length (live_names v.image))) (Err refusal.TooManyStreams) (Ok (creates v c now)) tt (tells-none (call.Create c now) (creates v c now) refl))

tells-updated : (v : View) (c : Config) (fault : Option (List ℕ)) (o : Option NameFacts) (answer : Answered) → Updates v c fault o answer → Tells (call.Update c) answer
tells-updated v c fault None answer a = subst (Tells (call.Update c)) (sym a) tt
tells-updated v c (Some member) (Some known) answer a = subst (Tells (call.Update c)) (sym a) tt
tells-updated v c None (Some known) answer a = elim a [
  | inl keeps ↦ subst (Tells (call.Update c)) (sym keeps.1) (tells-entry (call.Update c) (writes v c.name known.stream (Limits c) outcome.Updated) c.name (Limits c) refl refl refl)
  | inr changes ↦ subst (Tells (call.Update c)) (sym changes.1) tt
]

tells-removed : (v : View) (name : List ℕ) (o : Option NameFacts) → Tells (call.Remove name) (removes v name o)
tells-removed v name None = tt
tells-removed v name (Some known) = tells-none (call.Remove name) _ refl

tells-verdict : (v : View) (name : List ℕ) (f : StreamFacts) (message m : Message) (now : ℕ) (r : Result Verdict Refusal) → Tells (call.Publish name message now) (publishes_by v name f m now r)
tells-verdict v name f message m now (Ok Fresh) = tells-entry (call.Publish name message now) (writes v name f (Put (f.last + 1) (at_time (max now f.clock) m) None) (outcome.Stored (f.last + 1))) name (Put (f.last + 1) (at_time (max now f.clock) m) None) refl refl refl
tells-verdict v name f message m now (Ok (IsDuplicate seq)) = tells-none (call.Publish name message now) (reads v (outcome.Duplicate seq)) refl
tells-verdict v name f message m now (Err why) = tt

tells-published : (v : View) (name : List ℕ) (m : Message) (now : ℕ) (o : Option NameFacts) → Tells (call.Publish name m now) (publishes v name m now o)
tells-published v name m now None = tt
tells-published v name m now (Some known) =
    tells-if (call.Publish name m now) (takes_subject known.stream.config m.subject) (publishes_by v name known.stream (transformed known.stream.config m) now (verdict_by_facts known.stream (transformed known.stream.config m) now)) (Err refusal.NoStream)
    (tells-verdict v name known.stream m (transformed known.stream.config m) now (verdict_by_facts known.stream (transformed known.stream.config m) now)) tt

tells-deleted : (v : View) (name : List ℕ) (seq : ℕ) (o : Option NameFacts) → Tells (call.Delete name seq) (deletes v name seq o)
tells-deleted v name seq None = tt
tells-deleted v name seq (Some known) = by (message_at seq known.stream.rows)
  where
    of : Option Message → Answered
    of None = Err refusal.NoMessage
    of (Some m) = Ok (writes v name known.stream (Del seq) outcome.Deleted)

    by : (o : Option Message) → Tells (call.Delete name seq) (of o)
    by None = tt
    by (Some m) = tells-entry (call.Delete name seq) (writes v name known.stream (Del seq) outcome.Deleted) name (Del seq) refl refl refl

tells-takes : (c : ShardCall) (v : View) (name : List ℕ) (f : StreamFacts) (e : Entry) (count : ℕ) (o : Outcome) → written_to c ≡ Some name → Tells c (cond (eqb count 0) (Ok (reads v o)) (Ok (writes v name f e o)))
tells-takes c v name f e count o w = tells-if c (eqb count 0) (Ok (reads v o)) (Ok (writes v name f e o)) (tells-none c (reads v o) refl) (tells-entry c (writes v name f e o) name e w refl refl)

tells-purged : (v : View) (name pattern : List ℕ) (below : Option ℕ) (o : Option NameFacts) → Tells (call.Purge name pattern below) (purges v name pattern below o)
tells-purged v name pattern below None = tt
tells-purged v name pattern below (Some known) =
    let end : ℕ = below_or_all below known.stream.last in
    let count : ℕ = count_by (is_purged pattern end) known.stream.rows in
    tells-takes (call.Purge name pattern below) v name known.stream (Purge pattern end) count (outcome.Purged count) refl

tells-expired : (v : View) (name : List ℕ) (now : ℕ) (o : Option NameFacts) → Tells (call.Expire name now) (expires v name now o)
tells-expired v name now None = tt
tells-expired v name now (Some known) =
    let count : ℕ = count_by (is_expired known.stream.config.max_age now) known.stream.rows in
    tells-takes (call.Expire name now) v name known.stream (Expire now) count (outcome.Expired count) refl

tells-got : (v : View) (name : List ℕ) (which : Which) (o : Option NameFacts) → Tells (call.Get name which) (gets v which o)
tells-got v name which None = tt
tells-got v name which (Some known) = by (row_by known.stream.rows which)
  where
    of : Option Numbered → Answered
    of None = Err refusal.NoMessage
    of (Some row) = Ok (reads v (outcome.Found row))

    by : (o : Option Numbered) → Tells (call.Get name which) (of o)
    by None = tt
    by (Some row) = tells-none (call.Get name which) (reads v (outcome.Found row)) refl

tells-shown : (v : View) (name : List ℕ) (o : Option NameFacts) → Tells (call.Info name) (informs v name o)
tells-shown v name None = tt
tells-shown v name (Some known) = tells-none (call.Info name) _ refl

tells-making : (c : ShardCall) (v : View) (now : ℕ) (known : NameFacts) (name : List ℕ) (what : Wanted) (o : Option ConsumerState) → Tells c (makes_for v now known name what o)
tells-making c v now known name what None = tells-if c (leb 1024 (count_by (reads_stream name) v.consumers)) (Err refusal.TooManyConsumers) (Ok (makes_consumer v now known name what)) tt (tells-none c (makes_consumer v now known name what) refl)
tells-making c v now known name what (Some present) = tells-if c (is_earlier present.wanted.attempt what.attempt) (Ok (makes_consumer v now known name what)) (Err (refusal.OldAttempt present.wanted.attempt what.attempt)) (tells-none c (makes_consumer v now known name what) refl) tt

tells-asked : (c : ShardCall) (v : View) (now : ℕ) (name : List ℕ) (asker : AskerId) (attempt : Stamp) (origin : List ℕ) (start : Start) (filters : List (List ℕ)) (o : Option NameFacts) → Tells c (makes_asked v now name asker attempt origin start filters o)
tells-asked c v now name asker attempt origin start filters None = tt
tells-asked c v now name asker attempt origin start filters (Some known) =
    tells-making c v now known name (record { asker = asker; attempt = attempt; origin = origin; start = consumer_start known.stream start; filters = filters }) (find (serves name asker) v.consumers)

tells-made : (c : ShardCall) (v : View) (now : ℕ) (ask : Packet) → Tells c (makes v now ask)
tells-made c v now (Ask asker attempt origin stream start filters) = tells-asked c v now stream asker attempt origin start filters (live_in v.image stream)
tells-made c v now (Answer asker attempt consumer incarnation start) = tt
tells-made c v now (Refuse asker attempt code err_code) = tt
tells-made c v now (Delivery asker attempt stream consumer number seq pending message) = tt
tells-made c v now (Beat asker attempt origin stream consumer last_number last_seq stalled) = tt
tells-made c v now (FlowAsk asker attempt origin stream consumer token) = tt
tells-made c v now (FlowReply origin stream consumer token) = tt

tells-pumped : (c : ShardCall) (v : View) (name : List ℕ) (budget now : ℕ) (o : Option NameFacts) → Tells c (pumps v name budget now o)
tells-pumped c v name budget now None = tt
tells-pumped c v name budget now (Some known) = tells-none c _ refl

tells-token : (c : ShardCall) (v : View) (stream : List ℕ) (consumer : Stamp) (token : ℕ) (o : Option NameFacts) → Tells c (takes_at v stream consumer token o)
tells-token c v stream consumer token None = tt
tells-token c v stream consumer token (Some known) = tells-none c _ refl

tells-replied : (c : ShardCall) (v : View) (packet : Packet) → Tells c (takes_reply v packet)
tells-replied c v (Ask asker attempt origin stream start filters) = tt
tells-replied c v (Answer asker attempt consumer incarnation start) = tt
tells-replied c v (Refuse asker attempt code err_code) = tt
tells-replied c v (Delivery asker attempt stream consumer number seq pending message) = tt
tells-replied c v (Beat asker attempt origin stream consumer last_number last_seq stalled) = tt
tells-replied c v (FlowAsk asker attempt origin stream consumer token) = tt
tells-replied c v (FlowReply origin stream consumer token) = tells-token c v stream consumer token (live_in v.image stream)

tells-reached : (c : ShardCall) (v : View) (node : List ℕ) (there : Bool) (now : ℕ) → Tells c (Ok (reaches v node there now))
tells-reached c v node true now = tells-none c (reaches v node true now) refl
tells-reached c v node false now = tells-none c (reaches v node false now) refl

tells : (v : View) (c : ShardCall) (answer : Answered) → Answers v c answer → Tells c answer
tells v (call.Create config now) answer a = tells-created v config now (config_fault config) (live_in v.image config.name) answer a
tells v (call.Update config) answer a = tells-updated v config (config_fault config) (live_in v.image config.name) answer a
tells v (call.Remove name) answer a = subst (Tells (call.Remove name)) (sym a) (tells-removed v name (live_in v.image name))
tells v (call.Publish name message now) answer a = subst (Tells (call.Publish name message now)) (sym a) (tells-published v name message now (live_in v.image name))
tells v (call.Delete name seq) answer a = subst (Tells (call.Delete name seq)) (sym a) (tells-deleted v name seq (live_in v.image name))
tells v (call.Purge name pattern below) answer a = subst (Tells (call.Purge name pattern below)) (sym a) (tells-purged v name pattern below (live_in v.image name))
tells v (call.Expire name now) answer a = subst (Tells (call.Expire name now)) (sym a) (tells-expired v name now (live_in v.image name))
tells v (call.Get name which) answer a = subst (Tells (call.Get name which)) (sym a) (tells-got v name which (live_in v.image name))
tells v (call.Info name) answer a = subst (Tells (call.Info name)) (sym a) (tells-shown v name (live_in v.image name))
tells v call.Names answer a = subst (Tells call.Names) (sym a) (tells-none call.Names _ refl)
tells v (call.MakeConsumer ask now) answer a = subst (Tells (call.MakeConsumer ask now)) (sym a) (tells-made (call.MakeConsumer ask now) v now ask)
tells v (call.Pump name budget now) answer a = subst (Tells (call.Pump name budget now)) (sym a) (tells-pumped (call.Pump name budget now) v name budget now (live_in v.image name))
tells v (call.FlowReply packet) answer a = subst (Tells (call.FlowReply packet)) (sym a) (tells-replied (call.FlowReply packet) v packet)
tells v (call.Reach node there now) answer a = subst (Tells (call.Reach node there now)) (sym a) (tells-reached (call.Reach node there now) v node there now)
tells v (call.Heard packet now) answer a = subst (Tells (call.Heard packet now)) (sym a) (tells-heard v now packet (copy_of_asker v (addressee packet)) refl)
tells v (call.Tick now) answer a = subst (Tells (call.Tick now)) (sym a) (tells-none (call.Tick now) (ticks v now) refl)
tells v call.LinkLost answer a = subst (Tells call.LinkLost) (sym a) (tells-none call.LinkLost _ refl)

-- ---- the law

-- the entry of an answer is the last of its stream
record WrittenNow (c : ShardCall) (e : Entry) (log : List Rec) : Type 0 where
  name : List ℕ
  writes : written_to c ≡ Some name
  incarnation_then : ℕ
  stream : Made
  made_then : made log name incarnation_then ≡ Some stream
  earlier : List Entry
  entry : stream.history.entries ≡ earlier ++ e ∷ []

one_of : (o : Option Rec) (r : Rec) → option_list o ≡ r ∷ [] → o ≡ Some r
one_of None r e = absurd (cc)
one_of (Some x) r e = cc

written-now : Laws → (mid new : ShardState) (c : ShardCall) (does : Effect) (e : Entry) → ShardOk mid → mid.held.loaded ≡ true → AnswersOn mid c does new → does.reply.entry ≡ Some e → WrittenNow c e new.log
written-now laws mid new c does e ok loaded a is =
    let w = tells (view_in mid.held) c (Ok does) a.answers e is in
    let r = row laws mid new c does ok loaded a in
    let may : MayStand mid.log (Of w.name e) = r.adds.may (Of w.name e) (one_of r.adds.one (Of w.name e) (sym r.adds.are ∙ w.record_is)) in
    let m : Made = may.follows.1 in
    let log : new.log ≡ mid.log ++ Of w.name e ∷ [] = a.log ∙ ap (λ (l : List Rec). mid.log ++ l) w.record_is in
    let live_then : live (mid.log ++ Of w.name e ∷ []) w.name ≡ Some (with_change e m) = live-entry mid.log w.name e m may.follows.2 in
    record {
      name = w.name;
      writes = w.writes;
      incarnation_then = incarnation (mid.log ++ Of w.name e ∷ []) w.name;
      stream = with_change e m;
      made_then = subst (λ (l : List Rec). made l w.name (incarnation (mid.log ++ Of w.name e ∷ []) w.name) ≡ Some (with_change e m)) (sym log) (live-is (mid.log ++ Of w.name e ∷ []) w.name (with_change e m) live_then).1;
      earlier = m.history.entries;
      entry = refl;
    }

survives-by : Laws → (old new later : ShardState) (c : ShardCall) (reply : ShardReply) (e : Entry) → ShardOk old → Came old c reply new → ShardGrows new later → IsAccepted reply.outcome → reply.entry ≡ Some e → (name : List ℕ) × (written_to c ≡ Some name) × Survives new.log later.log name e
survives-by laws old new later c reply e ok (Fine a) g taken is =
    let r = ShardOk-ready laws old a.mid ok a.ready in
    let w = written-now laws a.mid new c a.does e r.0 r.1 a.answers (ap (λ (x : ShardReply). x.entry) (sym a.replies) ∙ is) in
    let on = g.mades w.name w.incarnation_then w.stream w.made_then in (
      w.name,
      w.writes,
      record {
        incarnation = w.incarnation_then;
        stream = w.stream;
        made_then = w.made_then;
        earlier = w.earlier;
        entry = w.entry;
        stream_later = on.0;
        made_later = on.1;
        rest = on.2.history.rest;
        entries = on.2.history.entries ∙ (ap (λ (l : List Entry). l ++ on.2.history.rest) w.entry ∙ append_assoc w.earlier (e ∷ []) on.2.history.rest);
      },
    )
survives-by laws old new later c reply e ok (Down why t) g taken is = absurd (subst IsAccepted t.outcome_is taken)
survives-by laws old new later c reply e ok (Fault f) g taken is = absurd (subst IsAccepted f.outcome_is taken)

-- ---- refusals

settled-none : (d : Option Rec) → IsSettled d []
settled-none None = refl
settled-none (Some r) = inl refl

module _ (old new : ShardState) (records : List Rec) (log : new.log ≡ old.log ++ records) where
  only-ready : (x : Held) → IsReady old.held records x → OnlyLoads old new
  only-ready x r = by old.held.loaded refl
    where
      by : (b : Bool) → old.held.loaded ≡ b → OnlyLoads old new
      by true q = record { settled = []; in_or_out = settled-none old.held.doubt; records = records; log = log; are = inl (r.same q).1 }
      by false q = let l = r.loads q in record { settled = l.settled; in_or_out = l.in_or_out; records = records; log = log; are = inr (inr l.joins) }

  only-none : records ≡ [] → OnlyLoads old new
  only-none e = record { settled = []; in_or_out = settled-none old.held.doubt; records = records; log = log; are = inl e }

  only-settled : IsSettled old.held.doubt records → OnlyLoads old new
  only-settled e = record { settled = records; in_or_out = e; records = records; log = log; are = inr (inl refl) }

  only-lacks : (c : ShardCall) (end need : ℕ) → LacksRoom old.held c end need records new.held ⊎ LacksRoomToLoad old.held end need records new.held → OnlyLoads old new
  only-lacks c end need (inl l) = only-ready new.held l.is_ready
  only-lacks c end need (inr l) = only-none l.none

  only-stays : StaysOrLoads old.held records new.held → OnlyLoads old new
  only-stays (inl same) = only-none same.1
  only-stays (inr r) = only-ready new.held r

  only-faulty : (c : ShardCall) (made_entry : Option Entry) → Faults old.held c made_entry records new.held ⊎ FailsToLoad old.held made_entry records new.held → OnlyLoads old new
  only-faulty c made_entry (inl f) = only-ready f.ready f.is_ready
  only-faulty c made_entry (inr f) = elim f.result [ inl same ↦ only-none same.1 | inr w ↦ only-settled w.0 ]

  only-refused : (c : ShardCall) (why : ShardRefusal) (made_entry : Option Entry) → Refuses old.held c why made_entry records new.held → OnlyLoads old new
  only-refused c (refusal.Of why) made_entry r = only-ready new.held r.1.is_ready
  only-refused c refusal.NoStream made_entry r = only-ready new.held r.1.is_ready
  only-refused c (refusal.BadConfig member) made_entry r = only-ready new.held r.1.is_ready
  only-refused c refusal.NameTaken made_entry r = only-ready new.held r.1.is_ready
  only-refused c refusal.TooManyStreams made_entry r = only-ready new.held r.1.is_ready
  only-refused c (refusal.OldAttempt kept seen) made_entry r = only-ready new.held r.1.is_ready
  only-refused c refusal.TooManyConsumers made_entry r = only-ready new.held r.1.is_ready
  only-refused c refusal.NoMessage made_entry r = only-ready new.held r.1.is_ready
  only-refused c (refusal.JournalFull end need) made_entry r = only-lacks c end need r.1
  only-refused c (refusal.BadJournal place) made_entry r = only-none r.1.none
  only-refused c refusal.NoMemory made_entry r = only-stays r.1
  only-refused c refusal.DiskFault made_entry r = only-faulty c made_entry r

  only-by : (o : Outcome) (c : ShardCall) (reply : ShardReply) → (IsAccepted o → ⊥) → StepTo o old.held c reply records new.held → OnlyLoads old new
  only-by (outcome.Made fresh) c reply no_one s = absurd (no_one tt)
  only-by outcome.Updated c reply no_one s = absurd (no_one tt)
  only-by outcome.Removed c reply no_one s = absurd (no_one tt)
  only-by (outcome.Stored seq) c reply no_one s = absurd (no_one tt)
  only-by (outcome.Duplicate seq) c reply no_one s = absurd (no_one tt)
  only-by outcome.Deleted c reply no_one s = absurd (no_one tt)
  only-by (outcome.Purged count) c reply no_one s = absurd (no_one tt)
  only-by (outcome.Expired count) c reply no_one s = absurd (no_one tt)
  only-by (outcome.Found found) c reply no_one s = absurd (no_one tt)
  only-by (outcome.Info facts) c reply no_one s = absurd (no_one tt)
  only-by (outcome.Listed names) c reply no_one s = absurd (no_one tt)
  only-by (outcome.Consumer name) c reply no_one s = absurd (no_one tt)
  only-by outcome.Sent c reply no_one s = absurd (no_one tt)
  only-by (outcome.Heard decision) c reply no_one s = absurd (no_one tt)
  only-by (outcome.Refused why) c reply no_one s = only-refused c why s.doubted s.refuses

-- What was acknowledged lasts.
pub acknowledged-survives : Laws → AcknowledgedSurvives
acknowledged-survives laws first old new later before after node k c reply empty run calls run_after =
    let inv_old : Inv old = Inv-run laws first before old (Inv-empty first empty) run in
    let inv_new : Inv new = Inv-event laws old (Call node k c reply) new inv_old calls in
    let inv_later : Inv later = Inv-run laws new after later inv_new run_after in
    let g : ShardGrows (new.shard node k) (later.shard node k) = run-grows laws new after later inv_new run_after node k in
    let m = calls.moves in
    record {
      more = g.more;
      grows = g.log;
      image_is = (inv_later.shards node k).image_is;
      survives = λ e taken is. survives-by laws (old.shard node k) (new.shard node k) (later.shard node k) c reply e (inv_old.shards node k) (moves-came (old.shard node k) c reply (new.shard node k) m (inv_old.shards node k)) g taken is;
      refused = λ no_one. only-by (old.shard node k) (new.shard node k) m.records m.log reply.outcome c reply no_one m.step;
    }
