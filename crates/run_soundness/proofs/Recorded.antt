-- Which records an answer makes: a stream, its end, a client's entry, or the entry of a copy's decision.
use Rattle.std.proofs.Common.{◌≡◌, ℕ, ◌+◌, max, Bool, true, false, cond, ◌==◌, leb, List, [], ◌∷◌, Option, Some, None, Result, Ok, Err, refl, sym, ap, ◌∙◌, subst, ◌⊎◌, inl, inr, count_by}
use Rattle.std.specs.Prelude.{⊤}
use Rattle.std.specs.List.{find}
use Rattle.nats_text.specs.declared.message.Message.{Message}
use Rattle.nats_text.specs.declared.message.Stamp.{Stamp}
use Rattle.nats_text.specs.declared.message.Start.{Start}
use Rattle.nats_text.specs.declared.origin.Origin.{Origin}
use Rattle.js_wire.specs.declared.packet.AskerId.{AskerId}
use Rattle.js_wire.specs.declared.packet.Packet.{Packet}
use Rattle.js_wire.specs.declared.packet.Packet.TheVariants.{Ask, Answer, Refuse, Delivery, Beat, FlowAsk, FlowReply}
use Rattle.stream_fold.specs.declared.config.Config.{Config}
use Rattle.stream_fold.specs.declared.config.Copies.{Copies}
use Rattle.stream_fold.specs.declared.config.Copies.TheVariants.{Mirror}
use Rattle.stream_fold.specs.declared.decision.Decision.{Decision}
use Rattle.stream_fold.specs.declared.decision.Decision.TheVariants.{Store, Bind as Binds, Rebind, Skip, Ignore, AskAgain, Reply, Heard as Hears, Refused as IsRefused, Stop}
use Rattle.stream_fold.specs.declared.entry.Entry.{Entry}
use Rattle.stream_fold.specs.declared.entry.Entry.TheVariants.{Put, Del, Purge, Expire, Limits}
use Rattle.stream_fold.specs.declared.entry.Numbered.{Numbered}
use Rattle.stream_fold.specs.declared.verdict.Refusal.{Refusal}
use Rattle.stream_fold.specs.declared.verdict.Refusal.TheVariants.{IsMirror}
use Rattle.stream_fold.specs.declared.verdict.Verdict.{Verdict}
use Rattle.stream_fold.specs.declared.verdict.Verdict.TheVariants.{Fresh, Duplicate as IsDuplicate}
use Rattle.stream_fold.specs.Checking.{config_fault, is_mirror}
use Rattle.stream_fold.specs.Copying.{PassesBy, IsNoPut}
use Rattle.stream_fold.specs.Facts.{verdict_by_facts}
use Rattle.stream_fold.specs.Histories.{is_purged, is_expired, message_at}
use Rattle.stream_fold.specs.Publishing.{verdict_behind, header_refusal, bad_header}
use Rattle.push_consumer.specs.declared.wanted.Wanted.{Wanted}
use Rattle.push_consumer.specs.Progress.{ConsumerState}
use Rattle.source_core.specs.Decisions.{at_time}
use Rattle.record_codec.specs.declared.records.Rec.{Rec}
use Rattle.record_codec.specs.declared.records.Rec.TheVariants.{Boot, Create, Remove, Of}
use Rattle.shard_machine.specs.declared.call.ShardCall.{ShardCall}
use Rattle.shard_machine.specs.declared.call.ShardCall.TheVariants as call
use Rattle.shard_machine.specs.declared.call.Which.{Which}
use Rattle.shard_machine.specs.declared.reply.Outcome.{Outcome}
use Rattle.shard_machine.specs.declared.reply.Outcome.TheVariants as outcome
use Rattle.shard_machine.specs.declared.reply.ShardRefusal.TheVariants as refusal
use Rattle.shard_machine.specs.Images.{NameFacts, live_in}
use Rattle.shard_machine.specs.Views.{View, Effect, Copy, asker_of, reads, writes}
use Rattle.shard_machine.specs.Answers.{Answered, Answers, Creates, creates, Updates, removes, publishes, publishes_by, takes_subject, transformed, deletes, takes, purges, below_or_all, expires, gets, row_by, informs, makes, makes_asked, makes_for, makes_consumer, is_earlier, serves, consumer_start, reads_stream, pumps, takes_reply, takes_at, reaches, addressee, copy_of_asker, decided_by, follows, hears}
use Rattle.run_soundness.proofs.Following.{entry_by}

-- an entry that no copy of its stream stores
pub record IsClient (copies : Copies) (e : Entry) : Type 0 where
  pub passes : (i : ℕ) → PassesBy i e
  pub mirror : (o : Origin) → copies ≡ Mirror o → IsNoPut e

-- a call of a client writes the entry
pub record ClientWrites (v : View) (name : List ℕ) (e : Entry) : Type 0 where
  pub known : NameFacts
  pub here : live_in v.image name ≡ Some known
  pub client : IsClient known.stream.config.copies e

-- a copy that heard a packet writes it
pub record HeardWrites (v : View) (called : ShardCall) (name : List ℕ) (e : Entry) : Type 0 where
  pub packet : Packet
  pub now : ℕ
  pub c : Copy
  pub is : called ≡ call.Heard packet now
  pub found : copy_of_asker v (addressee packet) ≡ Some c
  pub stream : c.stream ≡ name
  pub entry : entry_by (decided_by c.facts.config.copies v c now packet) ≡ Some e

-- the records of an answer
abbrev pub RecordsOk : View → ShardCall → List Rec → Type 0
RecordsOk v called [] = ⊤
RecordsOk v called (Boot n ∷ rs) = ⊥
RecordsOk v called (Create t c ∷ rs) = (rs ≡ []) × ((now : ℕ) × (called ≡ call.Create c now))
RecordsOk v called (Remove name ∷ rs) = rs ≡ []
RecordsOk v called (Of name e ∷ rs) = (rs ≡ []) × (ClientWrites v name e ⊎ HeardWrites v called name e)

abbrev WroteOk : View → ShardCall → Answered → Type 0
WroteOk v called (Ok does) = RecordsOk v called does.records
WroteOk v called (Err why) = ⊤

no-mirror : (t : Bool) (x : Option Refusal) (r : Option ℕ) (l : Option Refusal) → verdict_behind (cond t (Some IsMirror) x) r l ≡ Ok Fresh → t ≡ false
no-mirror true x r l e = absurd (cc)
no-mirror false x r l e = refl

mirror-false : (copies : Copies) (o : Origin) → is_mirror copies ≡ false → copies ≡ Mirror o → ⊥
mirror-false copies o f e = let z : true ≡ false = ap is_mirror (sym e) ∙ f in cc

module _ (v : View) (called : ShardCall) where
  ok-if : (t : Bool) (a b : Answered) → WroteOk v called a → WroteOk v called b → WroteOk v called (cond t a b)
  ok-if true a b x y = x
  ok-if false a b x y = y

  wrote : (name : List ℕ) (known : NameFacts) (e : Entry) (o : Outcome) → live_in v.image name ≡ Some known → IsClient known.stream.config.copies e → WroteOk v called (Ok (writes v name known.stream e o))
  wrote name known e o here client = (refl, inl (record { known = known; here = here; client = client }))

  takes-ok : (name : List ℕ) (known : NameFacts) (e : Entry) (count : ℕ) (o : Outcome) → live_in v.image name ≡ Some known → IsClient known.stream.config.copies e → WroteOk v called (takes v name known.stream e count o)
  takes-ok name known e count o here client = ok-if (count == 0) (Ok (reads v o)) (Ok (writes v name known.stream e o)) tt (wrote name known e o here client)

  updates-ok : (config : Config) (fault : Option (List ℕ)) (known : Option NameFacts) (does : Effect) → live_in v.image config.name ≡ known → Updates v config fault known (Ok does) → RecordsOk v called does.records
  updates-ok config fault None does here u = absurd (let z : Ok does ≡ Err refusal.NoStream = u in cc)
  updates-ok config (Some member) (Some known) does here u = absurd (let z : Ok does ≡ Err (refusal.BadConfig member) = u in cc)
  updates-ok config None (Some known) does here (inl u) = subst (WroteOk v called) (sym u.1) (wrote config.name known (Limits config) outcome.Updated here (record { passes = λ i. tt; mirror = λ o e. tt }))
  updates-ok config None (Some known) does here (inr u) = absurd (let z = u.1 in cc)

  publish-by : (name : List ℕ) (known : NameFacts) (m : Message) (now : ℕ) (o : Result Verdict Refusal) → live_in v.image name ≡ Some known → verdict_by_facts known.stream m now ≡ o → WroteOk v called (publishes_by v name known.stream m now o)
  publish-by name known m now (Ok Fresh) here e =
      wrote name known (Put (known.stream.last + 1) (at_time (max now known.stream.clock) m) None) (outcome.Stored (known.stream.last + 1)) here (record {
        passes = λ i. refl;
        mirror = λ o is. absurd (mirror-false known.stream.config.copies o (no-mirror (is_mirror known.stream.config.copies) (header_refusal known.stream.config m (bad_header m)) _ _ e) is);
      })
  publish-by name known m now (Ok (IsDuplicate seq)) here e = tt
  publish-by name known m now (Err why) here e = tt

  publish-ok : (name : List ℕ) (m : Message) (now : ℕ) (o : Option NameFacts) → live_in v.image name ≡ o → WroteOk v called (publishes v name m now o)
  publish-ok name m now None here = tt
  publish-ok name m now (Some known) here = ok-if (takes_subject known.stream.config m.subject) _ (Err refusal.NoStream) (publish-by name known (transformed known.stream.config m) now (verdict_by_facts known.stream (transformed known.stream.config m) now) here refl) tt

  deletes-ok : (name : List ℕ) (seq : ℕ) (o : Option NameFacts) → live_in v.image name ≡ o → WroteOk v called (deletes v name seq o)
  deletes-ok name seq None here = tt
  deletes-ok name seq (Some known) here = by (message_at seq known.stream.rows)
    where
      deleted : Option Message → Answered
      deleted None = Err refusal.NoMessage
      deleted (Some m) = Ok (writes v name known.stream (Del seq) outcome.Deleted)

      by : (m : Option Message) → WroteOk v called (deleted m)
      by None = tt
      by (Some m) = wrote name known (Del seq) outcome.Deleted here (record { passes = λ i. tt; mirror = λ o e. tt })

  purges-ok : (name pattern : List ℕ) (below : Option ℕ) (o : Option NameFacts) → live_in v.image name ≡ o → WroteOk v called (purges v name pattern below o)
  purges-ok name pattern below None here = tt
  purges-ok name pattern below (Some known) here = takes-ok name known (Purge pattern (below_or_all below known.stream.last)) (count_by (is_purged pattern (below_or_all below known.stream.last)) known.stream.rows) (outcome.Purged (count_by (is_purged pattern (below_or_all below known.stream.last)) known.stream.rows)) here (record { passes = λ i. tt; mirror = λ o e. tt })

  expires-ok : (name : List ℕ) (now : ℕ) (o : Option NameFacts) → live_in v.image name ≡ o → WroteOk v called (expires v name now o)
  expires-ok name now None here = tt
  expires-ok name now (Some known) here = takes-ok name known (Expire now) (count_by (is_expired known.stream.config.max_age now) known.stream.rows) (outcome.Expired (count_by (is_expired known.stream.config.max_age now) known.stream.rows)) here (record { passes = λ i. tt; mirror = λ o e. tt })

  gets-ok : (which : Which) (o : Option NameFacts) → WroteOk v called (gets v which o)
  gets-ok which None = tt
  gets-ok which (Some known) = by (row_by known.stream.rows which)
    where
      got : Option Numbered → Answered
      got None = Err refusal.NoMessage
      got (Some row) = Ok (reads v (outcome.Found row))

      by : (r : Option Numbered) → WroteOk v called (got r)
      by None = tt
      by (Some row) = tt

  informs-ok : (name : List ℕ) (o : Option NameFacts) → WroteOk v called (informs v name o)
  informs-ok name None = tt
  informs-ok name (Some known) = tt

  removes-ok : (name : List ℕ) (o : Option NameFacts) → WroteOk v called (removes v name o)
  removes-ok name None = tt
  removes-ok name (Some known) = refl

  makes-for : (now : ℕ) (known : NameFacts) (name : List ℕ) (what : Wanted) (o : Option ConsumerState) → WroteOk v called (makes_for v now known name what o)
  makes-for now known name what None = ok-if (leb 1024 (count_by (reads_stream name) v.consumers)) (Err refusal.TooManyConsumers) (Ok (makes_consumer v now known name what)) tt tt
  makes-for now known name what (Some present) = ok-if (is_earlier present.wanted.attempt what.attempt) (Ok (makes_consumer v now known name what)) (Err (refusal.OldAttempt present.wanted.attempt what.attempt)) tt tt

  makes-asked : (now : ℕ) (name : List ℕ) (asker : AskerId) (attempt : Stamp) (origin : List ℕ) (from : Start) (filters : List (List ℕ)) (o : Option NameFacts) → WroteOk v called (makes_asked v now name asker attempt origin from filters o)
  makes-asked now name asker attempt origin from filters None = tt
  makes-asked now name asker attempt origin from filters (Some known) = makes-for now known name (record { asker = asker; attempt = attempt; origin = origin; start = consumer_start known.stream from; filters = filters }) (find (serves name asker) v.consumers)

  makes-ok : (now : ℕ) (p : Packet) → WroteOk v called (makes v now p)
  makes-ok now (Ask asker attempt origin stream from filters) = makes-asked now stream asker attempt origin from filters (live_in v.image stream)
  makes-ok now (Answer a b c d e) = tt
  makes-ok now (Refuse a b c d) = tt
  makes-ok now (Delivery a b c d e f g h) = tt
  makes-ok now (Beat a b c d e f g h) = tt
  makes-ok now (FlowAsk a b c d e f) = tt
  makes-ok now (FlowReply a b c d) = tt

  pumps-ok : (name : List ℕ) (budget now : ℕ) (o : Option NameFacts) → WroteOk v called (pumps v name budget now o)
  pumps-ok name budget now None = tt
  pumps-ok name budget now (Some known) = tt

  takes-at : (name : List ℕ) (consumer : Stamp) (token : ℕ) (o : Option NameFacts) → WroteOk v called (takes_at v name consumer token o)
  takes-at name consumer token None = tt
  takes-at name consumer token (Some known) = tt

  reply-ok : (p : Packet) → WroteOk v called (takes_reply v p)
  reply-ok (Ask a b c d e f) = tt
  reply-ok (Answer a b c d e) = tt
  reply-ok (Refuse a b c d) = tt
  reply-ok (Delivery a b c d e f g h) = tt
  reply-ok (Beat a b c d e f g h) = tt
  reply-ok (FlowAsk a b c d e f) = tt
  reply-ok (FlowReply origin stream consumer token) = takes-at stream consumer token (live_in v.image stream)

  reaches-ok : (node : List ℕ) (there : Bool) (now : ℕ) → RecordsOk v called (reaches v node there now).records
  reaches-ok node true now = tt
  reaches-ok node false now = tt

  follows-ok : (c : Copy) (now : ℕ) (packet : Packet) (d : Decision) → called ≡ call.Heard packet now → copy_of_asker v (addressee packet) ≡ Some c → decided_by c.facts.config.copies v c now packet ≡ d → RecordsOk v called (follows v c now packet (asker_of v c).phase d).records
  follows-ok c now packet (Store e) is found by = (refl, inr (record { packet = packet; now = now; c = c; is = is; found = found; stream = refl; entry = ap entry_by by }))
  follows-ok c now packet (Binds e) is found by = (refl, inr (record { packet = packet; now = now; c = c; is = is; found = found; stream = refl; entry = ap entry_by by }))
  follows-ok c now packet Rebind is found by = tt
  follows-ok c now packet Skip is found by = tt
  follows-ok c now packet (Ignore why) is found by = tt
  follows-ok c now packet (AskAgain why) is found by = tt
  follows-ok c now packet Reply is found by = tt
  follows-ok c now packet Hears is found by = tt
  follows-ok c now packet IsRefused is found by = tt
  follows-ok c now packet (Stop kept seen) is found by = tt

  hears-ok : (now : ℕ) (packet : Packet) (o : Option Copy) → called ≡ call.Heard packet now → copy_of_asker v (addressee packet) ≡ o → RecordsOk v called (hears v now packet o).records
  hears-ok now packet None is found = tt
  hears-ok now packet (Some c) is found = follows-ok c now packet (decided_by c.facts.config.copies v c now packet) is found refl

  creates-ok : (config : Config) (now : ℕ) (fault : Option (List ℕ)) (known : Option NameFacts) (does : Effect) → called ≡ call.Create config now → Creates v config now fault known (Ok does) → RecordsOk v called does.records
  creates-ok config now (Some member) known does is u = absurd (let z : Ok does ≡ Err (refusal.BadConfig member) = u in cc)
  creates-ok config now None (Some known) does is (inl u) = subst (WroteOk v called) (sym u.1) tt
  creates-ok config now None (Some known) does is (inr u) = absurd (let z = u.1 in cc)
  creates-ok config now None None does is u = subst (WroteOk v called) (sym u) (ok-if _ (Err refusal.TooManyStreams) (Ok (creates v config now)) tt (refl, (now, is)))

-- the records of whatever is answered
pub records-ok : (v : View) (called : ShardCall) (does : Effect) → Answers v called (Ok does) → RecordsOk v called does.records
records-ok v (call.Create config now) does a = creates-ok v (call.Create config now) config now (config_fault config) (live_in v.image config.name) does refl a
records-ok v (call.Update config) does a = updates-ok v (call.Update config) config (config_fault config) (live_in v.image config.name) does refl a
records-ok v (call.Remove name) does a = subst (WroteOk v (call.Remove name)) (sym a) (removes-ok v (call.Remove name) name (live_in v.image name))
records-ok v (call.Publish name message now) does a = subst (WroteOk v (call.Publish name message now)) (sym a) (publish-ok v (call.Publish name message now) name message now (live_in v.image name) refl)
records-ok v (call.Delete name seq) does a = subst (WroteOk v (call.Delete name seq)) (sym a) (deletes-ok v (call.Delete name seq) name seq (live_in v.image name) refl)
records-ok v (call.Purge name pattern below) does a = subst (WroteOk v (call.Purge name pattern below)) (sym a) (purges-ok v (call.Purge name pattern below) name pattern below (live_in v.image name) refl)
records-ok v (call.Expire name now) does a = subst (WroteOk v (call.Expire name now)) (sym a) (expires-ok v (call.Expire name now) name now (live_in v.image name) refl)
records-ok v (call.Get name which) does a = subst (WroteOk v (call.Get name which)) (sym a) (gets-ok v (call.Get name which) which (live_in v.image name))
records-ok v (call.Info name) does a = subst (WroteOk v (call.Info name)) (sym a) (informs-ok v (call.Info name) name (live_in v.image name))
records-ok v call.Names does a = subst (WroteOk v call.Names) (sym a) tt
records-ok v (call.MakeConsumer ask now) does a = subst (WroteOk v (call.MakeConsumer ask now)) (sym a) (makes-ok v (call.MakeConsumer ask now) now ask)
records-ok v (call.Pump name budget now) does a = subst (WroteOk v (call.Pump name budget now)) (sym a) (pumps-ok v (call.Pump name budget now) name budget now (live_in v.image name))
records-ok v (call.FlowReply packet) does a = subst (WroteOk v (call.FlowReply packet)) (sym a) (reply-ok v (call.FlowReply packet) packet)
records-ok v (call.Reach node there now) does a = subst (WroteOk v (call.Reach node there now)) (sym a) (reaches-ok v (call.Reach node there now) node there now)
records-ok v (call.Heard packet now) does a = subst (WroteOk v (call.Heard packet now)) (sym a) (hears-ok v (call.Heard packet now) now packet (copy_of_asker v (addressee packet)) refl refl)
records-ok v (call.Tick now) does a = subst (WroteOk v (call.Tick now)) (sym a) tt
records-ok v call.LinkLost does a = subst (WroteOk v call.LinkLost) (sym a) tt
