-- What an answer of a loaded shard leaves of its askers, and the whole of it.
use Rattle.std.proofs.Common.{◌≡◌, ◌≢◌, ℕ, true, false, List, [], ◌∷◌, ◌++◌, Option, Some, None, refl, sym, ap, ◌∙◌, subst, ◌⊎◌, inl, inr, append-nil}
use Rattle.std.specs.Prelude.{Contains, Ok}
use Rattle.std.proofs.lemmas.Bool.{cases_eq}
use Rattle.nats_text.specs.declared.message.Stamp.{Stamp}
use Rattle.nats_text.specs.declared.message.Start.{Start}
use Rattle.nats_text.specs.declared.origin.Origin.{Origin}
use Rattle.js_wire.specs.declared.packet.AskerId.{AskerId}
use Rattle.js_wire.specs.declared.packet.Packet.{Packet}
use Rattle.js_wire.specs.declared.packet.Packet.TheVariants.{Ask}
use Rattle.stream_fold.specs.declared.config.Config.{Config}
use Rattle.stream_fold.specs.declared.config.Copies.{Copies}
use Rattle.stream_fold.specs.declared.decision.Decision.{Decision}
use Rattle.stream_fold.specs.declared.decision.Decision.TheVariants.{Store, Bind as Binds, Rebind, Skip, Ignore, AskAgain, Reply, Heard as Hears, Refused as IsRefused, Stop}
use Rattle.stream_fold.specs.declared.entry.Entry.{Entry}
use Rattle.stream_fold.specs.Copying.{origin_named}
use Rattle.stream_fold.specs.Fits.{AllFit}
use Rattle.stream_fold.specs.Histories.{History, with_entry}
use Rattle.stream_fold.specs.RowLists.{seqs}
use Rattle.record_codec.specs.declared.records.Rec.{Rec}
use Rattle.record_codec.specs.declared.records.Rec.TheVariants.{Boot, Create, Remove, Of}
use Rattle.push_consumer.specs.declared.wanted.Wanted.{Wanted}
use Rattle.replica_ask.specs.Askers.{AskerState, with_phase}
use Rattle.replica_ask.specs.Filters.{filters_of}
use Rattle.replica_ask.specs.declared.phase.Phase.{Phase}
use Rattle.shard_machine.specs.declared.call.ShardCall.{ShardCall}
use Rattle.shard_machine.specs.declared.call.ShardCall.TheVariants as call
use Rattle.shard_machine.specs.Legal.{MayFollow}
use Rattle.shard_machine.specs.Logs.{Made, boot, incarnation, live, with_change}
use Rattle.shard_machine.specs.Views.{View, Effect, Copy, asker_or_new, asker_of, id_of, node_or, ask_start}
use Rattle.shard_machine.specs.Answers.{Answered, Answers, addressee, copy_of_asker, decided_by, hears, follows}
use Rattle.shard_machine.specs.Steps.{Held, view_in, after_effect}
use Rattle.run_soundness.specs.Shards.{Consumer, ShardState, delivered}
use Rattle.run_soundness.specs.Worlds.{World, MayCall, IsAskedHere}
use Rattle.run_soundness.specs.Soundness.{asker_at, IsCopy, copy_of, PhaseRight}
use Rattle.run_soundness.proofs.Asked.{AskersOk, AsksOk, HasAsked, AskerAfter, asker-after, made-asks, askers-ok-after, own-asks, asks-after}
use Rattle.run_soundness.proofs.Asked.AskerAfter.{Stays, Rests, Asks, Hears as HearsNow}
use Rattle.run_soundness.proofs.Following.{entry_by, phase_by, asks_again}
use Rattle.run_soundness.proofs.Hearing.{HearOk, with_maybe}
use Rattle.run_soundness.proofs.Invariant.{StreamsOk, IsHere, Inv, MadeNow, RowOk, PhaseAfter}
use Rattle.run_soundness.specs.Below.{Laws}
use Rattle.run_soundness.proofs.Logs.{LiveAdds, live-push, live-is, live-entry}
use Rattle.run_soundness.proofs.LogsLegal.{LogOk, live-ok}
use Rattle.run_soundness.proofs.Phases.{some_same, BothFit, PassesCopy, phase-passes}
use Rattle.run_soundness.proofs.Quiet.{future-none, idle-right}
use Rattle.run_soundness.proofs.Recorded.{IsClient, ClientWrites, HeardWrites, RecordsOk, records-ok}
use Rattle.run_soundness.proofs.Rows.{HeardEntry, heard-entry, or-phase, entry-again, heard-ok, old-phase, known-copies, client-passes, follows-last, next-streams}
use Rattle.run_soundness.proofs.ShardsAsked.{came-asked}
use Rattle.run_soundness.proofs.ShardsAskers.{stored_at, with_asker-own, written}
use Rattle.run_soundness.proofs.ShardsGrow.{Later, chain-now, grows-answers}
use Rattle.run_soundness.proofs.ShardsKept.{ShardOk, AnswersOn, ShardOk-answers}
use Rattle.run_soundness.proofs.ShardsSay.{says-answers}
use Rattle.run_soundness.proofs.Wanting.{mirror-origin}

-- what a copy that follows its decision leaves of its asker
follows-phase : (v : View) (c : Copy) (now : ℕ) (packet : Packet) (x : AskerId) (d : Decision) → asks_again d ≡ false → id_of v.node c ≡ x →
    (asker_or_new x v.image.boot (stored_at (follows v c now packet (asker_of v c).phase d).askers c.stream c.index)).phase ≡ phase_by d packet now (asker_of v c).phase
follows-phase v c now packet x (Store e) f i = ap (λ (o : Option AskerState). (asker_or_new x v.image.boot o).phase) (with_asker-own c.stream c.index (with_phase (asker_of v c) (phase_by (Store e) packet now (asker_of v c).phase)) v.askers)
follows-phase v c now packet x (Binds e) f i = ap (λ (o : Option AskerState). (asker_or_new x v.image.boot o).phase) (with_asker-own c.stream c.index (with_phase (asker_of v c) (phase_by (Binds e) packet now (asker_of v c).phase)) v.askers)
follows-phase v c now packet x Rebind f i = ap (λ (o : Option AskerState). (asker_or_new x v.image.boot o).phase) (with_asker-own c.stream c.index (with_phase (asker_of v c) (phase_by Rebind packet now (asker_of v c).phase)) v.askers)
follows-phase v c now packet x Skip f i = ap (λ (o : Option AskerState). (asker_or_new x v.image.boot o).phase) (with_asker-own c.stream c.index (with_phase (asker_of v c) (phase_by Skip packet now (asker_of v c).phase)) v.askers)
follows-phase v c now packet x (Ignore why) f i = or-phase x (id_of v.node c) v.image.boot (stored_at v.askers c.stream c.index)
follows-phase v c now packet x (AskAgain why) f i = absurd (cc)
follows-phase v c now packet x Reply f i = ap (λ (o : Option AskerState). (asker_or_new x v.image.boot o).phase) (with_asker-own c.stream c.index (with_phase (asker_of v c) (phase_by Reply packet now (asker_of v c).phase)) v.askers)
follows-phase v c now packet x Hears f i = ap (λ (o : Option AskerState). (asker_or_new x v.image.boot o).phase) (with_asker-own c.stream c.index (with_phase (asker_of v c) (phase_by Hears packet now (asker_of v c).phase)) v.askers)
follows-phase v c now packet x IsRefused f i = or-phase x (id_of v.node c) v.image.boot (stored_at v.askers c.stream c.index)
follows-phase v c now packet x (Stop kept seen) f i = ap (λ (o : Option AskerState). (asker_or_new x v.image.boot o).phase) (with_asker-own c.stream c.index (with_phase (asker_of v c) (phase_by (Stop kept seen) packet now (asker_of v c).phase)) v.askers)

any-phase : (x : AskerId) (b c : ℕ) (o : Option AskerState) → (asker_or_new x b o).phase ≡ (asker_or_new x c o).phase
any-phase x b c None = refl
any-phase x b c (Some st) = refl

abbrev answer_of : Effect → Answered
answer_of x = Ok x

same_Ok : (x y : Effect) → answer_of x ≡ answer_of y → x ≡ y
same_Ok x y e = cc

module _ (laws : Laws) (w : World) (n : List ℕ) (k : ℕ) (inv : Inv w) (loaded : (w.shard n k).held.loaded ≡ true) (called : ShardCall) (may : MayCall w.bag called n k) (does : Effect) (t : ShardState) (ans : AnswersOn (w.shard n k) called does t) where
  abbrev s : ShardState
  s = w.shard n k

  abbrev v : View
  v = view_in s.held

  ok : ShardOk s
  ok = inv.shards n k

  t-ok : ShardOk t
  t-ok = ShardOk-answers laws s t called does ok loaded ans

  fine : AskersOk s.held
  fine = record { stored = ((inv.askers n k).stored loaded).each }

  log-ok : LogOk (s.log ++ does.records)
  log-ok = subst LogOk ans.log t-ok.logs

  streams : StreamsOk w n k t.log
  streams = subst (StreamsOk w n k) (sym ans.log) (next-streams laws w n k inv loaded called may does ans.answers log-ok)

  t-node : t.held.node ≡ s.held.node
  t-node = ap (λ (h : Held). h.node) ans.becomes

  -- the present phase of an asker
  abbrev now_phase : AskerId → Phase
  now_phase a = (asker_at t.held a).phase

  -- the same copy by the log
  same-copy : (a : AskerId) (g h : History) (want other : Origin) → IsCopy t a g want → IsCopy t a h other → (h ≡ g) × (other ≡ want)
  same-copy a g h want other c d =
      let m : d.stream ≡ c.stream = some_same (live t.log a.stream) d.stream c.stream d.stands c.stands in
      let hg : h ≡ g = sym d.history ∙ (ap (λ (x : Made). x.history) m ∙ c.history) in
      (hg, some_same (origin_named a.index g.config.copies) other want (subst (λ (x : History). origin_named a.index x.config.copies ≡ Some other) hg d.origin) c.origin)

  -- an asker that has asked now
  asked-phase : (a : AskerId) (g : History) (want : Origin) → IsCopy t a g want → HasAsked does t a → PhaseAfter w does.reply.packets a g want (now_phase a)
  asked-phase a g want c h =
      let q = same-copy a g h.g want h.want c h.copy in
      inr (
        h.attempt,
        h.since,
        h.phase,
        subst (λ (x : Origin). Contains does.reply.packets (Ask a h.attempt (node_or a.node x.node) x.stream (ask_start (copy_of a g x)) (filters_of x))) q.1
            (subst (λ (x : History). Contains does.reply.packets (Ask a h.attempt (node_or a.node h.want.node) h.want.stream (ask_start (copy_of a x h.want)) (filters_of h.want))) q.0 h.sent),
      )

  -- what stands of the stream of a copy that heard a packet, by the entry that was written
  heard-stream : (a : AskerId) (g : History) (want : Origin) → (c : IsCopy s a g want) → (o : Option Entry) → does.records ≡ written a.stream o → (m : Made) × (live t.log a.stream ≡ Some m) × (m.history ≡ with_maybe g o)
  heard-stream a g want c None e = (c.stream, ap (λ l. live l a.stream) (ans.log ∙ (ap (λ (l : List Rec). s.log ++ l) e ∙ append-nil s.log)) ∙ c.stands, c.history)
  heard-stream a g want c (Some x) e = (with_change x c.stream, ap (λ l. live l a.stream) (ans.log ∙ ap (λ (l : List Rec). s.log ++ l) e) ∙ live-entry s.log a.stream x c.stream c.stands, ap (λ (h : History). with_entry h x) c.history)

  -- an asker whose copy heard the packet of the call
  heard-right : (a : AskerId) (packet : Packet) (now : ℕ) (g : History) (want : Origin) (d : Decision) → called ≡ call.Heard packet now → addressee packet ≡ Some a → IsCopy s a g want →
      d ≡ decided_by g.config.copies v (copy_of a g want) now packet → asks_again d ≡ false → does.records ≡ written a.stream (entry_by d) → now_phase a ≡ phase_by d packet now (asker_at s.held a).phase →
      (h : History) (other : Origin) → IsCopy t a h other → PhaseRight w a h other (now_phase a)
  heard-right a packet now g want d is own c d_is un records phase h other there =
      let st = heard-stream a g want c (entry_by d) records in
      let mine : IsCopy t a (with_maybe g (entry_by d)) want = record {
        node = c.node ∙ sym t-node;
        stream = st.0;
        stands = st.1;
        history = st.2;
        origin = config-kept g (entry_by d) c.origin;
      } in
      let q = same-copy a h (with_maybe g (entry_by d)) other want there mine in
      let fits : (e : Entry) → entry_by d ≡ Some e → AllFit (with_entry g e) = λ e x. subst AllFit (st.2 ∙ ap (with_maybe g) x) (live-ok t.log a.stream st.0 t-ok.logs st.1).fit in
      let hd : HearOk w a g want (entry_by d) (phase_by d packet now (asker_of v (copy_of a g want)).phase) =
      subst (λ (x : Decision). HearOk w a g want (entry_by x) (phase_by x packet now (asker_of v (copy_of a g want)).phase)) (sym d_is)
      (heard-ok laws w n k inv loaded called may a packet now is own g want c (subst (λ (x : Decision). asks_again x ≡ false) d_is un) (subst (λ (x : Decision). (e : Entry) → entry_by x ≡ Some e → AllFit (with_entry g e)) d_is fits)) in
      let same : phase_by d packet now (asker_of v (copy_of a g want)).phase ≡ now_phase a =
      ap (phase_by d packet now) (or-phase (id_of s.held.node (copy_of a g want)) a s.held.image.boot (stored_at s.held.askers a.stream a.index)) ∙ sym phase in
      subst (λ (x : Origin). PhaseRight w a h x (now_phase a)) q.1 (subst (λ (x : History). PhaseRight w a x want (now_phase a)) q.0 (subst (λ (p : Phase). PhaseRight w a (with_maybe g (entry_by d)) want p) same hd.phase))
    where
      config-kept : (x : History) (o : Option Entry) → origin_named a.index x.config.copies ≡ Some want → origin_named a.index (with_maybe x o).config.copies ≡ Some want
      config-kept x None e = e
      config-kept x (Some y) e = e

  -- a copy that is here and was here before, whose phase is right as it was
  settled : (a : AskerId) (g : History) (want : Origin) → IsCopy t a g want → (old : History) → IsCopy s a old want → ((p : Phase) → PhaseRight w a old want p → PhaseRight w a g want p) → AskerAfter s called does t a → PhaseAfter w does.reply.packets a g want (now_phase a)
  settled a g want c old was on (Stays e) = inl (subst (λ (st : AskerState). PhaseRight w a g want st.phase) (sym e) (on (asker_at s.held a).phase (old-phase laws w n k inv loaded a old want was)))
  settled a g want c old was on (Rests e) = inl (idle-right w a g want (now_phase a) e)
  settled a g want c old was on (Asks h) = asked-phase a g want c h
  settled a g want c old was on (HearsNow h) = inl (heard-right a h.packet h.now h.g h.want h.d h.is h.own h.copy h.d_is h.no_ask h.records h.phase g want c)

  after : (a : AskerId) → a.node ≡ s.held.node → AskerAfter s called does t a
  after a node = asker-after laws s t called does ok loaded fine ans a node

  -- the copy stands as it did
  unchanged : (a : AskerId) (g : History) (want : Origin) → (c : IsCopy t a g want) → live s.log a.stream ≡ Some c.stream → PhaseAfter w does.reply.packets a g want (now_phase a)
  unchanged a g want c l = settled a g want c g (record { node = c.node ∙ t-node; stream = c.stream; stands = l; history = c.history; origin = c.origin }) (λ p q. q) (after a (c.node ∙ t-node))

  -- the copy's own entry was written
  own-phase : (a : AskerId) (name : List ℕ) (e : Entry) (he : HeardEntry s called name e) → he.a ≡ a → does.records ≡ Of name e ∷ [] → (g : History) (want : Origin) → IsCopy t a g want → PhaseRight w a g want (now_phase a)
  own-phase a name e he same records g want c =
      let d : Decision = decided_by he.g.config.copies v (copy_of he.a he.g he.want) he.now he.packet in
      let un : asks_again d ≡ false = entry-again d e he.entry in
      let by : Answers v (call.Heard he.packet he.now) (Ok does) = subst (λ (x : ShardCall). Answers v x (Ok does)) he.is ans.answers in
      let is : does ≡ follows v (copy_of he.a he.g he.want) he.now he.packet (asker_of v (copy_of he.a he.g he.want)).phase d =
      same_Ok does (hears v he.now he.packet (copy_of_asker v (addressee he.packet))) by ∙ (ap (hears v he.now he.packet) he.found ∙ ap (λ (x : Copies). follows v (copy_of he.a he.g he.want) he.now he.packet (asker_of v (copy_of he.a he.g he.want)).phase (decided_by x v (copy_of he.a he.g he.want) he.now he.packet)) he.copies) in
      let id : id_of v.node (copy_of he.a he.g he.want) ≡ he.a = λ i. record { node = sym he.copy.node i; stream = he.a.stream; index = he.a.index } in
      let phase : now_phase he.a ≡ phase_by d he.packet he.now (asker_at s.held he.a).phase =
      ap (λ (h : Held). (asker_at h he.a).phase) ans.becomes
      ∙ (any-phase he.a (after_effect s.held does).image.boot v.image.boot (stored_at does.askers he.a.stream he.a.index)
      ∙ (ap (λ (x : Effect). (asker_or_new he.a v.image.boot (stored_at x.askers he.a.stream he.a.index)).phase) is
      ∙ (follows-phase v (copy_of he.a he.g he.want) he.now he.packet he.a d un id
      ∙ ap (phase_by d he.packet he.now) (or-phase (id_of s.held.node (copy_of he.a he.g he.want)) he.a s.held.image.boot (stored_at s.held.askers he.a.stream he.a.index))))) in
      let rec : does.records ≡ written he.a.stream (entry_by d) = records ∙ (ap (λ x. Of x e ∷ []) (sym he.stream) ∙ ap (written he.a.stream) (sym he.entry)) in
      let all : (h : History) (other : Origin) → IsCopy t he.a h other → PhaseRight w he.a h other (now_phase he.a) = heard-right he.a he.packet he.now he.g he.want d he.is he.own he.copy refl un rec phase in
      subst (λ (x : AskerId). (h : History) (other : Origin) → IsCopy t x h other → PhaseRight w x h other (now_phase x)) same all g want c

  -- an entry joined the copy's stream
  entered : (name : List ℕ) (e : Entry) → does.records ≡ Of name e ∷ [] → ClientWrites v name e ⊎ HeardWrites v called name e → (a : AskerId) (g : History) (want : Origin) → (c : IsCopy t a g want) → LiveAdds s.log (Of name e) a.stream c.stream → PhaseAfter w does.reply.packets a g want (now_phase a)
  entered name e records way a g want c x =
      let z : Of name e ≡ Of a.stream x.entry = x.is_record in
      let named : name ≡ a.stream = cc in
      let entry : e ≡ x.entry = cc in
      let g_is : g ≡ with_entry x.old.history e = sym c.history ∙ (ap (λ (m : Made). m.history) x.becomes ∙ ap (with_entry x.old.history) (sym entry)) in
      let was : IsCopy s a x.old.history want = record { node = c.node ∙ t-node; stream = x.old; stands = x.was; history = refl; origin = subst (λ (h : History). origin_named a.index h.config.copies ≡ Some want) g_is c.origin } in
      let both : BothFit x.old.history e = record { fit = (live-ok s.log a.stream x.old ok.logs x.was).fit; more = subst AllFit (c.history ∙ g_is) (live-ok t.log a.stream c.stream t-ok.logs c.stands).fit } in
      let on : PassesCopy x.old.history.config.copies a.index e → (p : Phase) → PhaseRight w a x.old.history want p → PhaseRight w a g want p = λ f p q. subst (λ (h : History). PhaseRight w a h want p) (sym g_is) (phase-passes w a x.old.history want e p both f q) in
      elim way [
        | inl cl ↦ settled a g want c x.old.history was (on (client-passes x.old.history.config.copies e a.index (subst (λ (y : Copies). IsClient y e) (known-copies laws w n k inv loaded called may name cl.known x.old cl.here (subst (λ y. live s.log y ≡ Some x.old) (sym named) x.was)) cl.client))) (after a (c.node ∙ t-node))
        | inr hw ↦ (let he = heard-entry s ok called name e hw in
            let streams' : he.a.stream ≡ a.stream = he.stream ∙ named in
            elim (cases_eq a.index he.a.index) [
              | inl ix ↦ inl (own-phase a name e he (λ i. record { node = (he.copy.node ∙ sym (c.node ∙ t-node)) i; stream = streams' i; index = sym ix i }) records g want c)
              | inr ne ↦ settled a g want c x.old.history was (on (passes-other name e he a x.old streams' ne x.was want was.origin both.more)) (after a (c.node ∙ t-node))
            ])
      ]
    where
      -- the entry of another index of the same stream
      passes-other : (name : List ℕ) (e : Entry) (he : HeardEntry s called name e) (b : AskerId) (old : Made) → he.a.stream ≡ b.stream → b.index ≢ he.a.index → live s.log b.stream ≡ Some old → (other : Origin) → origin_named b.index old.history.config.copies ≡ Some other → AllFit (with_entry old.history e) → PassesCopy old.history.config.copies b.index e
      passes-other name e he b old streams ne stands other named more =
          let m : he.copy.stream ≡ old = some_same (live s.log b.stream) he.copy.stream old (subst (λ x. live s.log x ≡ Some he.copy.stream) streams he.copy.stands) stands in
          let g_is : he.g ≡ old.history = sym he.copy.history ∙ ap (λ (x : Made). x.history) m in
          let cp : IsCopy s he.a old.history he.want = subst (λ (x : History). IsCopy s he.a x he.want) g_is he.copy in
          let d : Decision = decided_by old.history.config.copies v (copy_of he.a old.history he.want) he.now he.packet in
          let en : entry_by d ≡ Some e = subst (λ (x : History). entry_by (decided_by x.config.copies v (copy_of he.a x he.want) he.now he.packet) ≡ Some e) g_is he.entry in
          let hd : HearOk w he.a old.history he.want (entry_by d) (phase_by d he.packet he.now (asker_of v (copy_of he.a old.history he.want)).phase) =
          heard-ok laws w n k inv loaded called may he.a he.packet he.now he.is he.own old.history he.want cp (entry-again d e en) (λ x q. (let z : e ≡ x = (let y : Some e ≡ Some x = sym en ∙ q in cc) in subst (λ (y : Entry). AllFit (with_entry old.history y)) z more)) in
          record {
            passes = hd.others e en b.index ne;
            mirror = λ x is. absurd (ne ((mirror-origin x other b.index (subst (λ (y : Copies). origin_named b.index y ≡ Some other) is named)).1 ∙ sym (mirror-origin x he.want he.a.index (subst (λ (y : Copies). origin_named he.a.index y ≡ Some he.want) is cp.origin)).1));
          }

  -- the phase of each asker that is here
  phases-by : (rs : List Rec) → does.records ≡ rs → RecordsOk v called rs → (a : AskerId) (g : History) (want : Origin) → (c : IsCopy t a g want) → PhaseAfter w does.reply.packets a g want (now_phase a)
  phases-by [] e r a g want c = unchanged a g want c (ap (λ l. live l a.stream) (sym (ans.log ∙ (ap (λ (l : List Rec). s.log ++ l) e ∙ append-nil s.log))) ∙ c.stands)
  phases-by (Boot b ∷ rs) e r a g want c = absurd r
  phases-by (Create time config ∷ rs) e r a g want c =
      let log_is : t.log ≡ s.log ++ Create time config ∷ [] = ans.log ∙ ap (λ (l : List Rec). s.log ++ l) (e ∙ ap (λ (l : List Rec). Create time config ∷ l) r.0) in
      let f : MayFollow s.log (Create time config) = follows-last s.log (Create time config) (subst LogOk log_is t-ok.logs).legal in
      elim (live-push s.log (Create time config) a.stream c.stream (ap (λ l. live l a.stream) (sym log_is) ∙ c.stands)) [
        | inl was ↦ unchanged a g want c was
        | inr other ↦ (elim other [
          | inl x ↦ absurd (let z : Create time config ≡ Of a.stream x.entry = x.is_record in cc)
          | inr x ↦ (let same : config ≡ x.config = (let z : Create time config ≡ Create x.time x.config = x.is_record in cc) in
              asked-phase a g want c (made-asks laws s t called does ok loaded fine ans a g want c (subst (λ y. live s.log y ≡ None) (ap (λ (y : Config). y.name) same ∙ x.name_is) f.1.free)))
        ])
      ]
  phases-by (Remove name ∷ rs) e r a g want c =
      let log_is : t.log ≡ s.log ++ Remove name ∷ [] = ans.log ∙ ap (λ (l : List Rec). s.log ++ l) (e ∙ ap (λ (l : List Rec). Remove name ∷ l) r) in
      elim (live-push s.log (Remove name) a.stream c.stream (ap (λ l. live l a.stream) (sym log_is) ∙ c.stands)) [
        | inl was ↦ unchanged a g want c was
        | inr other ↦ (elim other [ inl x ↦ absurd (let z : Remove name ≡ Of a.stream x.entry = x.is_record in cc) | inr x ↦ absurd (let z : Remove name ≡ Create x.time x.config = x.is_record in cc) ])
      ]
  phases-by (Of name en ∷ rs) e r a g want c =
      let records : does.records ≡ Of name en ∷ [] = e ∙ ap (λ (l : List Rec). Of name en ∷ l) r.0 in
      let log_is : t.log ≡ s.log ++ Of name en ∷ [] = ans.log ∙ ap (λ (l : List Rec). s.log ++ l) records in
      elim (live-push s.log (Of name en) a.stream c.stream (ap (λ l. live l a.stream) (sym log_is) ∙ c.stands)) [
        | inl was ↦ unchanged a g want c was
        | inr other ↦ (elim other [ inl x ↦ entered name en records r.1 a g want c x | inr x ↦ absurd (let z : Of name en ≡ Create x.time x.config = x.is_record in cc) ])
      ]

  -- a consumer was there, or was made for the Ask of the call
  made-by : (d : Consumer) → Contains t.ever d → ((c : Consumer) × Contains s.ever c × Later c d) ⊎ MadeNow w n k t d
  made-by d q = elim (came-asked laws s t called does ok loaded ans d q) [
    | inl old ↦ inl (old.0, old.1, subst (Later old.0) old.2 (record { name = refl; stream = refl; incarnation = refl; wanted = refl; more = seqs (delivered old.0.name does.reply.packets); sent = chain-now does.consumers does.reply.packets old.0 }))
    | inr m ↦ (let at : IsAskedHere w.bag (Ask m.asker m.attempt m.origin d.stream m.from m.filters) n k = subst (λ (x : ShardCall). MayCall w.bag x n k) m.is may in
        inr (record {
          from = m.from;
          ask = subst (λ (x : Wanted). Contains w.bag (Ask x.asker x.attempt n d.stream m.from x.filters)) (sym m.wanted) (subst (λ x. Contains w.bag (Ask m.asker m.attempt x d.stream m.from m.filters)) (sym at.1) at.0);
          place = at.2;
          origin = m.stream_made;
          reads = m.reads;
          start = m.start;
        }))
  ]

  own-here : (a : AskerId) (at : Stamp) (o q : List ℕ) (from : Start) (fs : List (List ℕ)) → Contains does.reply.packets (Ask a at o q from fs) → IsHere n k a
  own-here a at o q from fs x =
      let h = own-asks laws s t called does ok loaded fine ans a at o q from fs x in
      let c = h.1.2 in
      (h.0 ∙ inv.nodes n k, (streams a.stream (incarnation t.log a.stream) c.stream (live-is t.log a.stream c.stream c.stands).1).place)

  asks : AsksOk (IsHere n k) (boot t.log) (w.bag ++ does.reply.packets) t.held
  asks = asks-after laws s t called does ok loaded fine ans (IsHere n k) w.bag (λ a here. here.0 ∙ sym (inv.nodes n k)) own-here (record { one = inv.bag.one_ask; given = (inv.askers n k).given })

  -- Whatever a shard answers is seen so from the world.
  pub row-answers : RowOk w n k t does.reply.packets
  row-answers = record {
    node = t-node ∙ inv.nodes n k;
    ok = t-ok;
    grows = grows-answers laws s t called does ok loaded ans;
    made = made-by;
    logs = λ log f. subst (StreamsOk w n k) (sym (future-none t log (ap (λ (h : Held). h.doubt) ans.becomes) f)) streams;
    says = λ p q names. let z = says-answers laws s t called does ok loaded ans p q names in (z.c, z.ever, z.says);
    one = asks.one;
    given = asks.given;
    elsewhere = own-here;
    phases = λ a here g want c. phases-by does.records refl (records-ok v called does ans.answers) a g want c;
    rests = λ x. absurd (let z : true ≡ false = sym (ap (λ (h : Held). h.loaded) ans.becomes) ∙ x in cc);
    stored = λ x. record { each = (askers-ok-after laws s t called does ok loaded fine ans).stored };
  }
