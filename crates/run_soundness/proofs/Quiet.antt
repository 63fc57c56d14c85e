-- Loads, refusals and faults, seen from the world.
use Rattle.std.proofs.Common.{◌≡◌, ℕ, ◌+◌, ◌≤◌, Bool, true, false, List, [], ◌∷◌, ◌++◌, Option, Some, None, refl, sym, ap, ◌∙◌, subst, arith, inl, inr, append_assoc, append-nil, option_map}
use Rattle.std.specs.Prelude.{⊤, Contains, IsTrue}
use Rattle.std.specs.FinMap.{get, empty, get-empty}
use Rattle.std.specs.Ordering.{nat_cmp}
use Rattle.std.specs.Cmp.Lexicographic.{slice_cmp}
use Rattle.std.proofs.lemmas.List.Elements.{Contains-append_cases}
use Rattle.nats_text.specs.declared.message.Stamp.{Stamp}
use Rattle.nats_text.specs.declared.message.Start.{Start}
use Rattle.nats_text.specs.declared.origin.Origin.{Origin}
use Rattle.js_wire.specs.declared.packet.AskerId.{AskerId}
use Rattle.js_wire.specs.declared.packet.Packet.{Packet}
use Rattle.js_wire.specs.declared.packet.Packet.TheVariants.{Ask, Answer, Refuse, Delivery, Beat, FlowAsk, FlowReply}
use Rattle.stream_fold.specs.Histories.{History}
use Rattle.record_codec.specs.declared.records.Rec.{Rec}
use Rattle.record_codec.specs.declared.records.Rec.TheVariants.{Boot, Create, Of}
use Rattle.replica_ask.specs.Askers.{AskerState, new_asker}
use Rattle.replica_ask.specs.declared.phase.Phase.{Phase}
use Rattle.replica_ask.specs.declared.phase.Phase.TheVariants.{Idle}
use Rattle.shard_machine.specs.declared.call.ShardCall.{ShardCall}
use Rattle.shard_machine.specs.declared.call.ShardCall.TheVariants as call
use Rattle.shard_machine.specs.declared.reply.ShardRefusal.{ShardRefusal}
use Rattle.shard_machine.specs.declared.reply.ShardRefusal.TheVariants as refusal
use Rattle.shard_machine.specs.Images.{LogImage, image_after}
use Rattle.shard_machine.specs.Logs.{boot}
use Rattle.shard_machine.specs.Views.{Askers, StreamAskers, asker_or_new, idle_askers}
use Rattle.shard_machine.specs.Steps.{Held, IsSettled, next_boot, end_after, refused_packets, refusal_packets, refuse_with}
use Rattle.shard_machine.proofs.Images.{images-tell}
use Rattle.run_soundness.specs.Shards.{Consumer, ShardState, IsGiven, LoadsOn, RestsOn}
use Rattle.run_soundness.specs.Worlds.{World}
use Rattle.run_soundness.specs.Soundness.{asker_at, names_consumer, IsCopy, PhaseRight}
use Rattle.run_soundness.proofs.Invariant.{Future, StreamsOk, StoredOk, IsHere, Inv, RowOk}
use Rattle.run_soundness.specs.Below.{Laws}
use Rattle.run_soundness.proofs.Lists.{Contains-none, Contains-one}
use Rattle.run_soundness.proofs.Logs.{boot-push, hist-push}
use Rattle.run_soundness.proofs.ShardsAskers.{rest_of, stored_at, stored-idle}
use Rattle.run_soundness.proofs.ShardsGrow.{Later-refl, ShardGrows, grows-same, grows-loads, grows-rests, grows-fails}
use Rattle.run_soundness.proofs.ShardsKept.{ShardOk, image-with}
use Rattle.run_soundness.proofs.ShardsSteps.{ReadyOn, FailsOn, Settled, settled-as, boot-settled, ShardOk-loads, ShardOk-rests, ShardOk-fails}
use Rattle.run_soundness.proofs.Stamps.{given-later, given-same}

-- ---- packets that are of no asker's and no consumer's

-- an Ask
abbrev pub NoAsk : Packet → Type 0
NoAsk (Ask a attempt origin stream from filters) = ⊥
NoAsk (Answer a attempt name incarnation from) = ⊤
NoAsk (Refuse a attempt code err_code) = ⊤
NoAsk (Delivery a attempt stream name number seq pending message) = ⊤
NoAsk (Beat a attempt origin stream name last_number last_seq stalled) = ⊤
NoAsk (FlowAsk a attempt origin stream name token) = ⊤
NoAsk (FlowReply origin stream name token) = ⊤

-- none of them is an Ask, and none names a consumer
pub record AreQuiet (packets : List Packet) : Type 0 where
  pub asks : (p : Packet) → Contains packets p → NoAsk p
  pub names : (p : Packet) → Contains packets p → IsTrue (names_consumer p) → ⊥

pub quiet-nil : AreQuiet []
quiet-nil = record { asks = λ p q. absurd (Contains-none p q); names = λ p q t. Contains-none p q }

quiet-refuse : (a : AskerId) (at : Stamp) (code err : ℕ) → AreQuiet (Refuse a at code err ∷ [])
quiet-refuse a at code err = record {
  asks = λ p q. subst NoAsk (Contains-one (Refuse a at code err) p q) tt;
  names = λ p q t. (let z : false ≡ true = ap names_consumer (Contains-one (Refuse a at code err) p q) ∙ t in cc);
}

quiet-with : (p : Packet) (code err : ℕ) → AreQuiet (refuse_with p code err)
quiet-with (Ask a at o s f fs) code err = quiet-refuse a at code err
quiet-with (Answer a b c d e) code err = quiet-nil
quiet-with (Refuse a b c d) code err = quiet-nil
quiet-with (Delivery a b c d e f g h) code err = quiet-nil
quiet-with (Beat a b c d e f g h) code err = quiet-nil
quiet-with (FlowAsk a b c d e f) code err = quiet-nil
quiet-with (FlowReply a b c d) code err = quiet-nil

quiet-why : (p : Packet) (why : ShardRefusal) → AreQuiet (refusal_packets p why)
quiet-why p (refusal.Of why) = quiet-nil
quiet-why p refusal.NoStream = quiet-with p 404 10059
quiet-why p (refusal.BadConfig member) = quiet-nil
quiet-why p refusal.NameTaken = quiet-nil
quiet-why p refusal.TooManyStreams = quiet-nil
quiet-why p (refusal.OldAttempt kept seen) = quiet-nil
quiet-why p refusal.TooManyConsumers = quiet-with p 400 10912
quiet-why p refusal.NoMessage = quiet-nil
quiet-why p (refusal.JournalFull end need) = quiet-with p 500 10913
quiet-why p (refusal.BadJournal place) = quiet-with p 500 10915
quiet-why p refusal.NoMemory = quiet-nil
quiet-why p refusal.DiskFault = quiet-nil

-- what is sent at a refusal
pub quiet-refused : (c : ShardCall) (why : ShardRefusal) → AreQuiet (refused_packets c why)
quiet-refused (call.Create config now) why = quiet-nil
quiet-refused (call.Update config) why = quiet-nil
quiet-refused (call.Remove name) why = quiet-nil
quiet-refused (call.Publish name message now) why = quiet-nil
quiet-refused (call.Delete name seq) why = quiet-nil
quiet-refused (call.Purge name pattern below) why = quiet-nil
quiet-refused (call.Expire name now) why = quiet-nil
quiet-refused (call.Get name which) why = quiet-nil
quiet-refused (call.Info name) why = quiet-nil
quiet-refused call.Names why = quiet-nil
quiet-refused (call.MakeConsumer ask now) why = quiet-why ask why
quiet-refused (call.Pump name budget now) why = quiet-nil
quiet-refused (call.FlowReply packet) why = quiet-nil
quiet-refused (call.Reach node there now) why = quiet-nil
quiet-refused (call.Heard packet now) why = quiet-nil
quiet-refused (call.Tick now) why = quiet-nil
quiet-refused call.LinkLost why = quiet-nil

pub old-ask : (bag ps : List Packet) (a : AskerId) (at : Stamp) (o s : List ℕ) (from : Start) (fs : List (List ℕ)) → AreQuiet ps → Contains (bag ++ ps) (Ask a at o s from fs) → Contains bag (Ask a at o s from fs)
old-ask bag ps a at o s from fs f c = elim (Contains-append_cases bag ps (Ask a at o s from fs) c) [ inl w ↦ w | inr w ↦ absurd (f.asks (Ask a at o s from fs) w) ]

-- ---- a shard that moves on and sends nothing

-- what a change does that asks nothing and makes no consumer
pub record QuietOk (w : World) (n : List ℕ) (k : ℕ) (t : ShardState) : Type 0 where
  pub node : t.held.node ≡ n
  pub ok : ShardOk t
  pub grows : ShardGrows (w.shard n k) t
  pub ever : t.ever ≡ (w.shard n k).ever
  pub logs : (log : List Rec) → Future t log → StreamsOk w n k log
  pub given : (a : AskerId) (at : Stamp) → IsHere n k a → IsGiven (boot (w.shard n k).log) (asker_at (w.shard n k).held a).attempts at → IsGiven (boot t.log) (asker_at t.held a).attempts at
  pub phases : (a : AskerId) → IsHere n k a → (g : History) (want : Origin) → IsCopy t a g want → PhaseRight w a g want (asker_at t.held a).phase
  pub rests : t.held.loaded ≡ false → (a : AskerId) → IsHere n k a → (asker_at t.held a).phase ≡ Idle
  pub stored : t.held.loaded ≡ true → StoredOk t.held

pub row-quiet : (w : World) (n : List ℕ) (k : ℕ) (t : ShardState) (packets : List Packet) → Inv w → AreQuiet packets → QuietOk w n k t → RowOk w n k t packets
row-quiet w n k t packets inv f q = record {
  node = q.node;
  ok = q.ok;
  grows = q.grows;
  made = λ d x. inl (d, subst (λ (l : List Consumer). Contains l d) q.ever x, Later-refl d);
  logs = q.logs;
  says = λ p x names. absurd (f.names p x names);
  one = λ a at o o' s s' from from' fs fs' x y. inv.bag.one_ask a at o o' s s' from from' fs fs' (old-ask w.bag packets a at o s from fs f x) (old-ask w.bag packets a at o' s' from' fs' f y);
  given = λ a here at o s from fs x. q.given a at here ((inv.askers n k).given a here at o s from fs (old-ask w.bag packets a at o s from fs f x));
  elsewhere = λ a at o s from fs x. absurd (f.asks (Ask a at o s from fs) x);
  phases = λ a here g want c. inl (q.phases a here g want c);
  rests = q.rests;
  stored = q.stored;
}

pub idle-right : (w : World) (a : AskerId) (g : History) (want : Origin) (p : Phase) → p ≡ Idle → PhaseRight w a g want p
idle-right w a g want p e = subst (λ (x : Phase). PhaseRight w a g want x) (sym e) tt

-- nothing changes
pub quiet-same : Laws → (w : World) (n : List ℕ) (k : ℕ) (t : ShardState) → Inv w → t ≡ w.shard n k → QuietOk w n k t
quiet-same laws w n k t inv e = subst (λ (x : ShardState). QuietOk w n k x) (sym e) (record {
  node = inv.nodes n k;
  ok = inv.shards n k;
  grows = grows-same laws (w.shard n k) (w.shard n k) (inv.shards n k) refl;
  ever = refl;
  logs = inv.logs n k;
  given = λ a at here g. g;
  phases = (inv.askers n k).phase;
  rests = (inv.askers n k).rests;
  stored = (inv.askers n k).stored;
})

-- ---- loads

or_no_askers : Option StreamAskers → StreamAskers
or_no_askers None = empty
or_no_askers (Some found) = found

-- a shard without askers has none of this stream and index
pub none-stored : (s : List ℕ) (i : ℕ) → stored_at empty s i ≡ None
none-stored s i = ap (λ (o : Option StreamAskers). get (of o) i) (get-empty (slice_cmp nat_cmp) s) ∙ get-empty nat_cmp i
  where
    of : Option StreamAskers → StreamAskers
    of None = empty
    of (Some found) = found

pub new-asker : (h : Held) (a : AskerId) → h.askers ≡ empty → asker_at h a ≡ new_asker a h.image.boot
new-asker h a e = ap (λ (o : Option AskerState). asker_or_new a h.image.boot o) (ap (λ (m : Askers). stored_at m a.stream a.index) e ∙ none-stored a.stream a.index)

settled-future : (s : ShardState) (settled : List Rec) (d : Option Rec) → s.held.doubt ≡ d → IsSettled d settled → Future s (s.log ++ settled)
settled-future s settled None e x = inl (ap (λ (l : List Rec). s.log ++ l) x ∙ append-nil s.log)
settled-future s settled (Some r) e (inl x) = inl (ap (λ (l : List Rec). s.log ++ l) x ∙ append-nil s.log)
settled-future s settled (Some r) e (inr x) = inr (r, e, ap (λ (l : List Rec). s.log ++ l) x)

-- an opening changes no stream
booted-streams : (w : World) (n : List ℕ) (k : ℕ) (log : List Rec) (b : ℕ) → StreamsOk w n k log → StreamsOk w n k (log ++ Boot b ∷ [])
booted-streams w n k log b f name i m e = elim (hist-push log (Boot b) name i m e) [
  | inl same ↦ f name i m same
  | inr other ↦ (elim other [ inl x ↦ absurd (let z : Boot b ≡ Of name x.entry = x.is_record in cc) | inr x ↦ absurd (let z : Boot b ≡ Create x.time x.config = x.is_record in cc) ])
]

pub future-none : (s : ShardState) (log : List Rec) → s.held.doubt ≡ None → Future s log → log ≡ s.log
future-none s log e (inl f) = f
future-none s log e (inr f) = absurd (let z : None ≡ Some f.0 = sym e ∙ f.1 in cc)

-- the boot of an image after the records that settle a doubt
boot-after : (s : ShardState) (settled : List Rec) → ShardOk s → IsSettled s.held.doubt settled → boot s.log ≤ (image_after s.held.image settled).boot
boot-after s settled ok x =
    let st : Settled s.log settled = settled-as s.log s.held.doubt settled ok.doubt x in
    let up = boot-settled s.log settled st in
    let is : (image_after s.held.image settled).boot ≡ boot (s.log ++ settled) = ap (λ (i : LogImage). i.boot) (image-with s.held.image s.log settled ok.image_is) ∙ (images-tell (s.log ++ settled)).boot in
    omega arith

pub quiet-loads : Laws → (w : World) (n : List ℕ) (k : ℕ) (t : ShardState) → Inv w → LoadsOn (w.shard n k) t → QuietOk w n k t
quiet-loads laws w n k t inv l =
    let s : ShardState = w.shard n k in
    let ld = l.loads in
    let b : ℕ = (image_after s.held.image ld.settled).boot + 1 in
    let log_is : t.log ≡ (s.log ++ ld.settled) ++ Boot b ∷ [] = l.log ∙ (ap (λ (x : List Rec). s.log ++ x) ld.joins ∙ sym (append_assoc s.log ld.settled (Boot b ∷ []))) in
    let boot_is : boot t.log ≡ b = ap boot log_is ∙ boot-push (s.log ++ ld.settled) b in
    let below = boot-after s ld.settled (inv.shards n k) ld.in_or_out in
    let askers : t.held.askers ≡ empty = ap (λ (h : Held). h.askers) ld.becomes in
    record {
      node = ap (λ (h : Held). h.node) ld.becomes ∙ inv.nodes n k;
      ok = ShardOk-loads laws s t (inv.shards n k) l;
      grows = grows-loads laws s t (inv.shards n k) l;
      ever = l.ever;
      logs = λ log f. subst (StreamsOk w n k) (sym (future-none t log (ap (λ (h : Held). h.doubt) ld.becomes) f ∙ log_is))
          (booted-streams w n k (s.log ++ ld.settled) b (inv.logs n k (s.log ++ ld.settled) (settled-future s ld.settled s.held.doubt refl ld.in_or_out)));
      given = λ a at here g. given-later (boot s.log) (boot t.log) (asker_at s.held a).attempts (asker_at t.held a).attempts at (omega arith) g;
      phases = λ a here g want c. idle-right w a g want (asker_at t.held a).phase (ap (λ (x : AskerState). x.phase) (new-asker t.held a askers));
      rests = λ x. absurd (let z : true ≡ false = sym (ap (λ (h : Held). h.loaded) ld.becomes) ∙ x in cc);
      stored = λ x. record { each = λ stream index st q. absurd (let z : None ≡ Some st = sym (ap (λ (m : Askers). stored_at m stream index) askers ∙ none-stored stream index) ∙ q in cc) };
    }

-- ---- a shard that is left to load later

idle-phase : (a : AskerId) (b : ℕ) (o : Option AskerState) → (asker_or_new a b (option_map rest_of o)).phase ≡ Idle
idle-phase a b None = refl
idle-phase a b (Some st) = refl

idle-attempts : (a : AskerId) (b c : ℕ) (o : Option AskerState) → (asker_or_new a b (option_map rest_of o)).attempts ≡ (asker_or_new a c o).attempts
idle-attempts a b c None = refl
idle-attempts a b c (Some st) = refl

pub rest-phase : (old new : Held) (a : AskerId) → new.askers ≡ idle_askers old.askers → (asker_at new a).phase ≡ Idle
rest-phase old new a e = ap (λ (o : Option AskerState). (asker_or_new a new.image.boot o).phase) (ap (λ (m : Askers). stored_at m a.stream a.index) e ∙ stored-idle old.askers a.stream a.index) ∙ idle-phase a new.image.boot (stored_at old.askers a.stream a.index)

pub rest-attempts : (old new : Held) (a : AskerId) → new.askers ≡ idle_askers old.askers → (asker_at new a).attempts ≡ (asker_at old a).attempts
rest-attempts old new a e = ap (λ (o : Option AskerState). (asker_or_new a new.image.boot o).attempts) (ap (λ (m : Askers). stored_at m a.stream a.index) e ∙ stored-idle old.askers a.stream a.index) ∙ idle-attempts a new.image.boot old.image.boot (stored_at old.askers a.stream a.index)

pub quiet-rests : Laws → (w : World) (n : List ℕ) (k : ℕ) (t : ShardState) → Inv w → RestsOn (w.shard n k) t → QuietOk w n k t
quiet-rests laws w n k t inv r =
    let s : ShardState = w.shard n k in
    let askers : t.held.askers ≡ idle_askers s.held.askers = ap (λ (h : Held). h.askers) r.held in
    let doubt : t.held.doubt ≡ s.held.doubt = ap (λ (h : Held). h.doubt) r.held in
    record {
      node = ap (λ (h : Held). h.node) r.held ∙ inv.nodes n k;
      ok = ShardOk-rests laws s t (inv.shards n k) r;
      grows = grows-rests laws s t (inv.shards n k) r;
      ever = r.ever;
      logs = λ log f. inv.logs n k log (elim f [ inl e ↦ inl (e ∙ r.log) | inr x ↦ inr (x.0, sym doubt ∙ x.1, x.2 ∙ ap (λ (l : List Rec). l ++ x.0 ∷ []) r.log) ]);
      given = λ a at here g. subst (λ (l : List Rec). IsGiven (boot l) (asker_at t.held a).attempts at) (sym r.log) (subst (λ x. IsGiven (boot s.log) x at) (sym (rest-attempts s.held t.held a askers)) g);
      phases = λ a here g want c. idle-right w a g want (asker_at t.held a).phase (rest-phase s.held t.held a askers);
      rests = λ x a here. rest-phase s.held t.held a askers;
      stored = λ x. absurd (let z : false ≡ true = sym (ap (λ (h : Held). h.loaded) r.held) ∙ x in cc);
    }

-- ---- a disk that failed during a load

stay-phase : (a : AskerId) (b c : ℕ) (o : Option AskerState) → (asker_or_new a b o).phase ≡ (asker_or_new a c o).phase
stay-phase a b c None = refl
stay-phase a b c (Some st) = refl

stay-attempts : (a : AskerId) (b c : ℕ) (o : Option AskerState) → (asker_or_new a b o).attempts ≡ (asker_or_new a c o).attempts
stay-attempts a b c None = refl
stay-attempts a b c (Some st) = refl

state-is : (s t : ShardState) → t.held ≡ s.held → t.log ≡ s.log → t.ever ≡ s.ever → t ≡ s
state-is s t h l e = λ i. record { held = h i; log = l i; ever = e i }

fails-on : Laws → (w : World) (n : List ℕ) (k : ℕ) (t : ShardState) → Inv w → (f : FailsOn (w.shard n k) t) →
    IsSettled (w.shard n k).held.doubt f.records → t.held ≡ record ((w.shard n k).held) { image = image_after (w.shard n k).held.image f.records; doubt = Some (next_boot (image_after (w.shard n k).held.image f.records)); end = end_after (w.shard n k).held.end f.records } → QuietOk w n k t
fails-on laws w n k t inv f x becomes =
    let s : ShardState = w.shard n k in
    let b : ℕ = (image_after s.held.image f.records).boot + 1 in
    let up = boot-settled s.log f.records (settled-as s.log s.held.doubt f.records (inv.shards n k).doubt x) in
    let boots : boot s.log ≤ boot t.log = subst (λ (l : List Rec). boot s.log ≤ boot l) (sym f.log) up in
    let askers : t.held.askers ≡ s.held.askers = ap (λ (h : Held). h.askers) becomes in
    let phase : (a : AskerId) → (asker_at t.held a).phase ≡ (asker_at s.held a).phase = λ a. ap (λ (m : Askers). (asker_or_new a t.held.image.boot (stored_at m a.stream a.index)).phase) askers ∙ stay-phase a t.held.image.boot s.held.image.boot (stored_at s.held.askers a.stream a.index) in
    let attempts : (a : AskerId) → (asker_at t.held a).attempts ≡ (asker_at s.held a).attempts = λ a. ap (λ (m : Askers). (asker_or_new a t.held.image.boot (stored_at m a.stream a.index)).attempts) askers ∙ stay-attempts a t.held.image.boot s.held.image.boot (stored_at s.held.askers a.stream a.index) in
    let streams : StreamsOk w n k t.log = subst (StreamsOk w n k) (sym f.log) (inv.logs n k (s.log ++ f.records) (settled-future s f.records s.held.doubt refl x)) in
    record {
      node = ap (λ (h : Held). h.node) becomes ∙ inv.nodes n k;
      ok = ShardOk-fails laws s t (inv.shards n k) f;
      grows = grows-fails laws s t (inv.shards n k) f;
      ever = f.ever;
      logs = λ log q. elim q [
        | inl e ↦ subst (StreamsOk w n k) (sym e) streams
        | inr y ↦ (let r : Boot b ≡ y.0 = (let z : Some (Boot b) ≡ Some y.0 = sym (ap (λ (h : Held). h.doubt) becomes) ∙ y.1 in cc) in
            subst (StreamsOk w n k) (sym (y.2 ∙ ap (λ (x : Rec). t.log ++ x ∷ []) (sym r))) (booted-streams w n k t.log b streams))
      ];
      given = λ a at here g. subst (λ z. IsGiven (boot t.log) z at) (sym (attempts a)) (given-same (boot s.log) (boot t.log) (asker_at s.held a).attempts at boots g);
      phases = λ a here g want c. idle-right w a g want (asker_at t.held a).phase (phase a ∙ (inv.askers n k).rests f.was a here);
      rests = λ y a here. phase a ∙ (inv.askers n k).rests f.was a here;
      stored = λ y. absurd (let z : false ≡ true = sym (ap (λ (h : Held). h.loaded) becomes ∙ f.was) ∙ y in cc);
    }

pub quiet-fails : Laws → (w : World) (n : List ℕ) (k : ℕ) (t : ShardState) → Inv w → FailsOn (w.shard n k) t → QuietOk w n k t
quiet-fails laws w n k t inv f = elim f.result [
  | inl same ↦ quiet-same laws w n k t inv (state-is (w.shard n k) t same.0 (f.log ∙ (ap (λ (l : List Rec). (w.shard n k).log ++ l) same.1 ∙ append-nil (w.shard n k).log)) f.ever)
  | inr x ↦ fails-on laws w n k t inv f x.0 x.2
]

-- ---- a shard that is made ready

pub ready-quiet : Laws → (w : World) (n : List ℕ) (k : ℕ) (t : ShardState) → Inv w → ReadyOn (w.shard n k) t → QuietOk w n k t
ready-quiet laws w n k t inv r = by (w.shard n k).held.loaded refl
  where
    by : (b : Bool) → (w.shard n k).held.loaded ≡ b → QuietOk w n k t
    by true e = let q = r.is_ready.same e in quiet-same laws w n k t inv (state-is (w.shard n k) t q.0 (r.log ∙ (ap (λ (l : List Rec). (w.shard n k).log ++ l) q.1 ∙ append-nil (w.shard n k).log)) r.ever)
    by false e = quiet-loads laws w n k t inv (record { records = r.records; loads = r.is_ready.loads e; log = r.log; ever = r.ever })
