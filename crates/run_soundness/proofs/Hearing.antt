-- What a heard packet leaves of its copy.
use Rattle.std.proofs.Common.{◌≡◌, ◌≢◌, ℕ, zero, suc, ◌+◌, ◌-◌, ◌<◌, ◌≤◌, ◌^◌, max, min, Bool, true, false, cond, ◌&&◌, ltb, leb, eqb, List, [], ◌∷◌, ◌++◌, Option, Some, None, refl, sym, ap, ◌∙◌, subst, arith}
use Rattle.std.specs.Prelude.{Contains, slice_get}
use Rattle.std.specs.FinMap.{get}
use Rattle.std.proofs.lemmas.Bool.{leb-false, and_parts, or_parts, eqb-true}
use Rattle.nats_text.specs.declared.message.Message.{Message}
use Rattle.nats_text.specs.declared.message.Stamp.{Stamp}
use Rattle.nats_text.specs.declared.origin.Origin.{Origin}
use Rattle.js_wire.specs.declared.packet.AskerId.{AskerId}
use Rattle.js_wire.specs.declared.packet.Packet.{Packet}
use Rattle.js_wire.specs.declared.packet.Packet.TheVariants.{Ask, Answer, Refuse, Delivery, Beat, FlowAsk, FlowReply}
use Rattle.stream_fold.specs.declared.config.Copies.{Copies}
use Rattle.stream_fold.specs.declared.config.Copies.TheVariants.{Nothing, Mirror, Sources}
use Rattle.stream_fold.specs.declared.decision.Decision.{Decision}
use Rattle.stream_fold.specs.declared.decision.Decision.TheVariants.{Store, Rebind, Ignore, Stop}
use Rattle.stream_fold.specs.declared.decision.Reason.{Reason}
use Rattle.stream_fold.specs.declared.decision.Reason.TheVariants.{Back, Large, SeqEnd, Old as IsOld, Foreign as IsForeign}
use Rattle.stream_fold.specs.declared.entry.BoundTo.{BoundTo}
use Rattle.stream_fold.specs.declared.entry.Entry.{Entry}
use Rattle.stream_fold.specs.declared.entry.Entry.TheVariants.{Put, Bind as BindEntry}
use Rattle.stream_fold.specs.Checking.{config_fault, is_mirror}
use Rattle.stream_fold.specs.Copying.{bound, origin_named, copy_start, PassesBy, MirrorHolds, SourceHolds, NumbersFollow, IsRightStart}
use Rattle.stream_fold.specs.Facts.{facts}
use Rattle.stream_fold.specs.Fits.{AllFit}
use Rattle.stream_fold.specs.Histories.{History, with_entry, last, NumbersRise}
use Rattle.stream_fold.specs.Publishing.{content_size, capped}
use Rattle.stream_fold.specs.Sourcing.{via}
use Rattle.stream_fold.proofs.FactLemmas.{facts-tell}
use Rattle.record_codec.specs.declared.records.Rec.{Rec}
use Rattle.push_consumer.specs.Chains.{chain}
use Rattle.replica_ask.specs.declared.phase.Order.{Order}
use Rattle.replica_ask.specs.declared.phase.Order.TheVariants.{Next, Old as OldOrder, Foreign as ForeignOrder, Gap as GapOrder, Beat as BeatOrder, FlowAsk as FlowOrder, Answer as AnswerOrder, Refuse as RefuseOrder}
use Rattle.replica_ask.specs.declared.phase.Phase.{Phase}
use Rattle.replica_ask.specs.declared.phase.Phase.TheVariants.{Idle, Asking, Bound, Stopped}
use Rattle.replica_ask.specs.Orders.{order, same_stamp, of_delivery}
use Rattle.mirror_core.specs.Decisions.{mirror_decision, other_decision, of_mirrored, on_mirrored, on_answer, on_beat, is_back, is_large}
use Rattle.source_core.specs.Decisions.{Reached, source_decision, of_sourced, on_sourced, on_made, at_time}
use Rattle.shard_machine.specs.Answers.{addressee, decided_by, consumer_named}
use Rattle.shard_machine.specs.Logs.{Made, made}
use Rattle.shard_machine.specs.Views.{View, reached, node_or, asker_of}
use Rattle.run_soundness.specs.Worlds.{World, shard_of}
use Rattle.run_soundness.specs.Soundness.{IsToStore, HasStored, IsReading, PhaseRight, Holds, HoldsNothing, HoldsBound, HoldsBy, BagRight, copy_of}
use Rattle.run_soundness.proofs.Deliveries.{delivered, rises-place}
use Rattle.run_soundness.proofs.Entries.{bound-binds, bound-passes, other-index, point, reached-is}
use Rattle.run_soundness.proofs.Following.{entry_by, phase_by, asks_again}
use Rattle.run_soundness.specs.Below.{Laws}
use Rattle.run_soundness.proofs.LogsLegal.{log-rise}
use Rattle.run_soundness.proofs.Moves.{StoresAs, NextMember, reading-stores, reading-skips, stores-mirror, stores-source, mirror-stores, source-stores, Answered, answered, rebinds, binds, holds-binds, stored-point, ask_start-free}
use Rattle.run_soundness.proofs.Phases.{some_same, skips-of, BothFit}
use Rattle.run_soundness.proofs.ShardsKept.{ShardOk}
use Rattle.run_soundness.proofs.Stamps.{same_stamp-is}
use Rattle.run_soundness.proofs.Wanting.{mirror-origin}

abbrev pub with_maybe : History → Option Entry → History
with_maybe g None = g
with_maybe g (Some e) = with_entry g e

-- what the decision leaves of the copy and its asker
pub record HearOk (w : World) (a : AskerId) (g : History) (want : Origin) (o : Option Entry) (p : Phase) : Type 0 where
  pub phase : PhaseRight w a (with_maybe g o) want p
  pub own : HoldsBy w a.node (with_maybe g o) a.index want (bound a.index (with_maybe g o).entries)
  pub others : (e : Entry) → o ≡ Some e → (j : ℕ) → j ≢ a.index → PassesBy j e

-- what is known before
pub record Before (w : World) (a : AskerId) (g : History) (want : Origin) (p : Phase) : Type 0 where
  pub bag : BagRight w
  pub ok : (n : List ℕ) (k : ℕ) → ShardOk (w.shard n k)
  pub origin : origin_named a.index g.config.copies ≡ Some want
  pub faultless : config_fault g.config ≡ None
  pub fit : AllFit g
  pub follow : is_mirror g.config.copies ≡ false → NumbersFollow g.entries
  pub holds : HoldsBy w a.node g a.index want (bound a.index g.entries)
  pub phase : PhaseRight w a g want p

-- the decision leaves them so, where its entry fits
abbrev pub DecidedOk : World → AskerId → History → Origin → Phase → Packet → ℕ → Decision → Type 0
DecidedOk w a g want p q now d = ((e : Entry) → entry_by d ≡ Some e → AllFit (with_entry g e)) → asks_again d ≡ false → HearOk w a g want (entry_by d) (phase_by d q now p)

-- nothing is written, and the phase is right
nothing-heard : (w : World) (a : AskerId) (g : History) (want : Origin) (p t : Phase) → Before w a g want p → PhaseRight w a g want t → HearOk w a g want None t
nothing-heard w a g want p t b q = record { phase = q; own = b.holds; others = λ e f. absurd (cc) }

-- ---- the delivery that is awaited

-- what a bound copy holds, of the history that its consumer reads
record HeldOf (w : World) (a : AskerId) (attempt name : Stamp) (next : ℕ) (g : History) (want : Origin) (b : IsReading w a attempt name next g want) : Type 0 where
  bh : HoldsBound w a.node g a.index want b.to
  same : bh.origin ≡ b.origin

held-of : (w : World) (a : AskerId) (attempt name : Stamp) (next : ℕ) (g : History) (want : Origin) (b : IsReading w a attempt name next g want) → HoldsBy w a.node g a.index want (bound a.index g.entries) → HeldOf w a attempt name next g want b
held-of w a attempt name next g want b q =
    let bh : HoldsBound w a.node g a.index want b.to = subst (λ (x : Option BoundTo). HoldsBy w a.node g a.index want x) b.is_bound q in
    let log : List Rec = (w.shard (node_or a.node want.node) (shard_of want.stream)).log in
    record {
      bh = bh;
      same = some_same (made log want.stream b.to.incarnation) bh.origin b.origin bh.reads
          (subst (λ x. made log x b.to.incarnation ≡ Some b.origin) b.stream (subst (λ x. made log b.c.stream x ≡ Some b.origin) b.incarnation b.reads));
    }

-- the same of the longer history
holds-with : (w : World) (a : AskerId) (attempt name : Stamp) (next : ℕ) (g : History) (want : Origin) (b : IsReading w a attempt name next g want) (hd : HeldOf w a attempt name next g want b) (e : Entry) → bound a.index (g.entries ++ e ∷ []) ≡ bound a.index g.entries →
    Holds g.config.copies want b.origin.history (with_entry g e) a.index → HoldsBy w a.node (with_entry g e) a.index want (bound a.index (g.entries ++ e ∷ []))
holds-with w a attempt name next g want b hd e f q =
    subst (λ (x : Option BoundTo). HoldsBy w a.node (with_entry g e) a.index want x) (sym (f ∙ b.is_bound))
    (record { origin = hd.bh.origin; reads = hd.bh.reads; right = hd.bh.right; holds = subst (λ (x : Made). Holds g.config.copies want x.history (with_entry g e) a.index) (sym hd.same) q })

-- the awaited delivery came, to an asker of which all is right
record AtNext (w : World) (a : AskerId) (attempt name : Stamp) (k heard : ℕ) (g : History) (want : Origin) (seq : ℕ) (m : Message) : Type 0 where
  before : Before w a g want (Bound attempt name (suc k) heard)
  next : NextMember w a attempt name k seq m g want

-- the number that is awaited next
later-number : (w : World) (a : AskerId) (attempt name : Stamp) (k seq : ℕ) (m : Message) (g : History) (want : Origin) → NextMember w a attempt name k seq m g want → seq < 2 ^ 63 → min (suc k + 1) (2 ^ 64 - 1) ≡ suc (suc k)
later-number w a attempt name k seq m g want n lt = let q = rises-place n.b.c.wanted.start (chain n.b.c.sent) k seq n.skips.rises n.member in omega arith

took-later : (w : World) (a : AskerId) (g : History) (want : Origin) (o : Option Entry) (attempt name : Stamp) (k now : ℕ) → min (suc k + 1) (2 ^ 64 - 1) ≡ suc (suc k) → HearOk w a g want o (Bound attempt name (suc (suc k)) now) → HearOk w a g want o (Bound attempt name (min (suc k + 1) (2 ^ 64 - 1)) now)
took-later w a g want o attempt name k now e h = subst (λ x. HearOk w a g want o (Bound attempt name x now)) (sym e) h

in-mirror : Laws → (w : World) (a : AskerId) (attempt name : Stamp) (k heard : ℕ) (g : History) (want : Origin) (seq now : ℕ) (m : Message) (n : AtNext w a attempt name k heard g want seq m) (o : Origin) → g.config.copies ≡ Mirror o → point (Mirror o) a.index want g < seq → AllFit (with_entry g (Put seq m None)) →
    HearOk w a g want (Some (Put seq m None)) (Bound attempt name (suc (suc k)) now)
in-mirror laws w a attempt name k heard g want seq now m n o is above more =
    let b = n.next.b in
    let both : BothFit g (Put seq m None) = record { fit = n.before.fit; more = more } in
    let hd = held-of w a attempt name (suc k) g want b n.before.holds in
    let mh : MirrorHolds b.origin.history g.entries (copy_start a.index g) = subst (λ (c : Copies). Holds c want b.origin.history g a.index) is (subst (λ (x : Made). Holds g.config.copies want x.history g a.index) hd.same hd.bh.holds) in
    record {
      phase = reading-stores w a attempt name k seq m (Put seq m None) g want n.next both
          (subst (λ (c : Copies). StoresAs c a.index want g (Put seq m None) seq) (sym is) (stores-mirror o a.index want g seq m (omega arith)));
      own = holds-with w a attempt name (suc k) g want b hd (Put seq m None) (bound-passes a.index g.entries (Put seq m None) refl)
          (subst (λ (c : Copies). Holds c want b.origin.history (with_entry g (Put seq m None)) a.index) (sym is)
          (mirror-stores laws w a attempt name k seq m o g want n.next both is above mh));
      others = λ e q j f. (let same : Put seq m None ≡ e = cc in subst (λ (x : Entry). PassesBy j x) same refl);
    }

in-source : Laws → (w : World) (a : AskerId) (attempt name : Stamp) (k heard : ℕ) (g : History) (want : Origin) (seq now t : ℕ) (m v : Message) (n : AtNext w a attempt name k heard g want seq m) (os : List Origin) → g.config.copies ≡ Sources os → point (Sources os) a.index want g < seq →
    via want m seq ≡ Some v → AllFit (with_entry g (Put (last g.entries + 1) (at_time t v) (Some (record { index = a.index; seq = seq })))) →
    HearOk w a g want (Some (Put (last g.entries + 1) (at_time t v) (Some (record { index = a.index; seq = seq })))) (Bound attempt name (suc (suc k)) now)
in-source laws w a attempt name k heard g want seq now t m v n os is above vi more =
    let b = n.next.b in
    let e : Entry = Put (last g.entries + 1) (at_time t v) (Some (record { index = a.index; seq = seq })) in
    let both : BothFit g e = record { fit = n.before.fit; more = more } in
    let hd = held-of w a attempt name (suc k) g want b n.before.holds in
    let sh : SourceHolds want b.origin.history g a.index = subst (λ (c : Copies). Holds c want b.origin.history g a.index) is (subst (λ (x : Made). Holds g.config.copies want x.history g a.index) hd.same hd.bh.holds) in
    let st = stores-source os a.index want g (last g.entries + 1) seq (at_time t v) above in
    record {
      phase = reading-stores w a attempt name k seq m e g want n.next both (subst (λ (c : Copies). StoresAs c a.index want g e seq) (sym is) st);
      own = holds-with w a attempt name (suc k) g want b hd e st.no_bind
          (subst (λ (c : Copies). Holds c want b.origin.history (with_entry g e) a.index) (sym is)
          (source-stores laws w a attempt name k seq t m v os g want n.next n.before.fit is above vi sh));
      others = λ x q j f. (let same : e ≡ x = (let z : Some e ≡ Some x = q in cc) in subst (λ (y : Entry). PassesBy j y) same (ap (λ t. cond t (Some seq) None) (other-index a.index j (λ y. f (sym y)))));
    }

skip-next : (w : World) (a : AskerId) (attempt name : Stamp) (k heard : ℕ) (g : History) (want : Origin) (seq now : ℕ) (m : Message) (n : AtNext w a attempt name k heard g want seq m) → (IsToStore g.config.copies want m seq → ⊥) →
    HearOk w a g want None (Bound attempt name (suc (suc k)) now)
skip-next w a attempt name k heard g want seq now m n f = nothing-heard w a g want (Bound attempt name (suc k) heard) (Bound attempt name (suc (suc k)) now) n.before
    (reading-skips w a attempt name k seq m g want n.next f)

ignores : (w : World) (a : AskerId) (g : History) (want : Origin) (p : Phase) (q : Packet) (now : ℕ) (r : Reason) → Before w a g want p → DecidedOk w a g want p q now (Ignore r)
ignores w a g want p q now r b fits f = nothing-heard w a g want p p b b.phase

-- by a test
if-test : (w : World) (a : AskerId) (g : History) (want : Origin) (p : Phase) (q : Packet) (now : ℕ) (t : Bool) (d e : Decision) → DecidedOk w a g want p q now d → (t ≡ false → DecidedOk w a g want p q now e) → DecidedOk w a g want p q now (cond t d e)
if-test w a g want p q now true d e x y = x
if-test w a g want p q now false d e x y = y refl

-- what isn't back is past what the copy has, and a number that a stream may have
not-back : (have seq : ℕ) → is_back have seq ≡ false → (have < seq) × (seq < 2 ^ 63)
not-back have seq e =
    let parts = or_parts (leb (2 ^ 63) seq) (leb seq have) e in
    (leb-false seq have parts.1, leb-false (2 ^ 63) seq parts.0)

mirror-next : Laws → (w : World) (a : AskerId) (attempt name : Stamp) (k heard : ℕ) (g : History) (want : Origin) (seq now : ℕ) (m : Message) (q : Packet) (n : AtNext w a attempt name k heard g want seq m) (o : Origin) → g.config.copies ≡ Mirror o → (front : ℕ) → front ≡ point (Mirror o) a.index want g →
    DecidedOk w a g want (Bound attempt name (suc k) heard) q now (on_mirrored front seq m)
mirror-next laws w a attempt name k heard g want seq now m q n o is front f =
    if-test w a g want (Bound attempt name (suc k) heard) q now (is_back front seq) (Ignore (Back seq front)) (cond (is_large m) (Ignore (Large (capped (content_size m)))) (Store (Put seq m None))) (ignores w a g want (Bound attempt name (suc k) heard) q now (Back seq front) n.before)
    (λ t. if-test w a g want (Bound attempt name (suc k) heard) q now (is_large m) (Ignore (Large (capped (content_size m)))) (Store (Put seq m None)) (ignores w a g want (Bound attempt name (suc k) heard) q now (Large (capped (content_size m))) n.before)
    (λ small fits un. let p = not-back front seq t in
    took-later w a g want (Some (Put seq m None)) attempt name k now (later-number w a attempt name k seq m g want n.next p.1)
    (in-mirror laws w a attempt name k heard g want seq now m n o is (subst (λ x. x < seq) f p.0) (fits (Put seq m None) refl))))

source-made : Laws → (w : World) (a : AskerId) (attempt name : Stamp) (k heard : ℕ) (g : History) (want : Origin) (seq now : ℕ) (m : Message) (q : Packet) (n : AtNext w a attempt name k heard g want seq m) (os : List Origin) → g.config.copies ≡ Sources os → point (Sources os) a.index want g < seq → seq < 2 ^ 63 →
    (r : Reached) → r.last ≡ last g.entries → (o : Option Message) → via want m seq ≡ o → DecidedOk w a g want (Bound attempt name (suc k) heard) q now (on_made a.index r now seq o)
source-made laws w a attempt name k heard g want seq now m q n os is above lt r same None vi =
    λ fits un. took-later w a g want None attempt name k now (later-number w a attempt name k seq m g want n.next lt) (skip-next w a attempt name k heard g want seq now m n
    (λ st. (let z : IsToStore (Sources os) want m seq = subst (λ (c : Copies). IsToStore c want m seq) is st in let y : None ≡ Some z.0 = sym vi ∙ z.1 in cc)))
source-made laws w a attempt name k heard g want seq now m q n os is above lt r same (Some v) vi =
    if-test w a g want (Bound attempt name (suc k) heard) q now (leb (2 ^ 63 - 1) r.last) (Ignore SeqEnd) (Store (Put (r.last + 1) (at_time (max now r.clock) v) (Some (record { index = a.index; seq = seq })))) (ignores w a g want (Bound attempt name (suc k) heard) q now SeqEnd n.before)
    (λ t fits un. took-later w a g want (Some (Put (r.last + 1) (at_time (max now r.clock) v) (Some (record { index = a.index; seq = seq })))) attempt name k now (later-number w a attempt name k seq m g want n.next lt)
    (subst (λ x. HearOk w a g want (Some (Put (x + 1) (at_time (max now r.clock) v) (Some (record { index = a.index; seq = seq })))) (Bound attempt name (suc (suc k)) now)) (sym same)
    (in-source laws w a attempt name k heard g want seq now (max now r.clock) m v n os is above vi
    (subst (λ x. AllFit (with_entry g (Put (x + 1) (at_time (max now r.clock) v) (Some (record { index = a.index; seq = seq }))))) same (fits (Put (r.last + 1) (at_time (max now r.clock) v) (Some (record { index = a.index; seq = seq }))) refl)))))

source-next : Laws → (w : World) (a : AskerId) (attempt name : Stamp) (k heard : ℕ) (g : History) (want : Origin) (seq now : ℕ) (m : Message) (q : Packet) (n : AtNext w a attempt name k heard g want seq m) (os : List Origin) → g.config.copies ≡ Sources os →
    (r : Reached) → r.mark ≡ point (Sources os) a.index want g → r.last ≡ last g.entries → DecidedOk w a g want (Bound attempt name (suc k) heard) q now (on_sourced want a.index r now seq m)
source-next laws w a attempt name k heard g want seq now m q n os is r at same =
    if-test w a g want (Bound attempt name (suc k) heard) q now (is_back r.mark seq) (Ignore (Back seq r.mark)) (cond (is_large m) (Ignore (Large (capped (content_size m)))) (on_made a.index r now seq (via want m seq))) (ignores w a g want (Bound attempt name (suc k) heard) q now (Back seq r.mark) n.before)
    (λ t. if-test w a g want (Bound attempt name (suc k) heard) q now (is_large m) (Ignore (Large (capped (content_size m)))) (on_made a.index r now seq (via want m seq)) (ignores w a g want (Bound attempt name (suc k) heard) q now (Large (capped (content_size m))) n.before)
    (λ small. let p = not-back r.mark seq t in
    source-made laws w a attempt name k heard g want seq now m q n os is (subst (λ x. x < seq) at p.0) p.1 r same (via want m seq) refl))

-- ---- answers

-- what was stored is up to where the copy has come
stored-reached : (w : World) (a : AskerId) (g : History) (want : Origin) (to : BoundTo) → AllFit g → HoldsBound w a.node g a.index want to → (s : ℕ) → HasStored g.config.copies a.index g s → s ≤ reached (copy_of a g want)
stored-reached w a g want to fit h s q =
    let p = stored-point g.config.copies a.index want g s (λ os is. (let sh : SourceHolds want h.origin.history g a.index = subst (λ (c : Copies). Holds c want h.origin.history g a.index) is h.holds in sh.rise)) q in
    let r = reached-is a g want fit in omega arith

first-bind : Laws → (w : World) (a : AskerId) (attempt name : Stamp) (since inc from now : ℕ) (g : History) (want : Origin) → Before w a g want (Asking attempt since) → Answered w a attempt name inc from g want → bound a.index g.entries ≡ None → AllFit (with_entry g (BindEntry a.index inc from)) →
    HearOk w a g want (Some (BindEntry a.index inc from)) (Bound attempt name 1 now)
first-bind laws w a attempt name since inc from now g want b d f more =
    let e : Entry = BindEntry a.index inc from in
    let hn : HoldsNothing g.config.copies g a.index = subst (λ (x : Option BoundTo). HoldsBy w a.node g a.index want x) f b.holds in
    let n : List ℕ = node_or a.node want.node in
    let log : List Rec = (w.shard n (shard_of want.stream)).log in
    let rise : NumbersRise d.origin.history.entries = log-rise laws log d.c.stream d.c.incarnation d.origin (b.ok n (shard_of want.stream)).logs d.reads in
    let right : IsRightStart d.origin.history want.start from = subst (λ x. IsRightStart d.origin.history want.start x) d.start_is (subst (λ x. IsRightStart d.origin.history x d.c.wanted.start) (ask_start-free a g want f) d.start) in
    let reads : made log want.stream inc ≡ Some d.origin = subst (λ x. made log x inc ≡ Some d.origin) d.stream (subst (λ x. made log d.c.stream x ≡ Some d.origin) d.incarnation d.reads) in
    record {
      phase = binds w a attempt name inc from g want d rise more b.origin f hn;
      own = subst (λ (x : Option BoundTo). HoldsBy w a.node (with_entry g e) a.index want x) (sym (bound-binds a.index inc from g.entries f))
          (record { origin = d.origin; reads = reads; right = right; holds = holds-binds laws g.config.copies want d.origin.history g a.index inc from hn (λ os is. b.follow (ap is_mirror is)) });
      others = λ x q j ne. (let same : e ≡ x = (let z : Some e ≡ Some x = q in cc) in subst (λ (y : Entry). PassesBy j y) same (λ z. ne (sym z)));
    }

by-inc : (w : World) (a : AskerId) (attempt name : Stamp) (since inc from now : ℕ) (g : History) (want : Origin) (q : Packet) → Before w a g want (Asking attempt since) → Answered w a attempt name inc from g want → consumer_named q ≡ name →
    (to : BoundTo) → bound a.index g.entries ≡ Some to → (t : Bool) → eqb to.incarnation inc ≡ t → DecidedOk w a g want (Asking attempt since) q now (cond t Rebind (Stop to.incarnation inc))
by-inc w a attempt name since inc from now g want q b d named to e true t =
    λ fits un. let hb : HoldsBound w a.node g a.index want to = subst (λ (x : Option BoundTo). HoldsBy w a.node g a.index want x) e b.holds in
    nothing-heard w a g want (Asking attempt since) (Bound attempt (consumer_named q) 1 now) b
    (subst (λ (x : Stamp). IsReading w a attempt x 1 g want) (sym named) (rebinds w a attempt name inc from g want d to e (sym (eqb-true to.incarnation inc t)) (stored-reached w a g want to b.fit hb)))
by-inc w a attempt name since inc from now g want q b d named to e false t = λ fits un. nothing-heard w a g want (Asking attempt since) (Stopped to.incarnation inc) b tt

by-bound : Laws → (w : World) (a : AskerId) (attempt name : Stamp) (since inc from now : ℕ) (g : History) (want : Origin) (q : Packet) → Before w a g want (Asking attempt since) → Answered w a attempt name inc from g want → consumer_named q ≡ name →
    (index : ℕ) → index ≡ a.index → (o : Option BoundTo) → bound a.index g.entries ≡ o → DecidedOk w a g want (Asking attempt since) q now (on_answer index o inc from)
by-bound laws w a attempt name since inc from now g want q b d named index at (Some to) e = by-inc w a attempt name since inc from now g want q b d named to e (eqb to.incarnation inc) refl
by-bound laws w a attempt name since inc from now g want q b d named index at None e =
    λ fits un. subst (λ x. HearOk w a g want (Some (BindEntry x inc from)) (Bound attempt (consumer_named q) 1 now)) (sym at)
    (subst (λ (x : Stamp). HearOk w a g want (Some (BindEntry a.index inc from)) (Bound attempt x 1 now)) (sym named)
    (first-bind laws w a attempt name since inc from now g want b d e (subst (λ x. AllFit (with_entry g (BindEntry x inc from))) at (fits (BindEntry index inc from) refl))))

-- ---- all orders

-- what a copy decides, where this is what it decides of the awaited delivery
abbrev decide : (Packet → Decision) → ℕ → Option BoundTo → Order → Packet → Decision
decide on_next index o Next q = on_next q
decide on_next index o (OldOrder number next) q = other_decision index o (OldOrder number next) q
decide on_next index o ForeignOrder q = other_decision index o ForeignOrder q
decide on_next index o (GapOrder expected got) q = other_decision index o (GapOrder expected got) q
decide on_next index o BeatOrder q = other_decision index o BeatOrder q
decide on_next index o FlowOrder q = other_decision index o FlowOrder q
decide on_next index o AnswerOrder q = other_decision index o AnswerOrder q
decide on_next index o RefuseOrder q = other_decision index o RefuseOrder q

-- the awaited delivery is decided rightly
NextOk : World → AskerId → History → Origin → ℕ → (Packet → Decision) → Type 0
NextOk w a g want now on_next = (attempt name : Stamp) (k heard seq : ℕ) (m : Message) (asker : AskerId) (at c : Stamp) (stream : List ℕ) (number pending : ℕ) → AtNext w a attempt name k heard g want seq m →
    DecidedOk w a g want (Bound attempt name (suc k) heard) (Delivery asker at stream c number seq pending m) now (on_next (Delivery asker at stream c number seq pending m))

both_stamps : (x y u v : Stamp) → (same_stamp x y && same_stamp u v) ≡ true → (x ≡ y) × (u ≡ v)
both_stamps x y u v e = let q = and_parts (same_stamp x y) (same_stamp u v) e in (same_stamp-is x y q.0, same_stamp-is u v q.1)

module _ (laws : Laws) (w : World) (a : AskerId) (g : History) (want : Origin) (now : ℕ) (on_next : Packet → Decision) (index : ℕ) (o : Option BoundTo) (at : index ≡ a.index) (e : bound a.index g.entries ≡ o) (next-ok : NextOk w a g want now on_next) where
  answer-by : (attempt name : Stamp) (since inc from : ℕ) (asker : AskerId) (of : Stamp) → Before w a g want (Asking attempt since) → asker ≡ a → Contains w.bag (Answer asker of name inc from) →
      (t : Bool) → same_stamp of attempt ≡ t → DecidedOk w a g want (Asking attempt since) (Answer asker of name inc from) now (decide on_next index o (cond t AnswerOrder ForeignOrder) (Answer asker of name inc from))
  answer-by attempt name since inc from asker of b own q true f =
      let q' = subst (λ (x : AskerId). Contains w.bag (Answer x attempt name inc from)) own (subst (λ (x : Stamp). Contains w.bag (Answer asker x name inc from)) (same_stamp-is of attempt f) q) in
      by-bound laws w a attempt name since inc from now g want (Answer asker of name inc from) b (answered w b.bag a attempt name inc from g want b.phase q') refl index at o e
  answer-by attempt name since inc from asker of b own q false f = ignores w a g want (Asking attempt since) (Answer asker of name inc from) now IsForeign b

  refuse-by : (attempt : Stamp) (since : ℕ) (q : Packet) → Before w a g want (Asking attempt since) → (t : Bool) → DecidedOk w a g want (Asking attempt since) q now (decide on_next index o (cond t RefuseOrder ForeignOrder) q)
  refuse-by attempt since q b true = λ fits un. nothing-heard w a g want (Asking attempt since) (Asking attempt since) b b.phase
  refuse-by attempt since q b false = ignores w a g want (Asking attempt since) q now IsForeign b

  hears-asking : (attempt : Stamp) (since : ℕ) (q : Packet) → Before w a g want (Asking attempt since) → Contains w.bag q → addressee q ≡ Some a → DecidedOk w a g want (Asking attempt since) q now (decide on_next index o (order (Asking attempt since) q) q)
  hears-asking attempt since (Ask x of og s f fs) b q own = ignores w a g want (Asking attempt since) (Ask x of og s f fs) now IsForeign b
  hears-asking attempt since (Answer x of name inc from) b q own = answer-by attempt name since inc from x of b (cc) q (same_stamp of attempt) refl
  hears-asking attempt since (Refuse x of code err) b q own = refuse-by attempt since (Refuse x of code err) b (same_stamp of attempt)
  hears-asking attempt since (Delivery x of s c n i p m) b q own = ignores w a g want (Asking attempt since) (Delivery x of s c n i p m) now IsForeign b
  hears-asking attempt since (Beat x of og s c n i st) b q own = ignores w a g want (Asking attempt since) (Beat x of og s c n i st) now IsForeign b
  hears-asking attempt since (FlowAsk x of og s c t) b q own = ignores w a g want (Asking attempt since) (FlowAsk x of og s c t) now IsForeign b
  hears-asking attempt since (FlowReply og s c t) b q own = ignores w a g want (Asking attempt since) (FlowReply og s c t) now IsForeign b

  next-by : (attempt name : Stamp) (next heard : ℕ) (stream : List ℕ) (number seq pending : ℕ) (m : Message) → Before w a g want (Bound attempt name next heard) →
      (asker : AskerId) (of c : Stamp) → asker ≡ a → of ≡ attempt → c ≡ name → Contains w.bag (Delivery asker of stream c number seq pending m) → number ≡ next →
      DecidedOk w a g want (Bound attempt name next heard) (Delivery asker of stream c number seq pending m) now (on_next (Delivery asker of stream c number seq pending m))
  unfolding NextOk
  next-by attempt name zero heard stream number seq pending m b asker of c ea et ec q f =
      let q' = subst (λ (x : AskerId). Contains w.bag (Delivery x attempt stream name number seq pending m)) ea (subst (λ (x : Stamp). Contains w.bag (Delivery asker x stream name number seq pending m)) et (subst (λ (x : Stamp). Contains w.bag (Delivery asker of stream x number seq pending m)) ec q)) in
      let d = delivered w b.bag b.ok a attempt name zero g want b.phase stream number seq pending m q' in
      let n = d.number_is in absurd (omega arith)
  next-by attempt name (suc k) heard stream number seq pending m b asker of c ea et ec q f =
      let q' = subst (λ (x : AskerId). Contains w.bag (Delivery x attempt stream name number seq pending m)) ea (subst (λ (x : Stamp). Contains w.bag (Delivery asker x stream name number seq pending m)) et (subst (λ (x : Stamp). Contains w.bag (Delivery asker of stream x number seq pending m)) ec q)) in
      let bo : IsReading w a attempt name (suc k) g want = b.phase in
      let d = delivered w b.bag b.ok a attempt name (suc k) g want bo stream number seq pending m q' in
      let dk : d.k ≡ k = (let n = d.number_is in omega arith) in
      let n : List ℕ = node_or a.node want.node in
      next-ok attempt name k heard seq m asker of c stream number pending (record {
        before = b;
        next = record {
          b = bo;
          skips = skips-of (w.shard n (shard_of want.stream)) bo.c bo.origin (b.ok n (shard_of want.stream)) bo.ever bo.reads;
          rise = log-rise laws (w.shard n (shard_of want.stream)).log bo.c.stream bo.c.incarnation bo.origin (b.ok n (shard_of want.stream)).logs bo.reads;
          faultless = b.faultless;
          origin = b.origin;
          member = subst (λ x. slice_get (chain bo.c.sent) x ≡ Some seq) dk d.member;
          there = d.put_there;
        };
      })

  number-by : (attempt name : Stamp) (next heard : ℕ) (stream : List ℕ) (number seq pending : ℕ) (m : Message) (asker : AskerId) (of c : Stamp) → Before w a g want (Bound attempt name next heard) →
      (number ≡ next → DecidedOk w a g want (Bound attempt name next heard) (Delivery asker of stream c number seq pending m) now (on_next (Delivery asker of stream c number seq pending m))) → (t u : Bool) → eqb number next ≡ t →
      DecidedOk w a g want (Bound attempt name next heard) (Delivery asker of stream c number seq pending m) now (decide on_next index o (cond t Next (cond u (OldOrder number next) (GapOrder next number))) (Delivery asker of stream c number seq pending m))
  number-by attempt name next heard stream number seq pending m asker of c b h true u f = h (eqb-true number next f)
  number-by attempt name next heard stream number seq pending m asker of c b h false true f = ignores w a g want (Bound attempt name next heard) (Delivery asker of stream c number seq pending m) now (IsOld number next) b
  number-by attempt name next heard stream number seq pending m asker of c b h false false f = λ fits un. absurd (cc)

  delivery-by : (attempt name : Stamp) (next heard : ℕ) (stream : List ℕ) (number seq pending : ℕ) (m : Message) (asker : AskerId) (of c : Stamp) → Before w a g want (Bound attempt name next heard) → asker ≡ a →
      Contains w.bag (Delivery asker of stream c number seq pending m) → (t : Bool) → (same_stamp of attempt && same_stamp c name) ≡ t →
      DecidedOk w a g want (Bound attempt name next heard) (Delivery asker of stream c number seq pending m) now (decide on_next index o (cond t (of_delivery number next) ForeignOrder) (Delivery asker of stream c number seq pending m))
  delivery-by attempt name next heard stream number seq pending m asker of c b own q true f =
      let st = both_stamps of attempt c name f in
      number-by attempt name next heard stream number seq pending m asker of c b
      (λ n. next-by attempt name next heard stream number seq pending m b asker of c own st.0 st.1 q n) (eqb number next) (ltb number next) refl
  delivery-by attempt name next heard stream number seq pending m asker of c b own q false f = ignores w a g want (Bound attempt name next heard) (Delivery asker of stream c number seq pending m) now IsForeign b

  bound-later : (attempt name : Stamp) (next heard : ℕ) → Before w a g want (Bound attempt name next heard) → HearOk w a g want None (Bound attempt name next now)
  bound-later attempt name next heard b = nothing-heard w a g want (Bound attempt name next heard) (Bound attempt name next now) b b.phase

  beats : (attempt name : Stamp) (next heard : ℕ) (q : Packet) (st : Option ℕ) → Before w a g want (Bound attempt name next heard) → DecidedOk w a g want (Bound attempt name next heard) q now (on_beat st)
  beats attempt name next heard q None b = λ fits un. bound-later attempt name next heard b
  beats attempt name next heard q (Some t) b = λ fits un. bound-later attempt name next heard b

  beat-by : (attempt name : Stamp) (next heard : ℕ) (x : AskerId) (of c : Stamp) (og s : List ℕ) (n i z : ℕ) (st : Option ℕ) → Before w a g want (Bound attempt name next heard) → (t u : Bool) →
      DecidedOk w a g want (Bound attempt name next heard) (Beat x of og s c n i st) now (decide on_next index o (cond t (cond u BeatOrder (GapOrder next z)) ForeignOrder) (Beat x of og s c n i st))
  beat-by attempt name next heard x of c og s n i z st b true true = beats attempt name next heard (Beat x of og s c n i st) st b
  beat-by attempt name next heard x of c og s n i z st b true false = λ fits un. absurd (cc)
  beat-by attempt name next heard x of c og s n i z st b false u = ignores w a g want (Bound attempt name next heard) (Beat x of og s c n i st) now IsForeign b

  flow-by : (attempt name : Stamp) (next heard : ℕ) (q : Packet) → Before w a g want (Bound attempt name next heard) → (t : Bool) →
      DecidedOk w a g want (Bound attempt name next heard) q now (decide on_next index o (cond t FlowOrder ForeignOrder) q)
  flow-by attempt name next heard q b true = λ fits un. bound-later attempt name next heard b
  flow-by attempt name next heard q b false = ignores w a g want (Bound attempt name next heard) q now IsForeign b

  hears-bound : (attempt name : Stamp) (next heard : ℕ) (q : Packet) → Before w a g want (Bound attempt name next heard) → Contains w.bag q → addressee q ≡ Some a → DecidedOk w a g want (Bound attempt name next heard) q now (decide on_next index o (order (Bound attempt name next heard) q) q)
  hears-bound attempt name next heard (Ask x of og s f fs) b q own = ignores w a g want (Bound attempt name next heard) (Ask x of og s f fs) now IsForeign b
  hears-bound attempt name next heard (Answer x of c inc from) b q own = ignores w a g want (Bound attempt name next heard) (Answer x of c inc from) now IsForeign b
  hears-bound attempt name next heard (Refuse x of code err) b q own = ignores w a g want (Bound attempt name next heard) (Refuse x of code err) now IsForeign b
  hears-bound attempt name next heard (Delivery x of s c n i p m) b q own = delivery-by attempt name next heard s n i p m x of c b (cc) q (same_stamp of attempt && same_stamp c name) refl
  hears-bound attempt name next heard (Beat x of og s c n i st) b q own = beat-by attempt name next heard x of c og s n i (min (n + 1) (2 ^ 64 - 1)) st b (same_stamp of attempt && same_stamp c name) (ltb n next)
  hears-bound attempt name next heard (FlowAsk x of og s c t) b q own = flow-by attempt name next heard (FlowAsk x of og s c t) b (same_stamp of attempt && same_stamp c name)
  hears-bound attempt name next heard (FlowReply og s c t) b q own = ignores w a g want (Bound attempt name next heard) (FlowReply og s c t) now IsForeign b

  decide-ok : (p : Phase) (q : Packet) → Before w a g want p → Contains w.bag q → addressee q ≡ Some a → DecidedOk w a g want p q now (decide on_next index o (order p q) q)
  decide-ok Idle q b m own = ignores w a g want Idle q now IsForeign b
  decide-ok (Asking attempt since) q b m own = hears-asking attempt since q b m own
  decide-ok (Bound attempt name next heard) q b m own = hears-bound attempt name next heard q b m own
  decide-ok (Stopped kept seen) q b m own = ignores w a g want (Stopped kept seen) q now IsForeign b

mirror-decides : (o : Option BoundTo) (front : ℕ) (r : Order) (q : Packet) → mirror_decision o front r q ≡ decide (of_mirrored front) 0 o r q
mirror-decides o front Next q = refl
mirror-decides o front (OldOrder number next) q = refl
mirror-decides o front ForeignOrder q = refl
mirror-decides o front (GapOrder expected got) q = refl
mirror-decides o front BeatOrder q = refl
mirror-decides o front FlowOrder q = refl
mirror-decides o front AnswerOrder q = refl
mirror-decides o front RefuseOrder q = refl

source-decides : (want : Origin) (index : ℕ) (o : Option BoundTo) (r : Reached) (now : ℕ) (x : Order) (q : Packet) → source_decision want index o r now x q ≡ decide (of_sourced want index r now) index o x q
source-decides want index o r now Next q = refl
source-decides want index o r now (OldOrder number next) q = refl
source-decides want index o r now ForeignOrder q = refl
source-decides want index o r now (GapOrder expected got) q = refl
source-decides want index o r now BeatOrder q = refl
source-decides want index o r now FlowOrder q = refl
source-decides want index o r now AnswerOrder q = refl
source-decides want index o r now RefuseOrder q = refl

decided-by : Laws → (w : World) (v : View) (a : AskerId) (g : History) (want : Origin) (q : Packet) (now : ℕ) (c : Copies) → g.config.copies ≡ c → Before w a g want (asker_of v (copy_of a g want)).phase → Contains w.bag q → addressee q ≡ Some a →
    DecidedOk w a g want (asker_of v (copy_of a g want)).phase q now (decided_by c v (copy_of a g want) now q)
unfolding NextOk
decided-by laws w v a g want q now Nothing is b m own = ignores w a g want (asker_of v (copy_of a g want)).phase q now IsForeign b
decided-by laws w v a g want q now (Mirror x) is b m own =
    let z : a.index ≡ 0 = (mirror-origin x want a.index (subst (λ (c : Copies). origin_named a.index c ≡ Some want) is b.origin)).1 in
    let f : reached (copy_of a g want) ≡ point (Mirror x) a.index want g = reached-is a g want b.fit ∙ ap (λ (c : Copies). point c a.index want g) is in
    subst (λ (d : Decision). DecidedOk w a g want (asker_of v (copy_of a g want)).phase q now d) (sym (mirror-decides (get (facts g).bindings 0) (reached (copy_of a g want)) (order (asker_of v (copy_of a g want)).phase q) q))
    (decide-ok laws w a g want now (of_mirrored (reached (copy_of a g want))) 0 (get (facts g).bindings 0) (sym z) (ap (λ i. bound i g.entries) z ∙ sym ((facts-tell g).bound 0))
    next (asker_of v (copy_of a g want)).phase q b m own)
  where
    next : NextOk w a g want now (of_mirrored (reached (copy_of a g want)))
    next attempt name k heard seq m asker of c stream number pending n =
        mirror-next laws w a attempt name k heard g want seq now m (Delivery asker of stream c number seq pending m) n x is (reached (copy_of a g want)) (reached-is a g want b.fit ∙ ap (λ (c : Copies). point c a.index want g) is)
decided-by laws w v a g want q now (Sources os) is b m own =
    subst (λ (d : Decision). DecidedOk w a g want (asker_of v (copy_of a g want)).phase q now d) (sym (source-decides want a.index (get (facts g).bindings a.index) (record { mark = reached (copy_of a g want); last = (facts g).last; clock = (facts g).clock }) now (order (asker_of v (copy_of a g want)).phase q) q))
    (decide-ok laws w a g want now (of_sourced want a.index (record { mark = reached (copy_of a g want); last = (facts g).last; clock = (facts g).clock }) now) a.index (get (facts g).bindings a.index) refl (sym ((facts-tell g).bound a.index))
    next (asker_of v (copy_of a g want)).phase q b m own)
  where
    next : NextOk w a g want now (of_sourced want a.index (record { mark = reached (copy_of a g want); last = (facts g).last; clock = (facts g).clock }) now)
    next attempt name k heard seq m asker of c stream number pending n =
        source-next laws w a attempt name k heard g want seq now m (Delivery asker of stream c number seq pending m) n os is (record { mark = reached (copy_of a g want); last = (facts g).last; clock = (facts g).clock })
        (reached-is a g want b.fit ∙ ap (λ (c : Copies). point c a.index want g) is) (facts-tell g).last

-- Whatever a copy hears leaves it as it should be.
pub hears : Laws → (w : World) (v : View) (a : AskerId) (g : History) (want : Origin) (q : Packet) (now : ℕ) → Before w a g want (asker_of v (copy_of a g want)).phase → Contains w.bag q → addressee q ≡ Some a →
    DecidedOk w a g want (asker_of v (copy_of a g want)).phase q now (decided_by g.config.copies v (copy_of a g want) now q)
hears laws w v a g want q now b m own = decided-by laws w v a g want q now g.config.copies refl b m own
