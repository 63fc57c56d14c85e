-- What becomes of askers, and that each attempt is asked with once.
use Rattle.std.proofs.Common.{◌≡◌, ℕ, zero, suc, ◌+◌, ◌≤◌, true, false, cond, eqb, List, [], ◌∷◌, ◌++◌, Option, Some, None, refl, sym, ap, ◌∙◌, subst, arith, ◌⊎◌, inl, inr, append-nil}
use Rattle.std.specs.Prelude.{⊤, option_map, slice_get, Contains}
use Rattle.std.specs.FinMap.{get}
use Rattle.std.specs.Cmp.Lexicographic.{bytes_decides}
use Rattle.std.proofs.lemmas.Bool.{eqb-true, ne_eqb}
use Rattle.std.proofs.lemmas.List.Elements.{Contains-append_cases}
use Rattle.nats_text.specs.declared.message.Stamp.{Stamp}
use Rattle.nats_text.specs.declared.message.Start.{Start}
use Rattle.nats_text.specs.declared.origin.Origin.{Origin}
use Rattle.js_wire.specs.declared.packet.AskerId.{AskerId}
use Rattle.js_wire.specs.declared.packet.Packet.{Packet}
use Rattle.js_wire.specs.declared.packet.Packet.TheVariants.{Ask, Answer, Refuse, Delivery, Beat, FlowAsk, FlowReply}
use Rattle.stream_fold.specs.declared.config.Config.{Config}
use Rattle.stream_fold.specs.declared.config.Copies.{Copies}
use Rattle.stream_fold.specs.declared.config.Copies.TheVariants.{Nothing, Mirror, Sources}
use Rattle.stream_fold.specs.declared.decision.Decision.{Decision}
use Rattle.stream_fold.specs.Copying.{origin_named}
use Rattle.stream_fold.specs.Facts.{StreamFacts, facts}
use Rattle.stream_fold.specs.Histories.{History}
use Rattle.stream_fold.proofs.FactLemmas.{facts-tell}
use Rattle.record_codec.specs.declared.records.Rec.{Rec}
use Rattle.replica_ask.specs.Askers.{AskerState, next_attempt, asking, with_phase}
use Rattle.replica_ask.specs.Filters.{filters_of}
use Rattle.replica_ask.specs.declared.phase.Phase.TheVariants.{Idle, Asking}
use Rattle.shard_machine.specs.declared.call.ShardCall.{ShardCall}
use Rattle.shard_machine.specs.declared.call.ShardCall.TheVariants as call
use Rattle.shard_machine.specs.Logs.{Made, boot, incarnation, live}
use Rattle.shard_machine.specs.Images.{LogImage, NameFacts, image_after, live_in, known_of}
use Rattle.shard_machine.specs.Views.{View, Effect, Copy, Askers, origins_of, node_or, id_of, askers_of, asker_or_new, asker_of, ask_of, ask_start}
use Rattle.shard_machine.specs.Answers.{addressee, copy_of_asker, decided_by}
use Rattle.shard_machine.specs.Steps.{Held, view_in}
use Rattle.shard_machine.proofs.Images.{images-tell}
use Rattle.run_soundness.specs.Shards.{ShardState, IsGiven}
use Rattle.run_soundness.specs.Soundness.{IsCopy, asker_at, copy_of}
use Rattle.run_soundness.proofs.Following.{entry_by, phase_by, asks_again}
use Rattle.run_soundness.specs.Below.{Laws}
use Rattle.run_soundness.proofs.Logs.{live-push}
use Rattle.run_soundness.proofs.LogsLegal.{live-ok, fit-keeps}
use Rattle.run_soundness.proofs.Stamps.{given-on}
use Rattle.run_soundness.proofs.ShardsCopies.{IsCopyOf, copy-stream, heard-by, heard-copy}
use Rattle.run_soundness.proofs.ShardsAskers.{stored_at, rest_of, written, copy-one, AskedRow, HeardRow, AskerRow, RowSame, RowIdle, RowAsked, RowHeard, IsAskOf, AskersRow}
use Rattle.run_soundness.proofs.ShardsRows.{option_list}
use Rattle.run_soundness.proofs.ShardsKept.{ShardOk, AnswersOn, ShardOk-answers, row, next_log, log-is, held-image, boot-is}

-- ---- attempts

-- one Ask for each asker and attempt
abbrev pub OneAsk : List Packet → Type 0
OneAsk bag = (a : AskerId) (attempt : Stamp) (o o' s s' : List ℕ) (from from' : Start) (fs fs' : List (List ℕ)) →
    Contains bag (Ask a attempt o s from fs) → Contains bag (Ask a attempt o' s' from' fs') → Ask a attempt o s from fs ≡ Ask a attempt o' s' from' fs'

-- each attempt of the asker that the bag has was given
abbrev pub GivenIn : List Packet → ℕ → AskerState → AskerId → Type 0
GivenIn bag b state a = (attempt : Stamp) (origin stream : List ℕ) (from : Start) (filters : List (List ℕ)) → Contains bag (Ask a attempt origin stream from filters) → IsGiven b state.attempts attempt

abbrev pub NoAsk : Packet → Type 0
NoAsk (Ask a attempt origin stream from filters) = ⊥
NoAsk (Answer asker attempt consumer incarnation start) = ⊤
NoAsk (Refuse asker attempt code err_code) = ⊤
NoAsk (Delivery asker attempt stream consumer number seq pending message) = ⊤
NoAsk (Beat asker attempt origin stream consumer last_number last_seq stalled) = ⊤
NoAsk (FlowAsk asker attempt origin stream consumer token) = ⊤
NoAsk (FlowReply origin stream consumer token) = ⊤

-- each asker that a shard has is that of its stream and index, in this boot
pub record AskersOk (h : Held) : Type 0 where
  pub stored : (stream : List ℕ) (index : ℕ) (st : AskerState) → get (askers_of h.askers stream) index ≡ Some st → (st.id ≡ record { node = h.node; stream = stream; index = index }) × (st.boot ≡ h.image.boot)

-- what holds of the bag and of the askers of a shard as they ask
pub record AsksOk (Own : AskerId → Type 0) (b : ℕ) (bag : List Packet) (h : Held) : Type 0 where
  pub one : OneAsk bag
  pub given : (a : AskerId) → Own a → GivenIn bag b (asker_at h a) a

-- ---- what becomes of an asker

-- the asker's Ask is among the packets, and it waits for the answer
pub record HasAsked (does : Effect) (new : ShardState) (a : AskerId) : Type 0 where
  pub g : History
  pub want : Origin
  pub copy : IsCopy new a g want
  pub attempt : Stamp
  pub since : ℕ
  pub phase : (asker_at new.held a).phase ≡ Asking attempt since
  pub sent : Contains does.reply.packets (Ask a attempt (node_or a.node want.node) want.stream (ask_start (copy_of a g want)) (filters_of want))

-- the asker follows what its copy decides about the packet of the call
pub record HasHeard (mid : ShardState) (c : ShardCall) (does : Effect) (new : ShardState) (a : AskerId) : Type 0 where
  pub packet : Packet
  pub now : ℕ
  pub is : c ≡ call.Heard packet now
  pub own : addressee packet ≡ Some a
  pub g : History
  pub want : Origin
  pub copy : IsCopy mid a g want
  pub d : Decision
  pub d_is : d ≡ decided_by g.config.copies (view_in mid.held) (copy_of a g want) now packet
  pub no_ask : asks_again d ≡ false
  pub phase : (asker_at new.held a).phase ≡ phase_by d packet now (asker_at mid.held a).phase
  pub records : does.records ≡ written a.stream (entry_by d)

pub data AskerAfter (mid : ShardState) (c : ShardCall) (does : Effect) (new : ShardState) (a : AskerId) : Type 0 where
  Stays : asker_at new.held a ≡ asker_at mid.held a → AskerAfter mid c does new a
  Rests : (asker_at new.held a).phase ≡ Idle → AskerAfter mid c does new a
  Asks : HasAsked does new a → AskerAfter mid c does new a
  Hears : HasHeard mid c does new a → AskerAfter mid c does new a

-- ---- copies by the log

named-by : (copies : Copies) (i : ℕ) (want : Origin) → slice_get (origins_of copies) i ≡ Some want → origin_named i copies ≡ Some want
named-by Nothing i want e = absurd (cc)
named-by (Mirror o) zero want e = e
named-by (Mirror o) (suc i) want e = absurd (cc)
named-by (Sources os) i want e = e

named-back : (copies : Copies) (i : ℕ) (want : Origin) → origin_named i copies ≡ Some want → slice_get (origins_of copies) i ≡ Some want
named-back Nothing i want e = absurd (cc)
named-back (Mirror o) zero want e = e
named-back (Mirror o) (suc i) want e = absurd (let z : cond (eqb (suc i) 0) (Some o) None ≡ None = ap (λ b. cond b (Some o) None) (ne_eqb (suc i) 0 (λ q. omega (arith, q))) in let y : None ≡ Some want = sym z ∙ e in cc)
named-back (Sources os) i want e = e

-- a copy that a shard sees is one by its log
pub record CopyHere (s : ShardState) (a : AskerId) (c : Copy) : Type 0 where
  pub g : History
  pub copy : IsCopy s a g c.want
  pub is : c ≡ copy_of a g c.want
  pub copies : (facts g).config.copies ≡ g.config.copies

copies-are : (s : ShardState) (name : List ℕ) (m : Made) → ShardOk s → live s.log name ≡ Some m → (facts m.history).config.copies ≡ m.history.config.copies
copies-are s name m ok l = ap (λ (x : Config). x.copies) (facts-tell m.history).limits ∙ (fit-keeps m.history (live-ok s.log name m ok.logs l).fit).copies

live-seen : (s : ShardState) (name : List ℕ) (known : NameFacts) → ShardOk s → live_in s.held.image name ≡ Some known → (m : Made) × (live s.log name ≡ Some m) × (known_of (incarnation s.log name) m ≡ known)
live-seen s name known ok e = by (live s.log name) refl (sym ((images-tell s.log).live name) ∙ (ap (λ i. live_in i name) (sym ok.image_is) ∙ e))
  where
    by : (o : Option Made) → live s.log name ≡ o → option_map (known_of (incarnation s.log name)) o ≡ Some known → (m : Made) × (live s.log name ≡ Some m) × (known_of (incarnation s.log name) m ≡ known)
    by None l f = absurd (cc)
    by (Some m) l f = (m, l, (cc))

pub copy-here : (s : ShardState) (a : AskerId) (c : Copy) → ShardOk s → a.node ≡ s.held.node → IsCopyOf s.held.image c → c.stream ≡ a.stream → c.index ≡ a.index → CopyHere s a c
copy-here s a c ok node is streams indexes =
    let w = live-seen s c.stream is.known ok is.here in
    let f_is : c.facts ≡ facts w.0.history = is.facts ∙ ap (λ (k : NameFacts). k.stream) (sym w.2) in
    let same = copies-are s c.stream w.0 ok w.1 in
    record {
      g = w.0.history;
      copy = record {
        node = node;
        stream = w.0;
        stands = ap (live s.log) (sym streams) ∙ w.1;
        history = refl;
        origin = subst (λ i. origin_named i w.0.history.config.copies ≡ Some c.want) indexes
            (named-by w.0.history.config.copies c.index c.want (ap (λ k. slice_get (origins_of k) c.index) (sym (ap (λ (f : StreamFacts). f.config.copies) f_is ∙ same)) ∙ is.origin));
      };
      is = λ j. record { stream = streams j; index = indexes j; facts = f_is j; want = c.want };
      copies = same;
    }

-- a copy by the log is one that the shard sees
pub copy-seen : (s : ShardState) (a : AskerId) (g : History) (want : Origin) → ShardOk s → IsCopy s a g want → IsCopyOf s.held.image (copy_of a g want)
copy-seen s a g want ok c =
    let same : (facts g).config.copies ≡ g.config.copies = subst (λ (h : History). (facts h).config.copies ≡ h.config.copies) c.history (copies-are s a.stream c.stream ok c.stands) in
    record {
      known = known_of (incarnation s.log a.stream) c.stream;
      here = ap (λ i. live_in i a.stream) ok.image_is ∙ ((images-tell s.log).live a.stream ∙ ap (option_map (known_of (incarnation s.log a.stream))) c.stands);
      facts = ap facts (sym c.history);
      origin = ap (λ k. slice_get (origins_of k) a.index) same ∙ named-back g.config.copies a.index want c.origin;
    }

-- ---- an answer

asker-boot : (h : Held) (fine : AskersOk h) (id : AskerId) (o : Option AskerState) → stored_at h.askers id.stream id.index ≡ o → (asker_or_new id h.image.boot o).boot ≡ h.image.boot
asker-boot h fine id None e = refl
asker-boot h fine id (Some st) e = (fine.stored id.stream id.index st e).1

asker-id : (h : Held) (fine : AskersOk h) (c : Copy) (o : Option AskerState) → stored_at h.askers c.stream c.index ≡ o → (asker_or_new (id_of h.node c) h.image.boot o).id ≡ record { node = h.node; stream = c.stream; index = c.index }
asker-id h fine c None e = refl
asker-id h fine c (Some st) e = (fine.stored c.stream c.index st e).0

idle-phase : (a : AskerId) (b : ℕ) (o : Option AskerState) → (asker_or_new a b (option_map rest_of o)).phase ≡ Idle
idle-phase a b None = refl
idle-phase a b (Some st) = refl

idle-attempts : (a : AskerId) (b : ℕ) (o : Option AskerState) → (asker_or_new a b (option_map rest_of o)).attempts ≡ (asker_or_new a b o).attempts
idle-attempts a b None = refl
idle-attempts a b (Some st) = refl

idle-was : (o : Option AskerState) (st : AskerState) → option_map rest_of o ≡ Some st → (was : AskerState) × (o ≡ Some was) × (rest_of was ≡ st)
idle-was None st e = absurd (cc)
idle-was (Some was) st e = (was, refl, (cc))

module _ (laws : Laws) (mid new : ShardState) (called : ShardCall) (does : Effect) (ok : ShardOk mid) (loaded : mid.held.loaded ≡ true) (fine : AskersOk mid.held) (a : AnswersOn mid called does new) where
  abbrev v : View
  v = view_in mid.held

  new-ok : ShardOk new
  new-ok = ShardOk-answers laws mid new called does ok loaded a

  askers-row : AskersRow v called does
  askers-row = (row laws mid new called does ok loaded a).askers

  node-is : new.held.node ≡ mid.held.node
  node-is = ap (λ (h : Held). h.node) a.becomes

  image-is : new.held.image ≡ image_after mid.held.image does.records
  image-is = ap (λ (h : Held). h.image) a.becomes

  boot-held : new.held.image.boot ≡ mid.held.image.boot
  boot-held =
      ap (λ (i : LogImage). i.boot) (held-image laws mid new called does ok loaded a)
      ∙ ((images-tell (next_log laws mid new called does ok loaded a)).boot
      ∙ (boot-is laws mid new called does ok loaded a
      ∙ (sym (images-tell mid.log).boot ∙ ap (λ (i : LogImage). i.boot) (sym ok.image_is))))

  boot-mid : mid.held.image.boot ≡ boot mid.log
  boot-mid = ap (λ (i : LogImage). i.boot) ok.image_is ∙ (images-tell mid.log).boot

  boot-log : boot new.log ≡ boot mid.log
  boot-log = ap boot (log-is laws mid new called does ok loaded a) ∙ boot-is laws mid new called does ok loaded a

  -- an asker then
  at-is : (x : AskerId) (o : Option AskerState) → stored_at does.askers x.stream x.index ≡ o → asker_at new.held x ≡ asker_or_new x mid.held.image.boot o
  at-is x o e =
      ap (λ (m : Askers). asker_or_new x new.held.image.boot (stored_at m x.stream x.index)) (ap (λ (h : Held). h.askers) a.becomes)
      ∙ (ap (λ b. asker_or_new x b (stored_at does.askers x.stream x.index)) boot-held
      ∙ ap (asker_or_new x mid.held.image.boot) e)

  -- the asker of a copy is that of its name
  copy-id : (x : AskerId) (c : Copy) → x.node ≡ mid.held.node → c.stream ≡ x.stream → c.index ≡ x.index → id_of mid.held.node c ≡ x
  copy-id x c node streams indexes = λ i. record { node = sym node i; stream = streams i; index = indexes i }

  asker-same : (x : AskerId) (c : Copy) → x.node ≡ mid.held.node → c.stream ≡ x.stream → c.index ≡ x.index → asker_of v c ≡ asker_at mid.held x
  asker-same x c node streams indexes = ap (λ (y : AskerId). asker_or_new y mid.held.image.boot (stored_at mid.held.askers y.stream y.index)) (copy-id x c node streams indexes)

  -- a copy of the image then, by the log
  copy-then : (x : AskerId) (c : Copy) → x.node ≡ mid.held.node → IsCopyOf (image_after mid.held.image does.records) c → c.stream ≡ x.stream → c.index ≡ x.index → CopyHere new x c
  copy-then x c node is streams indexes = copy-here new x c new-ok (node ∙ sym node-is) (subst (λ (i : LogImage). IsCopyOf i c) (sym image-is) is) streams indexes

  has-asked : (x : AskerId) → x.node ≡ mid.held.node → AskedRow v does x.stream x.index → HasAsked does new x
  has-asked x node r =
      let h = copy-then x r.c node r.copy r.stream_is r.index_is in
      let id = copy-id x r.c node r.stream_is r.index_is in
      let at : Stamp = next_attempt (asker_of v r.c) in
      record {
        g = h.g;
        want = r.c.want;
        copy = h.copy;
        attempt = at;
        since = r.now;
        phase = ap (λ (st : AskerState). st.phase) (at-is x (Some (asking (asker_of v r.c) r.now)) r.stored);
        sent = subst (Contains does.reply.packets)
            (ap (λ (y : AskerId). Ask y at (node_or mid.held.node r.c.want.node) r.c.want.stream (ask_start r.c) (filters_of r.c.want)) id
            ∙ (ap (λ n. Ask x at (node_or n r.c.want.node) r.c.want.stream (ask_start r.c) (filters_of r.c.want)) (sym node)
            ∙ ap (λ (k : Copy). Ask x at (node_or x.node r.c.want.node) r.c.want.stream (ask_start k) (filters_of r.c.want)) h.is))
            r.sent;
      }

  heard-own : (x : AskerId) (c : Copy) (o : Option AskerId) → x.node ≡ mid.held.node → c.stream ≡ x.stream → c.index ≡ x.index → copy_of_asker v o ≡ Some c → o ≡ Some x
  heard-own x c None node streams indexes e = absurd (cc)
  heard-own x c (Some id) node streams indexes e =
      let w = heard-by v id c e in
      let nodes : id.node ≡ x.node = (bytes_decides id.node mid.held.node).0 w.node ∙ sym node in
      let streamed : id.stream ≡ x.stream = sym (copy-stream mid.held.image id.stream c w.among) ∙ streams in
      let indexed : id.index ≡ x.index = sym (eqb-true c.index id.index w.index) ∙ indexes in
      ap Some (λ i. record { node = nodes i; stream = streamed i; index = indexed i })

  has-heard : (x : AskerId) → x.node ≡ mid.held.node → HeardRow v called does x.stream x.index → HasHeard mid called does new x
  has-heard x node r =
      let h = copy-here mid x r.c ok node (heard-copy v (addressee r.packet) r.c r.heard) r.stream_is r.index_is in
      let same = asker-same x r.c node r.stream_is r.index_is in
      record {
        packet = r.packet;
        now = r.now;
        is = r.is;
        own = heard-own x r.c (addressee r.packet) node r.stream_is r.index_is r.heard;
        g = h.g;
        want = r.c.want;
        copy = h.copy;
        d = r.d;
        d_is = r.d_is ∙ (ap (λ (k : Copy). decided_by k.facts.config.copies v k r.now r.packet) h.is ∙ ap (λ k. decided_by k v (copy_of x h.g r.c.want) r.now r.packet) h.copies);
        no_ask = r.no_ask;
        phase =
            ap (λ (st : AskerState). st.phase) (at-is x (Some (with_phase (asker_of v r.c) (phase_by r.d r.packet r.now (asker_of v r.c).phase))) r.stored)
            ∙ ap (λ (st : AskerState). phase_by r.d r.packet r.now st.phase) same;
        records = r.records ∙ ap (λ n. written n (entry_by r.d)) r.stream_is;
      }

  after-by : (x : AskerId) → x.node ≡ mid.held.node → AskerRow v called does x.stream x.index → AskerAfter mid called does new x
  after-by x node (RowSame e) = Stays (at-is x (stored_at mid.held.askers x.stream x.index) e)
  after-by x node (RowIdle e) = Rests (ap (λ (st : AskerState). st.phase) (at-is x (option_map rest_of (stored_at mid.held.askers x.stream x.index)) e) ∙ idle-phase x mid.held.image.boot (stored_at mid.held.askers x.stream x.index))
  after-by x node (RowAsked r) = Asks (has-asked x node r)
  after-by x node (RowHeard r) = Hears (has-heard x node r)

  -- An asker stays as it is, rests, asks, or follows its copy's decision.
  pub asker-after : (x : AskerId) → x.node ≡ mid.held.node → AskerAfter mid called does new x
  asker-after x node = after-by x node (askers-row.each x.stream x.index)

  -- each copy of a stream that was just made asks
  pub made-asks : (x : AskerId) (g : History) (want : Origin) → IsCopy new x g want → live mid.log x.stream ≡ None → HasAsked does new x
  made-asks x g want c none = by (row laws mid new called does ok loaded a).adds.one refl
    where
      seen : IsCopyOf (image_after mid.held.image does.records) (copy_of x g want)
      seen = subst (λ (i : LogImage). IsCopyOf i (copy_of x g want)) image-is (copy-seen new x g want new-ok c)

      here : (o : Option Rec) → (row laws mid new called does ok loaded a).adds.one ≡ o → live (mid.log ++ option_list o) x.stream ≡ Some c.stream
      here o e = ap (λ l. live l x.stream) (sym (a.log ∙ (ap (λ (l : List Rec). mid.log ++ l) (row laws mid new called does ok loaded a).adds.are ∙ ap (λ q. mid.log ++ option_list q) e))) ∙ c.stands

      by : (o : Option Rec) → (row laws mid new called does ok loaded a).adds.one ≡ o → HasAsked does new x
      by None e = absurd (let z : None ≡ Some c.stream = sym none ∙ (ap (λ l. live l x.stream) (sym (append-nil mid.log)) ∙ here None e) in cc)
      by (Some r) e = elim (live-push mid.log r x.stream c.stream (here (Some r) e)) [
        | inl same ↦ absurd (let z : None ≡ Some c.stream = sym none ∙ same in cc)
        | inr more ↦ (elim more [
          | inl adds ↦ absurd (let z : None ≡ Some adds.old = sym none ∙ adds.was in cc)
          | inr makes ↦ has-asked x (c.node ∙ node-is)
              (askers-row.made makes.time makes.config
              ((row laws mid new called does ok loaded a).adds.are ∙ (ap option_list e ∙ ap (λ y. y ∷ []) makes.is_record))
              (copy_of x g want) seen (sym makes.name_is))
        ])
      ]

  -- ---- the askers that a shard has

  stored-by : (s : List ℕ) (i : ℕ) (st : AskerState) → AskerRow v called does s i → stored_at does.askers s i ≡ Some st → (st.id ≡ record { node = mid.held.node; stream = s; index = i }) × (st.boot ≡ mid.held.image.boot)
  stored-by s i st (RowSame e) q = fine.stored s i st (sym e ∙ q)
  stored-by s i st (RowIdle e) q =
      let w = idle-was (stored_at mid.held.askers s i) st (sym e ∙ q) in
      let f = fine.stored s i w.0 w.1 in
      (ap (λ (x : AskerState). x.id) (sym w.2) ∙ f.0, ap (λ (x : AskerState). x.boot) (sym w.2) ∙ f.1)
  stored-by s i st (RowAsked r) q =
      let same : asking (asker_of v r.c) r.now ≡ st = (let z : Some (asking (asker_of v r.c) r.now) ≡ Some st = sym r.stored ∙ q in cc) in (
        ap (λ (x : AskerState). x.id) (sym same) ∙ (asker-id mid.held fine r.c (stored_at mid.held.askers r.c.stream r.c.index) refl ∙ (λ j. record { node = mid.held.node; stream = r.stream_is j; index = r.index_is j })),
        ap (λ (x : AskerState). x.boot) (sym same) ∙ asker-boot mid.held fine (id_of mid.held.node r.c) (stored_at mid.held.askers r.c.stream r.c.index) refl,
      )
  stored-by s i st (RowHeard r) q =
      let own : AskerState = with_phase (asker_of v r.c) (phase_by r.d r.packet r.now (asker_of v r.c).phase) in
      let same : own ≡ st = (let z : Some own ≡ Some st = sym r.stored ∙ q in cc) in (
        ap (λ (x : AskerState). x.id) (sym same) ∙ (asker-id mid.held fine r.c (stored_at mid.held.askers r.c.stream r.c.index) refl ∙ (λ j. record { node = mid.held.node; stream = r.stream_is j; index = r.index_is j })),
        ap (λ (x : AskerState). x.boot) (sym same) ∙ asker-boot mid.held fine (id_of mid.held.node r.c) (stored_at mid.held.askers r.c.stream r.c.index) refl,
      )

  pub askers-ok-after : AskersOk new.held
  askers-ok-after = record {
    stored = λ s i st e.
        let w = stored-by s i st (askers-row.each s i) (ap (λ (h : Held). stored_at h.askers s i) (sym a.becomes) ∙ e) in
        (w.0 ∙ ap (λ n. record { node = n; stream = s; index = i }) (sym node-is), w.1 ∙ sym boot-held);
  }

  -- ---- Asks

  -- an Ask among the packets is that of a copy that has asked
  ask-of-copy : (x : AskerId) (at : Stamp) (o s : List ℕ) (from : Start) (fs : List (List ℕ)) → Contains does.reply.packets (Ask x at o s from fs) → IsAskOf v does (Ask x at o s from fs)
  ask-of-copy x at o s from fs q = askers-row.asks (Ask x at o s from fs) q

  pub own-asks : (x : AskerId) (at : Stamp) (o s : List ℕ) (from : Start) (fs : List (List ℕ)) → Contains does.reply.packets (Ask x at o s from fs) → (x.node ≡ mid.held.node) × ((g : History) × (want : Origin) × IsCopy new x g want)
  own-asks x at o s from fs q =
      let w = ask-of-copy x at o s from fs q in
      let id : x ≡ id_of mid.held.node w.c = (let z = w.is in cc) in
      let node : x.node ≡ mid.held.node = ap (λ (y : AskerId). y.node) id in
      let h = copy-then x w.c node w.copy (sym (ap (λ (y : AskerId). y.stream) id)) (sym (ap (λ (y : AskerId). y.index) id)) in
      (node, (h.g, w.c.want, h.copy))

  -- the attempt of an Ask that is sent now
  attempt-now : (x : AskerId) (at : Stamp) (o s : List ℕ) (from : Start) (fs : List (List ℕ)) → Contains does.reply.packets (Ask x at o s from fs) → (at.boot ≡ boot mid.log) × (at.count ≡ (asker_at mid.held x).attempts + 1) × ((asker_at new.held x).attempts ≡ (asker_at mid.held x).attempts + 1)
  attempt-now x at o s from fs q =
      let w = ask-of-copy x at o s from fs q in
      let id : x ≡ id_of mid.held.node w.c = (let z = w.is in cc) in
      let at_is : at ≡ next_attempt (asker_of v w.c) = (let z = w.is in cc) in
      let same : asker_of v w.c ≡ asker_at mid.held x = asker-same x w.c (ap (λ (y : AskerId). y.node) id) (sym (ap (λ (y : AskerId). y.stream) id)) (sym (ap (λ (y : AskerId). y.index) id)) in
      let stored : stored_at does.askers x.stream x.index ≡ Some (asking (asker_of v w.asked.c) w.asked.now) =
      ap (λ (y : AskerId). stored_at does.askers y.stream y.index) id ∙ w.asked.stored in
      let one : asker_of v w.asked.c ≡ asker_at mid.held x =
      asker-same x w.asked.c (ap (λ (y : AskerId). y.node) id) (w.asked.stream_is ∙ sym (ap (λ (y : AskerId). y.stream) id)) (w.asked.index_is ∙ sym (ap (λ (y : AskerId). y.index) id)) in (
        ap (λ (y : Stamp). y.boot) at_is ∙ (asker-boot mid.held fine (id_of mid.held.node w.c) (stored_at mid.held.askers w.c.stream w.c.index) refl ∙ boot-mid),
        ap (λ (y : Stamp). y.count) at_is ∙ ap (λ (st : AskerState). st.attempts + 1) same,
        ap (λ (st : AskerState). st.attempts) (at-is x (Some (asking (asker_of v w.asked.c) w.asked.now)) stored) ∙ ap (λ (st : AskerState). st.attempts + 1) one,
      )

  -- attempts are never taken back
  attempts-by : (x : AskerId) → x.node ≡ mid.held.node → AskerRow v called does x.stream x.index → (asker_at mid.held x).attempts ≤ (asker_at new.held x).attempts
  attempts-by x node (RowSame e) = let q : (asker_at new.held x).attempts ≡ (asker_at mid.held x).attempts = ap (λ (st : AskerState). st.attempts) (at-is x (stored_at mid.held.askers x.stream x.index) e) in omega arith
  attempts-by x node (RowIdle e) =
      let q : (asker_at new.held x).attempts ≡ (asker_at mid.held x).attempts =
      ap (λ (st : AskerState). st.attempts) (at-is x (option_map rest_of (stored_at mid.held.askers x.stream x.index)) e) ∙ idle-attempts x mid.held.image.boot (stored_at mid.held.askers x.stream x.index) in omega arith
  attempts-by x node (RowAsked r) =
      let q : (asker_at new.held x).attempts ≡ (asker_at mid.held x).attempts + 1 =
      ap (λ (st : AskerState). st.attempts) (at-is x (Some (asking (asker_of v r.c) r.now)) r.stored) ∙ ap (λ (st : AskerState). st.attempts + 1) (asker-same x r.c node r.stream_is r.index_is) in omega arith
  attempts-by x node (RowHeard r) =
      let q : (asker_at new.held x).attempts ≡ (asker_at mid.held x).attempts =
      ap (λ (st : AskerState). st.attempts) (at-is x (Some (with_phase (asker_of v r.c) (phase_by r.d r.packet r.now (asker_of v r.c).phase))) r.stored) ∙ ap (λ (st : AskerState). st.attempts) (asker-same x r.c node r.stream_is r.index_is) in omega arith

  -- an attempt that was given isn't the one that is given now
  given-before : (x : AskerId) (at : Stamp) (o s : List ℕ) (from : Start) (fs : List (List ℕ)) → IsGiven (boot mid.log) (asker_at mid.held x).attempts at → Contains does.reply.packets (Ask x at o s from fs) → ⊥
  given-before x at o s from fs g q =
      let w = attempt-now x at o s from fs q in
      let le : at.count ≤ (asker_at mid.held x).attempts = g.count w.0 in
      let is : at.count ≡ (asker_at mid.held x).attempts + 1 = w.1 in
      omega arith

  both-now : (x : AskerId) (at : Stamp) (o o' s s' : List ℕ) (from from' : Start) (fs fs' : List (List ℕ)) → Contains does.reply.packets (Ask x at o s from fs) → Contains does.reply.packets (Ask x at o' s' from' fs') → Ask x at o s from fs ≡ Ask x at o' s' from' fs'
  both-now x at o o' s s' from from' fs fs' q q' =
      let w = ask-of-copy x at o s from fs q in
      let w' = ask-of-copy x at o' s' from' fs' q' in
      let id : x ≡ id_of mid.held.node w.c = (let z = w.is in cc) in
      let id' : x ≡ id_of mid.held.node w'.c = (let z = w'.is in cc) in
      let ids : id_of mid.held.node w.c ≡ id_of mid.held.node w'.c = sym id ∙ id' in
      let same : w.c ≡ w'.c = copy-one (image_after mid.held.image does.records) w.c w'.c w.copy w'.copy (ap (λ (y : AskerId). y.stream) ids) (ap (λ (y : AskerId). y.index) ids) in
      w.is ∙ (ap (ask_of v) same ∙ sym w'.is)

  -- Each attempt is asked with once, and was given.
  pub asks-after : (Own : AskerId → Type 0) (bag : List Packet) → ((x : AskerId) → Own x → x.node ≡ mid.held.node) →
      ((x : AskerId) (at : Stamp) (o s : List ℕ) (from : Start) (fs : List (List ℕ)) → Contains does.reply.packets (Ask x at o s from fs) → Own x) →
      AsksOk Own (boot mid.log) bag mid.held → AsksOk Own (boot new.log) (bag ++ does.reply.packets) new.held
  asks-after Own bag nodes own asks = record {
    one = λ x at o o' s s' from from' fs fs' q q'. one-by x at o o' s s' from from' fs fs' (Contains-append_cases bag does.reply.packets (Ask x at o s from fs) q) (Contains-append_cases bag does.reply.packets (Ask x at o' s' from' fs') q');
    given = λ x mine at o s from fs q. subst (λ b. IsGiven b (asker_at new.held x).attempts at) (sym boot-log) (given-by x mine at o s from fs (Contains-append_cases bag does.reply.packets (Ask x at o s from fs) q));
  }
    where
      one-by : (x : AskerId) (at : Stamp) (o o' s s' : List ℕ) (from from' : Start) (fs fs' : List (List ℕ)) →
          Contains bag (Ask x at o s from fs) ⊎ Contains does.reply.packets (Ask x at o s from fs) → Contains bag (Ask x at o' s' from' fs') ⊎ Contains does.reply.packets (Ask x at o' s' from' fs') → Ask x at o s from fs ≡ Ask x at o' s' from' fs'
      one-by x at o o' s s' from from' fs fs' (inl q) (inl q') = asks.one x at o o' s s' from from' fs fs' q q'
      one-by x at o o' s s' from from' fs fs' (inl q) (inr q') = absurd (given-before x at o' s' from' fs' (asks.given x (own x at o' s' from' fs' q') at o s from fs q) q')
      one-by x at o o' s s' from from' fs fs' (inr q) (inl q') = absurd (given-before x at o s from fs (asks.given x (own x at o s from fs q) at o' s' from' fs' q') q)
      one-by x at o o' s s' from from' fs fs' (inr q) (inr q') = both-now x at o o' s s' from from' fs fs' q q'

      given-by : (x : AskerId) → Own x → (at : Stamp) (o s : List ℕ) (from : Start) (fs : List (List ℕ)) → Contains bag (Ask x at o s from fs) ⊎ Contains does.reply.packets (Ask x at o s from fs) → IsGiven (boot mid.log) (asker_at new.held x).attempts at
      given-by x mine at o s from fs (inl q) = given-on (boot mid.log) (asker_at mid.held x).attempts (asker_at new.held x).attempts at (attempts-by x (nodes x mine) (askers-row.each x.stream x.index)) (asks.given x mine at o s from fs q)
      given-by x mine at o s from fs (inr q) =
          let w = attempt-now x at o s from fs q in
          let counts : at.count ≡ (asker_at mid.held x).attempts + 1 = w.1 in
          let now : (asker_at new.held x).attempts ≡ (asker_at mid.held x).attempts + 1 = w.2 in
          record { boot = (let e : at.boot ≡ boot mid.log = w.0 in omega arith); count = λ _. omega arith }
