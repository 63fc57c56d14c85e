-- An answer of a shard, seen from the world.
use Rattle.std.proofs.Common.{◌≡◌, ℕ, ◌-◌, ◌≤◌, true, false, List, [], ◌∷◌, ◌++◌, Option, Some, None, refl, sym, ap, ◌∙◌, subst, ◌⊎◌, inl, inr, append-nil, append_assoc, map}
use Rattle.std.specs.Prelude.{Contains, All, Ok}
use Rattle.std.specs.Cmp.Lexicographic.{bytes_decides}
use Rattle.std.proofs.lemmas.Bool.{eqb-true, cases_eq}
use Rattle.nats_text.specs.declared.origin.Origin.{Origin}
use Rattle.js_wire.specs.declared.packet.AskerId.{AskerId}
use Rattle.js_wire.specs.declared.packet.Packet.{Packet}
use Rattle.stream_fold.specs.declared.config.Config.{Config}
use Rattle.stream_fold.specs.declared.config.Copies.{Copies}
use Rattle.stream_fold.specs.declared.config.Copies.TheVariants.{Nothing, Mirror, Sources}
use Rattle.stream_fold.specs.declared.decision.Decision.{Decision}
use Rattle.stream_fold.specs.declared.decision.Decision.TheVariants.{Store, Bind as Binds, Rebind, Skip, Ignore, AskAgain, Reply, Heard as Hears, Refused as IsRefused, Stop}
use Rattle.stream_fold.specs.declared.entry.BoundTo.{BoundTo}
use Rattle.stream_fold.specs.declared.entry.Entry.{Entry}
use Rattle.stream_fold.specs.Checking.{config_fault, is_mirror}
use Rattle.stream_fold.specs.Copying.{bound, origin_named, copy_start, marks, mark, mark_or, last_mark, stored, Stored, PassesBy, IsVia, MirrorHolds, SourceHolds, NumbersFollow}
use Rattle.stream_fold.specs.Facts.{facts}
use Rattle.stream_fold.specs.Fits.{AllFit}
use Rattle.stream_fold.specs.Histories.{History, with_entry}
use Rattle.stream_fold.specs.RowLists.{Rises}
use Rattle.stream_fold.proofs.FactLemmas.{facts-tell}
use Rattle.record_codec.specs.declared.records.Rec.{Rec}
use Rattle.record_codec.specs.declared.records.Rec.TheVariants.{Boot, Create, Remove, Of}
use Rattle.replica_ask.specs.Askers.{AskerState}
use Rattle.replica_ask.specs.declared.phase.Phase.{Phase}
use Rattle.shard_machine.specs.declared.call.ShardCall.{ShardCall}
use Rattle.shard_machine.specs.declared.call.ShardCall.TheVariants as call
use Rattle.shard_machine.specs.Images.{NameFacts, live_in}
use Rattle.shard_machine.specs.Legal.{MayFollow, MayAllFollow, IsLegal}
use Rattle.shard_machine.specs.Logs.{Made, incarnation, made, live, with_change}
use Rattle.shard_machine.specs.Views.{View, Effect, Copy, asker_or_new, asker_of, id_of}
use Rattle.shard_machine.specs.Answers.{Answers, addressee, copy_of_asker, decided_by}
use Rattle.shard_machine.specs.Steps.{view_in}
use Rattle.run_soundness.specs.Shards.{ShardState}
use Rattle.run_soundness.specs.Worlds.{World, shard_of, MayCall}
use Rattle.run_soundness.specs.Soundness.{asker_at, IsCopy, copy_of, PhaseRight, Holds, HoldsNothing, HoldsBy}
use Rattle.run_soundness.proofs.Asked.{copy-here}
use Rattle.run_soundness.proofs.Entries.{bound-passes, stored-passes, put-passes, start-passes, last_mark-passes}
use Rattle.run_soundness.proofs.Following.{entry_by, phase_by, asks_again}
use Rattle.run_soundness.proofs.Hearing.{HearOk, Before, with_maybe, hears as hears-packet}
use Rattle.run_soundness.proofs.Invariant.{HistOk, StreamsOk, IsHere, Inv}
use Rattle.run_soundness.specs.Below.{Laws}
use Rattle.run_soundness.proofs.Logs.{AddsEntry, hist-push, live-is}
use Rattle.run_soundness.proofs.LogsLegal.{LogOk, MadeOk, live-ok, fit-keeps}
use Rattle.run_soundness.proofs.Phases.{some_same, BothFit, PassesCopy}
use Rattle.run_soundness.proofs.Recorded.{IsClient, HeardWrites, RecordsOk, records-ok}
use Rattle.run_soundness.proofs.ShardsAskers.{stored_at}
use Rattle.run_soundness.proofs.ShardsCopies.{heard-by, copy-stream}
use Rattle.run_soundness.proofs.ShardsKept.{ShardOk, before}
use Rattle.run_soundness.proofs.ShardsRows.{live-known}
use Rattle.run_soundness.proofs.Wanting.{mirror-origin}

-- ---- what a copy holds outlasts an entry that it passes over

source-passes : (want : Origin) (h g : History) (i : ℕ) (e : Entry) → BothFit g e → PassesBy i e → NumbersFollow (with_entry g e).entries → SourceHolds want h g i → SourceHolds want h (with_entry g e) i
source-passes want h g i e both p follow q =
    let st : copy_start i (with_entry g e) ≡ copy_start i g = start-passes i g e both.fit both.more p in
    let sd : stored i (g.entries ++ e ∷ []) ≡ stored i g.entries = stored-passes i g.entries e p in
    let mk : marks i (g.entries ++ e ∷ []) ≡ marks i g.entries = ap (map (λ (s : Stored). s.mark)) sd in
    let mr : mark i (with_entry g e) ≡ mark i g = ap (λ (o : Option ℕ). mark_or o (copy_start i (with_entry g e) - 1)) (last_mark-passes i g.entries e p) ∙ ap (λ x. mark_or (last_mark i g.entries) (x - 1)) st in
    record {
      rise = subst (λ (l : List ℕ). Rises (copy_start i (with_entry g e)) l) (sym mk) (subst (λ x. Rises x (marks i g.entries)) (sym st) q.rise);
      follow = follow;
      each = subst (All (IsVia want h)) (sym sd) q.each;
      left_out = λ s m made lo hi f v. (let lo' : copy_start i g ≤ s = subst (λ x. x ≤ s) st lo in let hi' : s ≤ mark i g = subst (λ x. s ≤ x) mr hi in
          elim (q.left_out s m made lo' hi' f v) [ inl has ↦ inl (subst (λ (l : List ℕ). Contains l s) (sym mk) has) | inr hole ↦ inr hole ]);
    }

passing-held : Laws → (c : Copies) (want : Origin) (h g : History) (i : ℕ) (e : Entry) → g.config.copies ≡ c → BothFit g e → PassesCopy c i e → (is_mirror c ≡ false → NumbersFollow (with_entry g e).entries) → Holds c want h g i → Holds c want h (with_entry g e) i
passing-held laws Nothing want h g i e is both p num q = q
passing-held laws (Mirror o) want h g i e is both p num q = subst (λ x. MirrorHolds h (g.entries ++ e ∷ []) x) (sym (start-passes i g e both.fit both.more p.passes)) (laws.mirrors_stay h g.entries (copy_start i g) e (p.mirror o refl).0 q)
passing-held laws (Sources os) want h g i e is both p num q = source-passes want h g i e both p.passes (num refl) q

passing-none : (c : Copies) (g : History) (i : ℕ) (e : Entry) → PassesCopy c i e → HoldsNothing c g i → HoldsNothing c (with_entry g e) i
passing-none Nothing g i e p q = q
passing-none (Mirror o) g i e p q = λ s. put-passes g.entries e s (p.mirror o refl).0 ∙ q s
passing-none (Sources os) g i e p q = stored-passes i g.entries e p.passes ∙ q

passing-by : Laws → (w : World) (n : List ℕ) (g : History) (e : Entry) (i : ℕ) (want : Origin) (b : Option BoundTo) → BothFit g e → PassesCopy g.config.copies i e → (is_mirror g.config.copies ≡ false → NumbersFollow (with_entry g e).entries) → HoldsBy w n g i want b → HoldsBy w n (with_entry g e) i want b
passing-by laws w n g e i want None both p num q = passing-none g.config.copies g i e p q
passing-by laws w n g e i want (Some to) both p num q = record { origin = q.origin; reads = q.reads; right = q.right; holds = passing-held laws g.config.copies want q.origin.history g i e refl both p num q.holds }

passing-holds : Laws → (w : World) (n : List ℕ) (g : History) (e : Entry) (i : ℕ) (want : Origin) → BothFit g e → PassesCopy g.config.copies i e → (is_mirror g.config.copies ≡ false → NumbersFollow (with_entry g e).entries) → HoldsBy w n g i want (bound i g.entries) → HoldsBy w n (with_entry g e) i want (bound i (g.entries ++ e ∷ []))
passing-holds laws w n g e i want both p num q = subst (λ (b : Option BoundTo). HoldsBy w n (with_entry g e) i want b) (sym (bound-passes i g.entries e p.passes)) (passing-by laws w n g e i want (bound i g.entries) both p num q)

pub client-passes : (c : Copies) (e : Entry) (i : ℕ) → IsClient c e → PassesCopy c i e
client-passes c e i k = record { passes = k.passes i; mirror = λ o is. (k.mirror o is, k.passes 0) }

-- a stream that was just made has nothing to hold
fresh-holds : (w : World) (n : List ℕ) (c : Config) (copies : Copies) → c.copies ≡ copies → (i : ℕ) → HoldsNothing copies (record { config = c; entries = [] }) i
fresh-holds w n c Nothing e i = tt
fresh-holds w n c (Mirror o) e i = λ s. refl
fresh-holds w n c (Sources os) e i = refl

-- the last record of a legal log may follow those before it
all-last : (log rs : List Rec) (r : Rec) → MayAllFollow log (rs ++ r ∷ []) → MayFollow (log ++ rs) r
all-last log [] r q = subst (λ (l : List Rec). MayFollow l r) (sym (append-nil log)) q.0
all-last log (x ∷ rs) r q = subst (λ (l : List Rec). MayFollow l r) (append_assoc log (x ∷ []) rs) (all-last (log ++ x ∷ []) rs r q.1)

pub follows-last : (log : List Rec) (r : Rec) → IsLegal (log ++ r ∷ []) → MayFollow log r
follows-last log r q = all-last [] log r q

-- ---- a copy that heard a packet

pub record HeardEntry (s : ShardState) (called : ShardCall) (name : List ℕ) (e : Entry) : Type 0 where
  pub a : AskerId
  pub packet : Packet
  pub now : ℕ
  pub is : called ≡ call.Heard packet now
  pub own : addressee packet ≡ Some a
  pub g : History
  pub want : Origin
  pub copy : IsCopy s a g want
  pub copies : (facts g).config.copies ≡ g.config.copies
  pub found : copy_of_asker (view_in s.held) (addressee packet) ≡ Some (copy_of a g want)
  pub stream : a.stream ≡ name
  pub entry : entry_by (decided_by g.config.copies (view_in s.held) (copy_of a g want) now packet) ≡ Some e

pub heard-entry : (s : ShardState) → ShardOk s → (called : ShardCall) (name : List ℕ) (e : Entry) → HeardWrites (view_in s.held) called name e → HeardEntry s called name e
heard-entry s ok called name e h = at (addressee h.packet) refl h.found
  where
    at : (o : Option AskerId) → addressee h.packet ≡ o → copy_of_asker (view_in s.held) o ≡ Some h.c → HeardEntry s called name e
    at None q f = absurd (cc)
    at (Some a) q f =
        let v : View = view_in s.held in
        let w = heard-by v a h.c f in
        let node : a.node ≡ s.held.node = (bytes_decides a.node s.held.node).0 w.node in
        let streams : h.c.stream ≡ a.stream = copy-stream s.held.image a.stream h.c w.among in
        let x = copy-here s a h.c ok node w.copy streams (eqb-true h.c.index a.index w.index) in
        record {
          a = a;
          packet = h.packet;
          now = h.now;
          is = h.is;
          own = q;
          g = x.g;
          want = h.c.want;
          copy = x.copy;
          copies = x.copies;
          found = h.found ∙ ap Some x.is;
          stream = sym streams ∙ h.stream;
          entry = subst (λ (d : Decision). entry_by d ≡ Some e) (ap (λ (k : Copy). decided_by k.facts.config.copies v k h.now h.packet) x.is ∙ ap (λ k. decided_by k v (copy_of a x.g h.c.want) h.now h.packet) x.copies) h.entry;
        }

pub or-phase : (x y : AskerId) (b : ℕ) (o : Option AskerState) → (asker_or_new x b o).phase ≡ (asker_or_new y b o).phase
or-phase x y b None = refl
or-phase x y b (Some st) = refl

pub entry-again : (d : Decision) (e : Entry) → entry_by d ≡ Some e → asks_again d ≡ false
entry-again (Store x) e q = refl
entry-again (Binds x) e q = refl
entry-again Rebind e q = refl
entry-again Skip e q = refl
entry-again (Ignore why) e q = refl
entry-again (AskAgain why) e q = absurd (cc)
entry-again Reply e q = refl
entry-again Hears e q = refl
entry-again IsRefused e q = refl
entry-again (Stop kept seen) e q = refl

module _ (laws : Laws) (w : World) (n : List ℕ) (k : ℕ) (inv : Inv w) (loaded : (w.shard n k).held.loaded ≡ true) where
  abbrev s : ShardState
  s = w.shard n k

  abbrev v : View
  v = view_in s.held

  ok : ShardOk s
  ok = inv.shards n k

  -- the stream of a copy, and what holds of it
  stream-ok : (a : AskerId) (g : History) (want : Origin) → (c : IsCopy s a g want) → HistOk w n k a.stream c.stream.history
  stream-ok a g want c = inv.logs n k s.log (inl refl) a.stream (incarnation s.log a.stream) c.stream (live-is s.log a.stream c.stream c.stands).1

  pub here-copy : (a : AskerId) (g : History) (want : Origin) → IsCopy s a g want → IsHere n k a
  here-copy a g want c = (c.node ∙ inv.nodes n k, (stream-ok a g want c).place)

  pub old-phase : (a : AskerId) (g : History) (want : Origin) → IsCopy s a g want → PhaseRight w a g want (asker_at s.held a).phase
  old-phase a g want c = (inv.askers n k).phase a (here-copy a g want c) g want c

  before-of : (a : AskerId) (g : History) (want : Origin) → IsCopy s a g want → Before w a g want (asker_of v (copy_of a g want)).phase
  before-of a g want c =
      let m : MadeOk a.stream c.stream = live-ok s.log a.stream c.stream ok.logs c.stands in
      record {
        bag = inv.bag;
        ok = inv.shards;
        origin = c.origin;
        faultless = subst (λ (h : History). config_fault h.config ≡ None) c.history m.faultless;
        fit = subst AllFit c.history m.fit;
        follow = subst (λ (h : History). is_mirror h.config.copies ≡ false → NumbersFollow h.entries) c.history m.follow;
        holds = subst (λ x. HoldsBy w x g a.index want (bound a.index g.entries)) (sym (c.node ∙ inv.nodes n k))
            (subst (λ (h : History). HoldsBy w n h a.index want (bound a.index h.entries)) c.history ((stream-ok a g want c).holds a.index want (subst (λ (h : History). origin_named a.index h.config.copies ≡ Some want) (sym c.history) c.origin)));
        phase = subst (λ (p : Phase). PhaseRight w a g want p) (or-phase a (id_of s.held.node (copy_of a g want)) s.held.image.boot (stored_at s.held.askers a.stream a.index)) (old-phase a g want c);
      }

  -- ---- the streams that an answer leaves

  -- what a copy that heard a packet leaves of its stream and its asker
  pub heard-ok : (called : ShardCall) → MayCall w.bag called n k → (a : AskerId) (packet : Packet) (now : ℕ) → called ≡ call.Heard packet now → addressee packet ≡ Some a → (g : History) (want : Origin) → IsCopy s a g want →
      asks_again (decided_by g.config.copies v (copy_of a g want) now packet) ≡ false → ((e : Entry) → entry_by (decided_by g.config.copies v (copy_of a g want) now packet) ≡ Some e → AllFit (with_entry g e)) →
      HearOk w a g want (entry_by (decided_by g.config.copies v (copy_of a g want) now packet)) (phase_by (decided_by g.config.copies v (copy_of a g want) now packet) packet now (asker_of v (copy_of a g want)).phase)
  heard-ok called may a packet now is own g want c no_ask fits =
      let there : MayCall w.bag (call.Heard packet now) n k = subst (λ (x : ShardCall). MayCall w.bag x n k) is may in
      hears-packet laws w v a g want packet now (before-of a g want c) there.0 own fits no_ask

  module _ (called : ShardCall) (may : MayCall w.bag called n k) where
    -- an entry of a client
    client-hist : (name : List ℕ) (i : ℕ) (old : Made) (e : Entry) → made s.log name i ≡ Some old → MadeOk name (with_change e old) → IsClient old.history.config.copies e → HistOk w n k name (with_entry old.history e)
    client-hist name i old e was more client =
        let h = inv.logs n k s.log (inl refl) name i old was in
        let both : BothFit old.history e = record { fit = (ok.logs.each name i old was).fit; more = more.fit } in
        record { place = h.place; holds = λ j want o. passing-holds laws w n old.history e j want both (client-passes old.history.config.copies e j client) more.follow (h.holds j want o) }

    -- the entry of a copy that heard a packet
    heard-hist : (name : List ℕ) (i : ℕ) (old : Made) (e : Entry) → made s.log name i ≡ Some old → live s.log name ≡ Some old → MadeOk name (with_change e old) → HeardEntry s called name e → HistOk w n k name (with_entry old.history e)
    heard-hist name i old e was stands more he =
        let h = inv.logs n k s.log (inl refl) name i old was in
        let same : he.copy.stream ≡ old = some_same (live s.log name) he.copy.stream old (subst (λ x. live s.log x ≡ Some he.copy.stream) he.stream he.copy.stands) stands in
        let g_is : he.g ≡ old.history = sym he.copy.history ∙ ap (λ (m : Made). m.history) same in
        let c : IsCopy s he.a old.history he.want = subst (λ (x : History). IsCopy s he.a x he.want) g_is he.copy in
        let d : Decision = decided_by old.history.config.copies v (copy_of he.a old.history he.want) he.now he.packet in
        let en : entry_by d ≡ Some e = subst (λ (x : History). entry_by (decided_by x.config.copies v (copy_of he.a x he.want) he.now he.packet) ≡ Some e) g_is he.entry in
        let hd : HearOk w he.a old.history he.want (entry_by d) (phase_by d he.packet he.now (asker_of v (copy_of he.a old.history he.want)).phase) =
        heard-ok called may he.a he.packet he.now he.is he.own old.history he.want c (entry-again d e en) (λ x q. (let z : e ≡ x = (let y : Some e ≡ Some x = sym en ∙ q in cc) in subst (λ (y : Entry). AllFit (with_entry old.history y)) z more.fit)) in
        let own : HoldsBy w he.a.node (with_entry old.history e) he.a.index he.want (bound he.a.index (old.history.entries ++ e ∷ [])) =
        subst (λ (x : Option Entry). HoldsBy w he.a.node (with_maybe old.history x) he.a.index he.want (bound he.a.index (with_maybe old.history x).entries)) en hd.own in
        let both : BothFit old.history e = record { fit = (ok.logs.each name i old was).fit; more = more.fit } in
        record {
          place = h.place;
          holds = λ j want o. elim (cases_eq j he.a.index) [
            | inl e' ↦ (let wants : he.want ≡ want = some_same (origin_named j old.history.config.copies) he.want want (subst (λ x. origin_named x old.history.config.copies ≡ Some he.want) (sym e') c.origin) o in
                subst (λ x. HoldsBy w n (with_entry old.history e) x want (bound x (old.history.entries ++ e ∷ []))) (sym e')
                (subst (λ (x : Origin). HoldsBy w n (with_entry old.history e) he.a.index x (bound he.a.index (old.history.entries ++ e ∷ []))) wants
                (subst (λ x. HoldsBy w x (with_entry old.history e) he.a.index he.want (bound he.a.index (old.history.entries ++ e ∷ []))) (c.node ∙ inv.nodes n k) own)))
            | inr ne ↦ passing-holds laws w n old.history e j want both
                (record { passes = hd.others e en j ne; mirror = λ x is. absurd (ne ((mirror-origin x want j (subst (λ (y : Copies). origin_named j y ≡ Some want) is o)).1 ∙ sym (mirror-origin x he.want he.a.index (subst (λ (y : Copies). origin_named he.a.index y ≡ Some he.want) is c.origin)).1)) })
                more.follow (h.holds j want o)
          ];
        }

    -- the stream that stands, by what is held of it
    pub known-copies : (name : List ℕ) (known : NameFacts) (old : Made) → live_in v.image name ≡ Some known → live s.log name ≡ Some old → known.stream.config.copies ≡ old.history.config.copies
    known-copies name known old here stands =
        let q = live-known s.log v (before s ok loaded) name known here in
        let same : q.0 ≡ old = some_same (live s.log name) q.0 old q.1 stands in
        ap (λ (x : NameFacts). x.stream.config.copies) (sym q.2) ∙ (ap (λ (c : Config). c.copies) (facts-tell q.0.history).limits
        ∙ ((fit-keeps q.0.history (live-ok s.log name q.0 ok.logs q.1).fit).copies ∙ ap (λ (m : Made). m.history.config.copies) same))

    -- the history to which an entry goes is the one that stands
    stands-here : (name : List ℕ) (e : Entry) (name' : List ℕ) (i : ℕ) (new : Made) → (x : AddsEntry s.log (Of name e) name' i new) → (name ≡ name') × (e ≡ x.entry)
    stands-here name e name' i new x = let z : Of name e ≡ Of name' x.entry = x.is_record in ((cc), (cc))

    entry-streams : (name : List ℕ) (e : Entry) → LogOk (s.log ++ Of name e ∷ []) → ((m : Made) → live s.log name ≡ Some m → IsClient m.history.config.copies e ⊎ HeardEntry s called name e) → ((i : ℕ) (m : Made) → i ≡ incarnation s.log name → made s.log name i ≡ Some m → live s.log name ≡ Some m) → StreamsOk w n k (s.log ++ Of name e ∷ [])
    entry-streams name e next way stands name' i m q = elim (hist-push s.log (Of name e) name' i m q) [
      | inl same ↦ inv.logs n k s.log (inl refl) name' i m same
      | inr other ↦ (elim other [
        | inl x ↦ (let z = stands-here name e name' i m x in
            let was : made s.log name i ≡ Some x.old = subst (λ y. made s.log y i ≡ Some x.old) (sym z.0) x.was in
            let lv : live s.log name ≡ Some x.old = stands i x.old (x.latest ∙ ap (incarnation s.log) (sym z.0)) was in
            let new_is : m ≡ with_change e x.old = x.becomes ∙ ap (λ (y : Entry). with_change y x.old) (sym z.1) in
            let mk : MadeOk name (with_change e x.old) = subst (MadeOk name) new_is (subst (λ y. MadeOk y m) (sym z.0) (next.each name' i m q)) in
            subst (λ y. HistOk w n k y m.history) z.0 (subst (λ (y : Made). HistOk w n k name y.history) (sym new_is) (elim (way x.old lv) [
              | inl client ↦ client-hist name i x.old e was mk client
              | inr he ↦ heard-hist name i x.old e was lv mk he
            ])))
        | inr x ↦ absurd (let z : Of name e ≡ Create x.time x.config = x.is_record in cc)
      ])
    ]

    -- the records of an answer leave each stream as it should be
    streams-by : (does : Effect) → (rs : List Rec) → does.records ≡ rs → RecordsOk v called rs → LogOk (s.log ++ rs) → StreamsOk w n k (s.log ++ rs)
    streams-by does [] e r next = subst (StreamsOk w n k) (sym (append-nil s.log)) (inv.logs n k s.log (inl refl))
    streams-by does (Boot b ∷ rs) e r next = absurd r
    streams-by does (Create t c ∷ rs) e r next =
        subst (λ (l : List Rec). StreamsOk w n k (s.log ++ Create t c ∷ l)) (sym r.0) (λ name i m q. elim (hist-push s.log (Create t c) name i m q) [
          | inl same ↦ inv.logs n k s.log (inl refl) name i m same
          | inr other ↦ (elim other [
            | inl x ↦ absurd (let z : Create t c ≡ Of name x.entry = x.is_record in cc)
            | inr x ↦ (let same : c ≡ x.config = (let z : Create t c ≡ Create x.time x.config = x.is_record in cc) in
                let place : k ≡ shard_of c.name = subst (λ (y : ShardCall). MayCall w.bag y n k) r.1.1 may in
                subst (λ (y : Made). HistOk w n k name y.history) (sym x.becomes) (record {
                  place = place ∙ ap shard_of (ap (λ (y : Config). y.name) same ∙ x.name_is);
                  holds = λ j want o. fresh-holds w n x.config x.config.copies refl j;
                }))
          ])
        ])
    streams-by does (Remove name ∷ rs) e r next =
        subst (λ (l : List Rec). StreamsOk w n k (s.log ++ Remove name ∷ l)) (sym r) (λ name' i m q. elim (hist-push s.log (Remove name) name' i m q) [
          | inl same ↦ inv.logs n k s.log (inl refl) name' i m same
          | inr other ↦ (elim other [ inl x ↦ absurd (let z : Remove name ≡ Of name' x.entry = x.is_record in cc) | inr x ↦ absurd (let z : Remove name ≡ Create x.time x.config = x.is_record in cc) ])
        ])
    streams-by does (Of name e ∷ rs) q r next =
        subst (λ (l : List Rec). StreamsOk w n k (s.log ++ Of name e ∷ l)) (sym r.0)
        (entry-streams name e (subst (λ (l : List Rec). LogOk (s.log ++ Of name e ∷ l)) r.0 next)
        (λ m lv. elim r.1 [
          | inl cl ↦ inl (subst (λ (c : Copies). IsClient c e) (known-copies name cl.known m cl.here lv) cl.client)
          | inr hw ↦ inr (heard-entry s ok called name e hw)
        ])
        (λ i m at was. stood name e (subst (λ (l : List Rec). LogOk (s.log ++ Of name e ∷ l)) r.0 next) i m at was))
      where
        stood : (name : List ℕ) (e : Entry) → LogOk (s.log ++ Of name e ∷ []) → (i : ℕ) (m : Made) → i ≡ incarnation s.log name → made s.log name i ≡ Some m → live s.log name ≡ Some m
        stood name e next i m at was =
            let f = follows-last s.log (Of name e) next.legal in
            let lv = live-is s.log name f.1 f.2 in
            f.2 ∙ ap Some (some_same (made s.log name i) f.1 m (subst (λ x. made s.log name x ≡ Some f.1) (sym at) lv.1) was)

    pub next-streams : (does : Effect) → Answers v called (Ok does) → LogOk (s.log ++ does.records) → StreamsOk w n k (s.log ++ does.records)
    next-streams does a next = streams-by does does.records refl (records-ok v called does a) next
