-- Each event keeps the invariant, and so does each run: every run is sound.
use Rattle.std.proofs.Common.{◌≡◌, ℕ, zero, suc, ◌<◌, Bool, true, false, List, [], ◌∷◌, ◌++◌, Some, None, refl, sym, ap, ◌∙◌, subst, inl, inr, append-nil}
use Rattle.std.specs.Prelude.{Contains}
use Rattle.std.proofs.lemmas.List.Elements.{Contains-append_left, Contains-append_right}
use Rattle.js_wire.specs.declared.packet.Packet.{Packet}
use Rattle.js_wire.specs.declared.packet.Packet.TheVariants.{Ask}
use Rattle.record_codec.specs.declared.records.Rec.{Rec}
use Rattle.replica_ask.specs.Askers.{AskerState}
use Rattle.shard_machine.specs.declared.call.ShardCall.{ShardCall}
use Rattle.shard_machine.specs.declared.reply.ShardReply.{ShardReply}
use Rattle.shard_machine.specs.declared.reply.ShardRefusal.TheVariants as refusal
use Rattle.shard_machine.specs.Logs.{Made, boot, made, live, named_after}
use Rattle.shard_machine.specs.Steps.{Held, refused, refused_packets}
use Rattle.run_soundness.specs.Shards.{Consumer, ShardState, IsGiven, IsNewShard}
use Rattle.run_soundness.specs.Worlds.{World, shard_of, MayCall, OnlyShard, OnlyNode, Calls, Crashes, Begins, Links, Event, Happens, Run, IsEmpty}
use Rattle.run_soundness.specs.Worlds.Event.{Call, Cut, Join, Crash, CrashWithin, Begin}
use Rattle.run_soundness.specs.Soundness.{asker_at, Sound}
use Rattle.run_soundness.proofs.Answering.{row-answers}
use Rattle.run_soundness.proofs.Invariant.{OneAsk, Future, StreamsOk, Inv, RowIn, Inv-step, row-same, Inv-one, with_shard, with-here, with-else, with-bag, with-nodes}
use Rattle.run_soundness.specs.Below.{Laws}
use Rattle.run_soundness.proofs.Lists.{Contains-none, Contains-head}
use Rattle.run_soundness.proofs.LogsLegal.{LogOk, LogOk-push}
use Rattle.run_soundness.proofs.Quiet.{AreQuiet, quiet-nil, quiet-refused, QuietOk, row-quiet, quiet-same, quiet-loads, quiet-rests, quiet-fails, ready-quiet, rest-phase, rest-attempts, idle-right, new-asker}
use Rattle.run_soundness.proofs.Rows.{next-streams}
use Rattle.run_soundness.proofs.ShardsGrow.{Later-refl, grows-faults}
use Rattle.run_soundness.proofs.ShardsKept.{ShardOk, AnswersOn}
use Rattle.run_soundness.proofs.ShardsSteps.{ReadyOn, FaultsOn, Answered, Came, ShardOk-ready, ShardOk-faults, ShardOk-empty, doubtful-may, moves-came}
use Rattle.run_soundness.proofs.ShardsSteps.Came.{Fine, Down, Fault}

-- ---- a disk that failed while a record was appended

quiet-faults : Laws → (w : World) (n : List ℕ) (k : ℕ) (c : ShardCall) (t : ShardState) → Inv w → (w.shard n k).held.loaded ≡ true → MayCall w.bag c n k → FaultsOn (w.shard n k) c t → QuietOk w n k t
quiet-faults laws w n k c t inv loaded may f =
    let s : ShardState = w.shard n k in
    let ok : ShardOk s = inv.shards n k in
    let askers = ap (λ (h : Held). h.askers) f.becomes in
    let next : LogOk (s.log ++ f.does.records) = subst (λ (l : List Rec). LogOk (s.log ++ l)) (sym f.is) (LogOk-push s.log f.doubtful ok.logs (doubtful-may laws s c t ok loaded f)) in
    let streams : StreamsOk w n k (s.log ++ f.doubtful ∷ []) = subst (λ (l : List Rec). StreamsOk w n k (s.log ++ l)) f.is (next-streams laws w n k inv loaded c may f.does f.answers next) in
    record {
      node = ap (λ (h : Held). h.node) f.becomes ∙ inv.nodes n k;
      ok = ShardOk-faults laws s c t ok loaded f;
      grows = grows-faults laws s c t ok loaded f;
      ever = f.ever;
      logs = λ log q. elim q [
        | inl e ↦ inv.logs n k log (inl (e ∙ f.log))
        | inr x ↦ (let r : f.doubtful ≡ x.0 = (let z : Some f.doubtful ≡ Some x.0 = sym (ap (λ (h : Held). h.doubt) f.becomes) ∙ x.1 in cc) in
            subst (StreamsOk w n k) (sym (x.2 ∙ (ap (λ (l : List Rec). l ++ x.0 ∷ []) f.log ∙ ap (λ (y : Rec). s.log ++ y ∷ []) (sym r)))) streams)
      ];
      given = λ a at here g. subst (λ (l : List Rec). IsGiven (boot l) (asker_at t.held a).attempts at) (sym f.log) (subst (λ x. IsGiven (boot s.log) x at) (sym (rest-attempts s.held t.held a askers)) g);
      phases = λ a here g want x. idle-right w a g want (asker_at t.held a).phase (rest-phase s.held t.held a askers);
      rests = λ x a here. rest-phase s.held t.held a askers;
      stored = λ x. absurd (let z : false ≡ true = sym (ap (λ (h : Held). h.loaded) f.becomes) ∙ x in cc);
    }

-- ---- a call

-- one shard moves on quietly
one-quiet : Laws → (w v : World) (n : List ℕ) (k : ℕ) (packets : List Packet) → Inv w → AreQuiet packets → QuietOk w n k (v.shard n k) → OnlyShard w.shard n k v.shard → v.bag ≡ w.bag ++ packets → v.nodes ≡ w.nodes → Contains w.nodes n → Inv v
one-quiet laws w v n k packets inv f q o bag nodes there = Inv-one laws w v n k packets inv (record { row = row-quiet w n k (v.shard n k) packets inv f q; others = o; bag = bag; nodes = nodes; there = there })

only-with : (w : World) (n : List ℕ) (k : ℕ) (s : ShardState) (shard : List ℕ → ℕ → ShardState) → OnlyShard w.shard n k shard → OnlyShard (with_shard w n k s).shard n k shard
only-with w n k s shard o m j = elim (o m j) [
  | inl here ↦ inl here
  | inr same ↦ (elim (with-else w n k s m j) [ inl here ↦ inl here | inr e ↦ inr (same ∙ sym e) ])
]

-- the world in which the shard is ready
ready-world : Laws → (w : World) (n : List ℕ) (k : ℕ) (mid : ShardState) → Inv w → Contains w.nodes n → ReadyOn (w.shard n k) mid → Inv (with_shard w n k mid)
ready-world laws w n k mid inv there r =
    one-quiet laws w (with_shard w n k mid) n k [] inv quiet-nil
    (subst (λ (s : ShardState). QuietOk w n k s) (sym (with-here w n k mid)) (ready-quiet laws w n k mid inv r))
    (with-else w n k mid) (with-bag w n k mid ∙ sym (append-nil w.bag)) (with-nodes w n k mid) there

inv-answers : Laws → (w v : World) (n : List ℕ) (k : ℕ) (c : ShardCall) (reply : ShardReply) → Inv w → MayCall w.bag c n k → OnlyShard w.shard n k v.shard → v.bag ≡ w.bag ++ reply.packets → v.nodes ≡ w.nodes → Contains w.nodes n → Answered (w.shard n k) c reply (v.shard n k) → Inv v
inv-answers laws w v n k c reply inv may o bag nodes there x =
    let mid : ShardState = x.mid in
    let u : World = with_shard w n k mid in
    let iu : Inv u = ready-world laws w n k mid inv there x.ready in
    let at : u.shard n k ≡ mid = with-here w n k mid in
    let loaded : (u.shard n k).held.loaded ≡ true = subst (λ (s : ShardState). s.held.loaded ≡ true) (sym at) (ShardOk-ready laws (w.shard n k) mid (inv.shards n k) x.ready).1 in
    let may' : MayCall u.bag c n k = subst (λ (l : List Packet). MayCall l c n k) (sym (with-bag w n k mid)) may in
    let ans : AnswersOn (u.shard n k) c x.does (v.shard n k) = subst (λ (s : ShardState). AnswersOn s c x.does (v.shard n k)) (sym at) x.answers in
    Inv-one laws u v n k x.does.reply.packets iu (record {
      row = row-answers laws u n k iu loaded c may' x.does (v.shard n k) ans;
      others = only-with w n k mid v.shard o;
      bag = bag ∙ (ap (λ (l : List Packet). l ++ reply.packets) (sym (with-bag w n k mid)) ∙ ap (λ (r : ShardReply). u.bag ++ r.packets) x.replies);
      nodes = nodes ∙ sym (with-nodes w n k mid);
      there = subst (λ (l : List (List ℕ)). Contains l n) (sym (with-nodes w n k mid)) there;
    })

inv-faults : Laws → (w v : World) (n : List ℕ) (k : ℕ) (c : ShardCall) (packets : List Packet) → Inv w → AreQuiet packets → MayCall w.bag c n k → OnlyShard w.shard n k v.shard → v.bag ≡ w.bag ++ packets → v.nodes ≡ w.nodes → Contains w.nodes n →
    (mid : ShardState) → ReadyOn (w.shard n k) mid → FaultsOn mid c (v.shard n k) → Inv v
inv-faults laws w v n k c packets inv f may o bag nodes there mid r fault =
    let u : World = with_shard w n k mid in
    let iu : Inv u = ready-world laws w n k mid inv there r in
    let at : u.shard n k ≡ mid = with-here w n k mid in
    let loaded : (u.shard n k).held.loaded ≡ true = subst (λ (s : ShardState). s.held.loaded ≡ true) (sym at) (ShardOk-ready laws (w.shard n k) mid (inv.shards n k) r).1 in
    let may' : MayCall u.bag c n k = subst (λ (l : List Packet). MayCall l c n k) (sym (with-bag w n k mid)) may in
    one-quiet laws u v n k packets iu f
    (quiet-faults laws u n k c (v.shard n k) iu loaded may' (subst (λ (s : ShardState). FaultsOn s c (v.shard n k)) (sym at) fault))
    (only-with w n k mid v.shard o) (bag ∙ ap (λ (l : List Packet). l ++ packets) (sym (with-bag w n k mid))) (nodes ∙ sym (with-nodes w n k mid))
    (subst (λ (l : List (List ℕ)). Contains l n) (sym (with-nodes w n k mid)) there)

inv-came : Laws → (w v : World) (n : List ℕ) (k : ℕ) (c : ShardCall) (reply : ShardReply) → Inv w → MayCall w.bag c n k → OnlyShard w.shard n k v.shard → v.bag ≡ w.bag ++ reply.packets → v.nodes ≡ w.nodes → Contains w.nodes n → Came (w.shard n k) c reply (v.shard n k) → Inv v
inv-came laws w v n k c reply inv may o bag nodes there (Fine x) = inv-answers laws w v n k c reply inv may o bag nodes there x
inv-came laws w v n k c reply inv may o bag nodes there (Down why x) =
    one-quiet laws w v n k (refused_packets c why) inv (quiet-refused c why)
    (elim x.state [ inl same ↦ quiet-same laws w n k (v.shard n k) inv same | inr r ↦ ready-quiet laws w n k (v.shard n k) inv r ])
    o (bag ∙ ap (λ (l : List Packet). w.bag ++ l) x.packets) nodes there
inv-came laws w v n k c reply inv may o bag nodes there (Fault x) =
    let bag' = bag ∙ ap (λ (l : List Packet). w.bag ++ l) x.packets in
    elim x.state [
      | inl f ↦ inv-faults laws w v n k c (refused_packets c refusal.DiskFault) inv (quiet-refused c refusal.DiskFault) may o bag' nodes there f.0 f.1 f.2
      | inr f ↦ one-quiet laws w v n k (refused_packets c refusal.DiskFault) inv (quiet-refused c refusal.DiskFault) (quiet-fails laws w n k (v.shard n k) inv f) o bag' nodes there
    ]

inv-calls : Laws → (w v : World) (n : List ℕ) (k : ℕ) (c : ShardCall) (reply : ShardReply) → Inv w → Calls w n k c reply v → Inv v
inv-calls laws w v n k c reply inv x = inv-came laws w v n k c reply inv x.may x.others x.bag x.nodes x.there (moves-came (w.shard n k) c reply (v.shard n k) x.moves (inv.shards n k))

-- ---- all shards of a node

quiet-in : (w v : World) (n : List ℕ) (k : ℕ) → Inv w → v.bag ≡ w.bag → QuietOk w n k (v.shard n k) → RowIn w v n k
quiet-in w v n k inv bag q = record {
  node = q.node;
  ok = q.ok;
  grows = q.grows;
  made = λ d x. inl (d, subst (λ (l : List Consumer). Contains l d) q.ever x, Later-refl d);
  logs = q.logs;
  given = λ a here at o s from fs x. q.given a at here ((inv.askers n k).given a here at o s from fs (subst (λ (l : List Packet). Contains l (Ask a at o s from fs)) bag x));
  phases = λ a here g want c. inl (q.phases a here g want c);
  rests = q.rests;
  stored = q.stored;
}

-- shards of one node move on quietly, the others stay
inv-node : Laws → (w v : World) (n : List ℕ) → Inv w → OnlyNode w.shard n v.shard → v.bag ≡ w.bag → ((k : ℕ) → k < 8 → QuietOk w n k (v.shard n k)) → ((m : List ℕ) → (Contains v.nodes m → ⊥) → (j : ℕ) → IsNewShard m (v.shard m j)) → Inv v
inv-node laws w v n inv o bag q empties = Inv-step laws w v [] inv (record {
  rows = λ m j. elim (o m j) [
    | inl here ↦ subst (λ y. RowIn w v y j) (sym here.0) (quiet-in w v n j inv bag (q j here.1))
    | inr same ↦ row-same laws w v m j inv same (λ a at-here at og s from fs x. (inv.askers m j).given a at-here at og s from fs (subst (λ (l : List Packet). Contains l (Ask a at og s from fs)) bag x))
  ];
  bag = bag ∙ sym (append-nil w.bag);
  one = subst OneAsk (sym bag) inv.bag.one_ask;
  says = λ p x. absurd (Contains-none p x);
  empties = empties;
})

inv-crash : Laws → (w v : World) (n : List ℕ) → Inv w → Crashes w n v → Inv v
inv-crash laws w v n inv c = inv-node laws w v n inv c.others c.bag
    (λ k lt. elim (c.shards k lt) [ inl l ↦ quiet-loads laws w n k (v.shard n k) inv l | inr r ↦ quiet-rests laws w n k (v.shard n k) inv r ])
    (λ m none j. (let none' : Contains w.nodes m → ⊥ = λ q. none (subst (λ (l : List (List ℕ)). Contains l m) (sym c.nodes) q) in
    elim (c.others m j) [
      | inl here ↦ absurd (none' (subst (Contains w.nodes) (sym here.0) c.there))
      | inr same ↦ subst (IsNewShard m) (sym same) (inv.empties m none' j)
    ]))

inv-begin : Laws → (w v : World) (n : List ℕ) → Inv w → Begins w n v → Inv v
inv-begin laws w v n inv c = inv-node laws w v n inv c.others c.bag (λ k lt. quiet-loads laws w n k (v.shard n k) inv (c.shards k lt))
    (λ m none j. elim (c.others m j) [
      | inl here ↦ absurd (none (subst (λ (l : List (List ℕ)). Contains l m) (sym c.nodes) (Contains-append_right w.nodes (n ∷ []) m (subst (Contains (n ∷ [])) (sym here.0) (Contains-head n [])))))
      | inr same ↦ subst (IsNewShard m) (sym same) (inv.empties m (λ q. none (subst (λ (l : List (List ℕ)). Contains l m) (sym c.nodes) (Contains-append_left w.nodes (n ∷ []) m q))) j)
    ])

inv-links : Laws → (w v : World) (n : List ℕ) (there : Bool) → Inv w → Links w n there v → Inv v
inv-links laws w v n there inv l = inv-node laws w v n inv (λ m j. inr (l.shards m j)) l.bag (λ k lt. quiet-same laws w n k (v.shard n k) inv (l.shards n k))
    (λ m none j. subst (IsNewShard m) (sym (l.shards m j)) (inv.empties m (λ q. none (subst (λ (y : List (List ℕ)). Contains y m) (sym l.nodes) q)) j))

-- ---- events and runs

pub Inv-event : Laws → (w : World) (e : Event) (v : World) → Inv w → Happens w e v → Inv v
Inv-event laws w (Call n k c reply) v inv h = inv-calls laws w v n k c reply inv h
Inv-event laws w (Cut n) v inv h = inv-links laws w v n false inv h
Inv-event laws w (Join n) v inv h = inv-links laws w v n true inv h
Inv-event laws w (Crash n) v inv h = inv-crash laws w v n inv h
Inv-event laws w (CrashWithin n k c) v inv h = inv-calls laws w v n k c (refused c refusal.DiskFault h.doubted) inv h.calls
Inv-event laws w (Begin n) v inv h = inv-begin laws w v n inv h

pub Inv-run : Laws → (w : World) (events : List Event) (v : World) → Inv w → Run w events v → Inv v
Inv-run laws w [] v inv r = subst Inv (sym r) inv
Inv-run laws w (e ∷ events) v inv r = Inv-run laws r.0 events v (Inv-event laws w e r.0 inv r.1) r.2

-- ---- the first world, and what the invariant says

none-made : (name : List ℕ) (i : ℕ) (m : Made) → made [] name i ≡ Some m → ⊥
unfolding named_after
none-made name zero m e = cc
none-made name (suc i) m e = cc

none-live : (name : List ℕ) (m : Made) → live [] name ≡ Some m → ⊥
unfolding named_after
none-live name m e = cc

pub Inv-empty : (w : World) → IsEmpty w → Inv w
Inv-empty w e = record {
  nodes = λ n k. ap (λ (h : Held). h.node) (e.shards n k).held;
  empties = λ n none k. e.shards n k;
  shards = λ n k. ShardOk-empty n (w.shard n k) (e.shards n k);
  bag = record {
    one_ask = λ a at o o' s s' from from' fs fs' q. absurd (nothing (Ask a at o s from fs) q);
    asked = λ n k c q. absurd (Contains-none c (subst (λ (l : List Consumer). Contains l c) (e.shards n k).ever q));
    says = λ p q. absurd (nothing p q);
  };
  logs = λ n k log f name i m q. absurd (none-made name i m (subst (λ (l : List Rec). made l name i ≡ Some m) (future (w.shard n k) log (e.shards n k).log (ap (λ (h : Held). h.doubt) (e.shards n k).held) f) q));
  askers = λ n k. record {
    phase = λ a here g want c. absurd (none-live a.stream c.stream (subst (λ (l : List Rec). live l a.stream ≡ Some c.stream) (e.shards n k).log c.stands));
    given = λ a here at o s from fs q. absurd (nothing (Ask a at o s from fs) q);
    rests = λ l a here. ap (λ (x : AskerState). x.phase) (new-asker (w.shard n k).held a (ap (λ (h : Held). h.askers) (e.shards n k).held));
    stored = λ l. absurd (let z : false ≡ true = sym (ap (λ (h : Held). h.loaded) (e.shards n k).held) ∙ l in cc);
  };
}
  where
    nothing : (p : Packet) → Contains w.bag p → ⊥
    nothing p q = Contains-none p (subst (λ (l : List Packet). Contains l p) e.bag q)

    future : (s : ShardState) (log : List Rec) → s.log ≡ [] → s.held.doubt ≡ None → Future s log → log ≡ []
    future s log l d (inl f) = f ∙ l
    future s log l d (inr f) = absurd (let z : None ≡ Some f.0 = sym d ∙ f.1 in cc)

-- The invariant says all that a sound world is.
pub Inv-sound : (w : World) → Inv w → Sound w
Inv-sound w inv = record {
  names = record {
    apart = λ n k. (inv.shards n k).once;
    consumers = λ n k. (inv.shards n k).names;
    attempts = λ a at o s from fs q. (inv.askers a.node (shard_of a.stream)).given a (refl, refl) at o s from fs q;
  };
  chains = record { each = λ n k. (inv.shards n k).chains };
  bag = inv.bag;
  askers = record { each = λ a g want c. (inv.askers a.node (shard_of a.stream)).phase a (refl, refl) g want c };
  copies = record {
    each = λ n k. record {
      copies = λ name i m j want e o. (inv.logs n k (w.shard n k).log (inl refl) name i m e).holds j want o;
      numbers = λ name i m e. ((inv.shards n k).logs.each name i m e).follow;
    };
  };
  doubts = record {
    follows = λ n k r d. ((inv.shards n k).doubt r d).follows;
    each = λ n k r d. record {
      copies = λ name i m j want e o. (inv.logs n k ((w.shard n k).log ++ r ∷ []) (inr (r, d, refl)) name i m e).holds j want o;
      numbers = λ name i m e. ((LogOk-push (w.shard n k).log r (inv.shards n k).logs ((inv.shards n k).doubt r d)).each name i m e).follow;
    };
  };
}

-- Every run from a world with nothing in it is sound.
pub runs-sound : Laws → (first : World) (events : List Event) (w : World) → IsEmpty first → Run first events w → Sound w
runs-sound laws first events w e r = Inv-sound w (Inv-run laws first events w (Inv-empty first e) r)
