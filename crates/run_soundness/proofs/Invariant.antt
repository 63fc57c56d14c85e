-- What every world of a run keeps, and what becomes of it where shards move on.
use Rattle.std.proofs.Common.{◌≡◌, ℕ, Bool, true, false, cond, ◌&&◌, eqb, List, [], ◌∷◌, ◌++◌, Some, refl, sym, ap, ◌∙◌, subst, ◌⊎◌, inl, inr}
use Rattle.std.specs.Prelude.{Contains, IsTrue}
use Rattle.std.specs.FinMap.{get}
use Rattle.std.specs.Str.{bytes_eq}
use Rattle.std.specs.Cmp.Lexicographic.{bytes_decides}
use Rattle.std.proofs.lemmas.Bool.{eqb-true, eq-eqb, and_parts, and_from}
use Rattle.std.proofs.lemmas.List.Elements.{Contains-append_left, Contains-append_right, Contains-append_cases}
use Rattle.nats_text.specs.declared.message.Stamp.{Stamp}
use Rattle.nats_text.specs.declared.message.Start.{Start}
use Rattle.nats_text.specs.declared.origin.Origin.{Origin}
use Rattle.js_wire.specs.declared.packet.AskerId.{AskerId}
use Rattle.js_wire.specs.declared.packet.Packet.{Packet}
use Rattle.js_wire.specs.declared.packet.Packet.TheVariants.{Ask}
use Rattle.stream_fold.specs.Copying.{bound, origin_named, IsRightStart}
use Rattle.stream_fold.specs.Histories.{History}
use Rattle.record_codec.specs.declared.records.Rec.{Rec}
use Rattle.replica_ask.specs.Askers.{AskerState}
use Rattle.replica_ask.specs.Filters.{filters_of}
use Rattle.replica_ask.specs.declared.phase.Phase.{Phase}
use Rattle.replica_ask.specs.declared.phase.Phase.TheVariants.{Idle, Asking}
use Rattle.shard_machine.specs.Logs.{Made, boot, made}
use Rattle.shard_machine.specs.Views.{node_or, askers_of, ask_start}
use Rattle.shard_machine.specs.Steps.{Held}
use Rattle.run_soundness.specs.Shards.{Consumer, ShardState, IsGiven, IsRead, IsNewShard}
use Rattle.run_soundness.specs.Worlds.{World, shard_of, OnlyShard}
use Rattle.run_soundness.specs.Soundness.{asker_at, names_consumer, SaysOf, IsAsked, BagRight, IsCopy, copy_of, PhaseRight, HoldsBy}
use Rattle.run_soundness.proofs.Growing.{WorldGrows, asked-grows, says-grows, holds-grows}
use Rattle.run_soundness.specs.Below.{Laws}
use Rattle.run_soundness.proofs.Phases.{phase-grows}
use Rattle.run_soundness.proofs.ShardsGrow.{Later, Later-refl, ShardGrows, grows-same}
use Rattle.run_soundness.proofs.ShardsKept.{ShardOk}

-- ---- the invariant

-- of each asker and attempt one Ask
abbrev pub OneAsk : List Packet → Type 0
OneAsk bag = (a : AskerId) (attempt : Stamp) (o o' s s' : List ℕ) (from from' : Start) (fs fs' : List (List ℕ)) →
    Contains bag (Ask a attempt o s from fs) → Contains bag (Ask a attempt o' s' from' fs') → Ask a attempt o s from fs ≡ Ask a attempt o' s' from' fs'

-- each attempt of the asker that was sent was given
abbrev pub GivenIn : List Packet → ℕ → AskerState → AskerId → Type 0
GivenIn bag b state a = (attempt : Stamp) (origin stream : List ℕ) (from : Start) (filters : List (List ℕ)) → Contains bag (Ask a attempt origin stream from filters) → IsGiven b state.attempts attempt

-- the log of a shard, as it is or with the record in doubt
abbrev pub Future : ShardState → List Rec → Type 0
Future s log = (log ≡ s.log) ⊎ ((r : Rec) × (s.held.doubt ≡ Some r) × (log ≡ s.log ++ r ∷ []))

-- what each stream that was ever made is like
pub record HistOk (w : World) (n : List ℕ) (k : ℕ) (name : List ℕ) (g : History) : Type 0 where
  pub place : k ≡ shard_of name
  pub holds : (i : ℕ) (want : Origin) → origin_named i g.config.copies ≡ Some want → HoldsBy w n g i want (bound i g.entries)

abbrev pub StreamsOk : World → List ℕ → ℕ → List Rec → Type 0
StreamsOk w n k log = (name : List ℕ) (i : ℕ) (m : Made) → made log name i ≡ Some m → HistOk w n k name m.history

-- the askers that a loaded shard has are of its node and its boot
pub record StoredOk (h : Held) : Type 0 where
  pub each : (stream : List ℕ) (index : ℕ) (st : AskerState) → get (askers_of h.askers stream) index ≡ Some st → (st.id ≡ record { node = h.node; stream = stream; index = index }) × (st.boot ≡ h.image.boot)

-- the asker belongs to this shard of this node
abbrev pub IsHere : List ℕ → ℕ → AskerId → Type 0
IsHere n k a = (a.node ≡ n) × (k ≡ shard_of a.stream)

-- what holds of the askers of a shard
pub record AskersFine (w : World) (n : List ℕ) (k : ℕ) : Type 0 where
  pub phase : (a : AskerId) → IsHere n k a → (g : History) (want : Origin) → IsCopy (w.shard n k) a g want → PhaseRight w a g want (asker_at (w.shard n k).held a).phase
  pub given : (a : AskerId) → IsHere n k a → GivenIn w.bag (boot (w.shard n k).log) (asker_at (w.shard n k).held a) a
  pub rests : (w.shard n k).held.loaded ≡ false → (a : AskerId) → IsHere n k a → (asker_at (w.shard n k).held a).phase ≡ Idle
  pub stored : (w.shard n k).held.loaded ≡ true → StoredOk (w.shard n k).held

pub record Inv (w : World) : Type 0 where
  pub nodes : (n : List ℕ) (k : ℕ) → (w.shard n k).held.node ≡ n
  pub empties : (n : List ℕ) → (Contains w.nodes n → ⊥) → (k : ℕ) → IsNewShard n (w.shard n k)
  pub shards : (n : List ℕ) (k : ℕ) → ShardOk (w.shard n k)
  pub bag : BagRight w
  pub logs : (n : List ℕ) (k : ℕ) (log : List Rec) → Future (w.shard n k) log → StreamsOk w n k log
  pub askers : (n : List ℕ) (k : ℕ) → AskersFine w n k

-- a stream is as good in a world that has grown
pub hist-grows : Laws → (w v : World) (n : List ℕ) (k : ℕ) (name : List ℕ) (g : History) → WorldGrows w v → HistOk w n k name g → HistOk v n k name g
hist-grows laws w v n k name g wg h = record { place = h.place; holds = λ i want o. holds-grows laws w v n g i want (bound i g.entries) wg (h.holds i want o) }

-- ---- all shards move on

-- a consumer that was made now was asked for
pub record MadeNow (w : World) (n : List ℕ) (k : ℕ) (t : ShardState) (d : Consumer) : Type 0 where
  pub from : Start
  pub ask : Contains w.bag (Ask d.wanted.asker d.wanted.attempt n d.stream from d.wanted.filters)
  pub place : k ≡ shard_of d.stream
  pub origin : Made
  pub reads : IsRead t.log d origin
  pub start : IsRightStart origin.history from d.wanted.start

-- what became of one shard, seen from the world before
pub record RowIn (w v : World) (n : List ℕ) (k : ℕ) : Type 0 where
  pub node : (v.shard n k).held.node ≡ n
  pub ok : ShardOk (v.shard n k)
  pub grows : ShardGrows (w.shard n k) (v.shard n k)
  pub made : (d : Consumer) → Contains (v.shard n k).ever d → ((c : Consumer) × Contains (w.shard n k).ever c × Later c d) ⊎ MadeNow w n k (v.shard n k) d
  pub logs : (log : List Rec) → Future (v.shard n k) log → StreamsOk w n k log
  pub given : (a : AskerId) → IsHere n k a → GivenIn v.bag (boot (v.shard n k).log) (asker_at (v.shard n k).held a) a
  pub phases : (a : AskerId) → IsHere n k a → (g : History) (want : Origin) → IsCopy (v.shard n k) a g want →
      PhaseRight w a g want (asker_at (v.shard n k).held a).phase ⊎ PhaseRight v a g want (asker_at (v.shard n k).held a).phase
  pub rests : (v.shard n k).held.loaded ≡ false → (a : AskerId) → IsHere n k a → (asker_at (v.shard n k).held a).phase ≡ Idle
  pub stored : (v.shard n k).held.loaded ≡ true → StoredOk (v.shard n k).held

-- what became of all shards, and what was sent
pub record StepOk (w v : World) (packets : List Packet) : Type 0 where
  pub rows : (n : List ℕ) (k : ℕ) → RowIn w v n k
  pub bag : v.bag ≡ w.bag ++ packets
  pub one : OneAsk v.bag
  pub says : (p : Packet) → Contains packets p → IsTrue (names_consumer p) → (n : List ℕ) × (k : ℕ) × (c : Consumer) × Contains (v.shard n k).ever c × SaysOf p (v.shard n k).log c
  pub empties : (n : List ℕ) → (Contains v.nodes n → ⊥) → (k : ℕ) → IsNewShard n (v.shard n k)

module _ (laws : Laws) (w v : World) (packets : List Packet) (inv : Inv w) (s : StepOk w v packets) where
  step-grows : WorldGrows w v
  step-grows = record { shards = λ n k. (s.rows n k).grows; bag = λ p q. subst (λ (l : List Packet). Contains l p) (sym s.bag) (Contains-append_left w.bag packets p q) }

  step-asked : (n : List ℕ) (k : ℕ) (d : Consumer) → Contains (v.shard n k).ever d → IsAsked v n k d
  step-asked n k d q = elim ((s.rows n k).made d q) [
    | inl old ↦ asked-grows w v n k old.0 d step-grows old.2 (inv.bag.asked n k old.0 old.1)
    | inr a ↦ record { from = a.from; ask = step-grows.bag _ a.ask; place = a.place; origin = a.origin; reads = a.reads; start = a.start }
  ]

  step-says : (p : Packet) → Contains v.bag p → IsTrue (names_consumer p) → (n : List ℕ) × (k : ℕ) × (c : Consumer) × Contains (v.shard n k).ever c × SaysOf p (v.shard n k).log c
  step-says p q names = elim (Contains-append_cases w.bag packets p (subst (λ (l : List Packet). Contains l p) s.bag q)) [
    | inl old ↦ (let b = inv.bag.says p old names in
        let l = (step-grows.shards b.0 b.1).ever b.2 b.3 in
        (b.0, b.1, l.0, l.1, says-grows p (w.shard b.0 b.1) (v.shard b.0 b.1) b.2 l.0 (step-grows.shards b.0 b.1) l.2 b.4))
    | inr new ↦ s.says p new names
  ]

  step-phase : (n : List ℕ) (k : ℕ) (a : AskerId) → IsHere n k a → (g : History) (want : Origin) → IsCopy (v.shard n k) a g want → PhaseRight v a g want (asker_at (v.shard n k).held a).phase
  step-phase n k a here g want c = elim ((s.rows n k).phases a here g want c) [
    | inl before ↦ phase-grows w v a g want (asker_at (v.shard n k).held a).phase step-grows inv.shards before
    | inr now ↦ now
  ]

  -- the invariant outlasts it
  pub Inv-step : Inv v
  Inv-step = record {
    nodes = λ n k. (s.rows n k).node;
    empties = s.empties;
    shards = λ n k. (s.rows n k).ok;
    bag = record { one_ask = s.one; asked = step-asked; says = step-says };
    logs = λ n k log f name i m e. hist-grows laws w v n k name m.history step-grows ((s.rows n k).logs log f name i m e);
    askers = λ n k. record { phase = step-phase n k; given = (s.rows n k).given; rests = (s.rows n k).rests; stored = (s.rows n k).stored };
  }

-- a shard that stays as it is, while others send no Ask of its askers
pub row-same : Laws → (w v : World) (n : List ℕ) (k : ℕ) → Inv w → v.shard n k ≡ w.shard n k →
    ((a : AskerId) → IsHere n k a → GivenIn v.bag (boot (w.shard n k).log) (asker_at (w.shard n k).held a) a) → RowIn w v n k
row-same laws w v n k inv same given =
    let f = inv.askers n k in
    record {
      node = subst (λ (s : ShardState). s.held.node ≡ n) (sym same) (inv.nodes n k);
      ok = subst ShardOk (sym same) (inv.shards n k);
      grows = grows-same laws (w.shard n k) (v.shard n k) (inv.shards n k) same;
      made = λ d q. inl (d, subst (λ (s : ShardState). Contains s.ever d) same q, Later-refl d);
      logs = λ log x. inv.logs n k log (subst (λ (s : ShardState). Future s log) same x);
      given = λ a here. subst (λ (s : ShardState). GivenIn v.bag (boot s.log) (asker_at s.held a) a) (sym same) (given a here);
      phases = λ a here g want c. inl (subst (λ (s : ShardState). PhaseRight w a g want (asker_at s.held a).phase) (sym same) (f.phase a here g want (subst (λ (s : ShardState). IsCopy s a g want) same c)));
      rests = λ l a here. subst (λ (s : ShardState). (asker_at s.held a).phase ≡ Idle) (sym same) (f.rests (subst (λ (s : ShardState). s.held.loaded ≡ false) same l) a here);
      stored = λ l. subst (λ (s : ShardState). StoredOk s.held) (sym same) (f.stored (subst (λ (s : ShardState). s.held.loaded ≡ true) same l));
    }

-- ---- one shard moves on

-- the phase of a copy's asker, seen from the world before
abbrev pub PhaseAfter : World → List Packet → AskerId → History → Origin → Phase → Type 0
PhaseAfter w packets a g want p = PhaseRight w a g want p ⊎
    ((attempt : Stamp) × (since : ℕ) × (p ≡ Asking attempt since) × Contains packets (Ask a attempt (node_or a.node want.node) want.stream (ask_start (copy_of a g want)) (filters_of want)))

-- what became of one shard that sent these packets, seen from the world before
pub record RowOk (w : World) (n : List ℕ) (k : ℕ) (t : ShardState) (packets : List Packet) : Type 0 where
  pub node : t.held.node ≡ n
  pub ok : ShardOk t
  pub grows : ShardGrows (w.shard n k) t
  pub made : (d : Consumer) → Contains t.ever d → ((c : Consumer) × Contains (w.shard n k).ever c × Later c d) ⊎ MadeNow w n k t d
  pub logs : (log : List Rec) → Future t log → StreamsOk w n k log
  pub says : (p : Packet) → Contains packets p → IsTrue (names_consumer p) → (c : Consumer) × Contains t.ever c × SaysOf p t.log c
  pub one : OneAsk (w.bag ++ packets)
  pub given : (a : AskerId) → IsHere n k a → GivenIn (w.bag ++ packets) (boot t.log) (asker_at t.held a) a
  pub elsewhere : (a : AskerId) (at : Stamp) (o s : List ℕ) (from : Start) (fs : List (List ℕ)) → Contains packets (Ask a at o s from fs) → IsHere n k a
  pub phases : (a : AskerId) → IsHere n k a → (g : History) (want : Origin) → IsCopy t a g want → PhaseAfter w packets a g want (asker_at t.held a).phase
  pub rests : t.held.loaded ≡ false → (a : AskerId) → IsHere n k a → (asker_at t.held a).phase ≡ Idle
  pub stored : t.held.loaded ≡ true → StoredOk t.held

-- one shard moves on, and what it sends enters the bag
pub record OneMoves (w : World) (n : List ℕ) (k : ℕ) (packets : List Packet) (v : World) : Type 0 where
  pub row : RowOk w n k (v.shard n k) packets
  pub others : OnlyShard w.shard n k v.shard
  pub bag : v.bag ≡ w.bag ++ packets
  pub nodes : v.nodes ≡ w.nodes
  pub there : Contains w.nodes n

row-here : (w v : World) (n : List ℕ) (k : ℕ) (packets : List Packet) → OneMoves w n k packets v → RowIn w v n k
row-here w v n k packets x = record {
  node = x.row.node;
  ok = x.row.ok;
  grows = x.row.grows;
  made = x.row.made;
  logs = x.row.logs;
  given = λ a here. subst (λ (l : List Packet). GivenIn l (boot (v.shard n k).log) (asker_at (v.shard n k).held a) a) (sym x.bag) (x.row.given a here);
  phases = λ a here g want c. elim (x.row.phases a here g want c) [
    | inl q ↦ inl q
    | inr q ↦ inr (subst (λ (p : Phase). PhaseRight v a g want p) (sym q.2) (record { ask = subst (λ (l : List Packet). Contains l (Ask a q.0 (node_or a.node want.node) want.stream (ask_start (copy_of a g want)) (filters_of want))) (sym x.bag) (Contains-append_right w.bag packets (Ask a q.0 (node_or a.node want.node) want.stream (ask_start (copy_of a g want)) (filters_of want)) q.3) }))
  ];
  rests = x.row.rests;
  stored = x.row.stored;
}

row-else : Laws → (w v : World) (n : List ℕ) (k : ℕ) (packets : List Packet) → Inv w → OneMoves w n k packets v → (m : List ℕ) (j : ℕ) → v.shard m j ≡ w.shard m j → RowIn w v m j
row-else laws w v n k packets inv x m j same = row-same laws w v m j inv same (λ a here at o s from fs q. elim (Contains-append_cases w.bag packets (Ask a at o s from fs) (subst (λ (l : List Packet). Contains l (Ask a at o s from fs)) x.bag q)) [
  | inl old ↦ (inv.askers m j).given a here at o s from fs old
  | inr new ↦ (let own = x.row.elsewhere a at o s from fs new in
      let mn : m ≡ n = sym here.0 ∙ own.0 in
      let jk : j ≡ k = here.1 ∙ sym own.1 in
      let g : IsGiven (boot (v.shard n k).log) (asker_at (v.shard n k).held a).attempts at = x.row.given a own at o s from fs (Contains-append_right w.bag packets (Ask a at o s from fs) new) in
      let same' : v.shard n k ≡ w.shard m j = ap (λ y. v.shard y k) (sym mn) ∙ (ap (λ y. v.shard m y) (sym jk) ∙ same) in
      subst (λ (t : ShardState). IsGiven (boot t.log) (asker_at t.held a).attempts at) same' g)
])

not-new : (w v : World) (n : List ℕ) (k : ℕ) (packets : List Packet) → Inv w → OneMoves w n k packets v → (m : List ℕ) → (Contains v.nodes m → ⊥) → (j : ℕ) → IsNewShard m (v.shard m j)
not-new w v n k packets inv x m none j =
    let none' : Contains w.nodes m → ⊥ = λ q. none (subst (λ (l : List (List ℕ)). Contains l m) (sym x.nodes) q) in
    elim (x.others m j) [
      | inl here ↦ absurd (none' (subst (λ y. Contains w.nodes y) (sym here.0) x.there))
      | inr same ↦ subst (IsNewShard m) (sym same) (inv.empties m none' j)
    ]

-- The invariant outlasts a move of one shard.
pub Inv-one : Laws → (w v : World) (n : List ℕ) (k : ℕ) (packets : List Packet) → Inv w → OneMoves w n k packets v → Inv v
Inv-one laws w v n k packets inv x = Inv-step laws w v packets inv (record {
  rows = λ m j. elim (x.others m j) [
    | inl here ↦ subst (λ y. RowIn w v y j) (sym here.0) (subst (λ y. RowIn w v n y) (sym here.1) (row-here w v n k packets x))
    | inr same ↦ row-else laws w v n k packets inv x m j same
  ];
  bag = x.bag;
  one = subst OneAsk (sym x.bag) x.row.one;
  says = λ p q names. let c = x.row.says p q names in (n, k, c.0, c.1, c.2);
  empties = not-new w v n k packets inv x;
})

-- ---- a world with one other shard

is_at : List ℕ → ℕ → List ℕ → ℕ → Bool
is_at n k m j = bytes_eq m n && eqb j k

put_shard : World → List ℕ → ℕ → ShardState → World
put_shard w n k s = record { nodes = w.nodes; joined = w.joined; shard = λ m j. cond (is_at n k m j) s (w.shard m j); bag = w.bag }

pub with_shard : World → List ℕ → ℕ → ShardState → World
with_shard w n k s = put_shard w n k s

pub with-here : (w : World) (n : List ℕ) (k : ℕ) (s : ShardState) → (with_shard w n k s).shard n k ≡ s
unfolding with_shard put_shard is_at
with-here w n k s = ap (λ t. cond t s (w.shard n k)) (and_from (bytes_eq n n) (eqb k k) ((bytes_decides n n).1 refl) (eq-eqb k k refl))

pub with-else : (w : World) (n : List ℕ) (k : ℕ) (s : ShardState) → OnlyShard w.shard n k (with_shard w n k s).shard
unfolding with_shard put_shard is_at
with-else w n k s m j = by (bytes_eq m n && eqb j k) refl
  where
    by : (t : Bool) → (bytes_eq m n && eqb j k) ≡ t → ((m ≡ n) × (j ≡ k)) ⊎ (cond t s (w.shard m j) ≡ w.shard m j)
    by true e = let q = and_parts (bytes_eq m n) (eqb j k) e in inl ((bytes_decides m n).0 q.0, eqb-true j k q.1)
    by false e = inr refl

pub with-bag : (w : World) (n : List ℕ) (k : ℕ) (s : ShardState) → (with_shard w n k s).bag ≡ w.bag
unfolding with_shard put_shard
with-bag w n k s = refl

pub with-nodes : (w : World) (n : List ℕ) (k : ℕ) (s : ShardState) → (with_shard w n k s).nodes ≡ w.nodes
unfolding with_shard put_shard
with-nodes w n k s = refl
