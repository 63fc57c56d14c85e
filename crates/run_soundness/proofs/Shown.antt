-- What is shown of a world is enough: an event leads from it to the same again.
use Rattle.std.proofs.Common.{◌≡◌, ℕ, ◌<◌, Bool, true, false, ◌&&◌, eqb, ltb, List, [], ◌∷◌, ◌++◌, refl, sym, ap, ◌∙◌, subst, ◌⊎◌, inl, inr, append-nil}
use Rattle.std.specs.Prelude.{Contains}
use Rattle.std.specs.Str.{bytes_eq}
use Rattle.std.specs.Cmp.Lexicographic.{bytes_decides}
use Rattle.std.proofs.lemmas.Bool.{eqb-true, eq-eqb, and_parts, ltb-true, lt-ltb}
use Rattle.js_wire.specs.declared.packet.Packet.{Packet}
use Rattle.record_codec.specs.declared.records.Rec.{Rec}
use Rattle.shard_machine.specs.declared.call.ShardCall.{ShardCall}
use Rattle.shard_machine.specs.declared.reply.ShardReply.{ShardReply}
use Rattle.shard_machine.specs.declared.reply.ShardRefusal.TheVariants as refusal
use Rattle.shard_machine.specs.Steps.{Held, Loads, Step, refused}
use Rattle.shard_machine.specs.Views.{idle_askers}
use Rattle.run_soundness.specs.Shards.{Consumer, ShardState, Moves, LoadsOn, RestsOn, ever_after}
use Rattle.run_soundness.specs.Worlds.{World, Call, Cut, Join, Crash, CrashWithin, Begin, MayCall, Calls, Crashes, Begins, Links, OnlyNode}
use Rattle.run_soundness.specs.Laws.{ShowsSame, ShownIsEnough}

-- a world with these shards that shows the same as another one then
abbrev world_of : (List ℕ → ℕ → ShardState) → World → List Packet → World
world_of shards shown bag = record { nodes = shown.nodes; joined = shown.joined; shard = shards; bag = bag }

shows-world : (shards : List ℕ → ℕ → ShardState) (shown : World) (bag : List Packet) → ((n : List ℕ) (k : ℕ) → (shards n k).held ≡ (shown.shard n k).held) → ShowsSame shown (world_of shards shown bag)
shows-world shards shown bag held = record { nodes = refl; joined = λ n. refl; held = held }

-- a shard with what another one holds
abbrev holding : ShardState → ShardState → List Rec → List Consumer → ShardState
holding shown other records made_then = record { held = shown.held; log = other.log ++ records; ever = made_then }

-- ---- one shard moves

here_test : List ℕ → ℕ → List ℕ → ℕ → Bool
here_test node k n j = bytes_eq n node && eqb j k

and-true : (a b : Bool) → a ≡ true → b ≡ true → (a && b) ≡ true
and-true true b e f = f
and-true false b e f = absurd (cc)

here-true : (node : List ℕ) (k : ℕ) → here_test node k node k ≡ true
unfolding here_test
here-true node k = and-true (bytes_eq node node) (eqb k k) ((bytes_decides node node).1 refl) (eq-eqb k k refl)

here-is : (node : List ℕ) (k : ℕ) (n : List ℕ) (j : ℕ) → here_test node k n j ≡ true → (n ≡ node) × (j ≡ k)
unfolding here_test
here-is node k n j e = let p = and_parts (bytes_eq n node) (eqb j k) e in ((bytes_decides n node).0 p.0, eqb-true j k p.1)

module _ (w shown other : World) (s : ShowsSame w other) (node : List ℕ) (k : ℕ) (c : ShardCall) (reply : ShardReply) (calls : Calls w node k c reply shown) (may : MayCall other.bag c node k) where
  called_by : List ℕ → ℕ → Bool → ShardState
  called_by n j true = holding (shown.shard n j) (other.shard n j) calls.moves.records (ever_after (shown.shard n j).held reply (other.shard n j).ever)
  called_by n j false = other.shard n j

  called_shards : List ℕ → ℕ → ShardState
  called_shards n j = called_by n j (here_test node k n j)

  abbrev after_call : World
  after_call = world_of called_shards shown (other.bag ++ reply.packets)

  called-held : (n : List ℕ) (j : ℕ) (b : Bool) → here_test node k n j ≡ b → (called_by n j b).held ≡ (shown.shard n j).held
  unfolding called_by
  called-held n j true e = refl
  called-held n j false e = elim (calls.others n j) [
    | inl here ↦ absurd (let z : true ≡ false = sym (here-true node k) ∙ (ap (λ m. here_test node k m k) (sym here.0) ∙ (ap (λ i. here_test node k n i) (sym here.1) ∙ e)) in cc)
    | inr same ↦ s.held n j ∙ ap (λ (x : ShardState). x.held) (sym same)
  ]

  called-else : (n : List ℕ) (j : ℕ) (b : Bool) → here_test node k n j ≡ b → ((n ≡ node) × (j ≡ k)) ⊎ (called_by n j b ≡ other.shard n j)
  unfolding called_by
  called-else n j true e = inl (here-is node k n j e)
  called-else n j false e = inr refl

  called-here : called_shards node k ≡ holding (shown.shard node k) (other.shard node k) calls.moves.records (ever_after (shown.shard node k).held reply (other.shard node k).ever)
  unfolding called_by called_shards
  called-here = ap (called_by node k) (here-true node k)

  calls-alike : Calls other node k c reply after_call
  unfolding called_shards
  calls-alike = record {
    there = subst (λ (l : List (List ℕ)). Contains l node) (sym s.nodes) calls.there;
    eight = calls.eight;
    may = may;
    moves = subst (Moves (other.shard node k) c reply) (sym called-here) (record {
      records = calls.moves.records;
      step = subst (λ (h : Held). Step h c reply calls.moves.records (shown.shard node k).held) (sym (s.held node k)) calls.moves.step;
      log = refl;
      ever = refl;
    });
    others = λ n j. called-else n j (here_test node k n j) refl;
    bag = refl;
    nodes = calls.nodes ∙ sym s.nodes;
    joined = λ i n. (ap (λ (f : List ℕ → Bool). f n) calls.joined ∙ sym (s.joined n)) i;
  }

  calls-shows : ShowsSame shown after_call
  unfolding called_shards
  calls-shows = shows-world called_shards shown (other.bag ++ reply.packets) (λ n j. called-held n j (here_test node k n j) refl)

-- ---- the shards of a node

node_test : List ℕ → List ℕ → ℕ → Bool
node_test node n j = bytes_eq n node && ltb j 8

node-true : (node : List ℕ) (k : ℕ) → k < 8 → node_test node node k ≡ true
unfolding node_test
node-true node k lt = and-true (bytes_eq node node) (ltb k 8) ((bytes_decides node node).1 refl) (lt-ltb k 8 lt)

node-is : (node n : List ℕ) (k : ℕ) → node_test node n k ≡ true → (n ≡ node) × (k < 8)
unfolding node_test
node-is node n k e = let p = and_parts (bytes_eq n node) (ltb k 8) e in ((bytes_decides n node).0 p.0, ltb-true k 8 p.1)

-- what a shard adds to its log as it loads or rests
abbrev added : (old new : ShardState) → LoadsOn old new ⊎ RestsOn old new → List Rec
added old new (inl l) = l.records
added old new (inr r) = []

alike-by : (w shown other : ShardState) → other.held ≡ w.held → (m : LoadsOn w shown ⊎ RestsOn w shown) → LoadsOn other (holding shown other (added w shown m) other.ever) ⊎ RestsOn other (holding shown other (added w shown m) other.ever)
alike-by w shown other e (inl l) = inl (record { records = l.records; loads = subst (λ (h : Held). Loads h l.records shown.held) (sym e) l.loads; log = refl; ever = refl })
alike-by w shown other e (inr r) = inr (record { held = r.held ∙ ap (λ (h : Held). record h { loaded = false; consumers = []; askers = idle_askers h.askers }) (sym e); log = append-nil other.log; ever = refl })

module _ (w shown other : World) (s : ShowsSame w other) (node : List ℕ) (moved : (k : ℕ) → k < 8 → LoadsOn (w.shard node k) (shown.shard node k) ⊎ RestsOn (w.shard node k) (shown.shard node k)) (others : OnlyNode w.shard node shown.shard) where
  node_by : (n : List ℕ) (j : ℕ) (b : Bool) → node_test node n j ≡ b → ShardState
  node_by n j true e = holding (shown.shard n j) (other.shard n j) (added (w.shard node j) (shown.shard node j) (moved j (node-is node n j e).1)) (other.shard n j).ever
  node_by n j false e = other.shard n j

  node_shards : List ℕ → ℕ → ShardState
  node_shards n j = node_by n j (node_test node n j) refl

  node-held : (n : List ℕ) (j : ℕ) (b : Bool) (e : node_test node n j ≡ b) → (node_by n j b e).held ≡ (shown.shard n j).held
  unfolding node_by
  node-held n j true e = refl
  node-held n j false e = elim (others n j) [
    | inl here ↦ absurd (let z : true ≡ false = sym (node-true node j here.1) ∙ (ap (λ m. node_test node m j) (sym here.0) ∙ e) in cc)
    | inr same ↦ s.held n j ∙ ap (λ (x : ShardState). x.held) (sym same)
  ]

  node-else : (n : List ℕ) (j : ℕ) (b : Bool) (e : node_test node n j ≡ b) → ((n ≡ node) × (j < 8)) ⊎ (node_by n j b e ≡ other.shard n j)
  unfolding node_by
  node-else n j true e = inl (node-is node n j e)
  node-else n j false e = inr refl

  node-here : (j : ℕ) → j < 8 → (b : Bool) (e : node_test node node j ≡ b) → LoadsOn (other.shard node j) (node_by node j b e) ⊎ RestsOn (other.shard node j) (node_by node j b e)
  unfolding node_by
  node-here j lt true e = alike-by (w.shard node j) (shown.shard node j) (other.shard node j) (s.held node j) (moved j (node-is node node j e).1)
  node-here j lt false e = absurd (let z : true ≡ false = sym (node-true node j lt) ∙ e in cc)

  node-shows : (bag : List Packet) → ShowsSame shown (world_of node_shards shown bag)
  unfolding node_shards
  node-shows bag = shows-world node_shards shown bag (λ n j. node-held n j (node_test node n j) refl)

  node-moved : (j : ℕ) → j < 8 → LoadsOn (other.shard node j) (node_shards node j) ⊎ RestsOn (other.shard node j) (node_shards node j)
  unfolding node_shards
  node-moved j lt = node-here j lt (node_test node node j) refl

  node-others : OnlyNode other.shard node node_shards
  unfolding node_shards
  node-others n j = node-else n j (node_test node n j) refl

crash-alike : (w shown other : World) (node : List ℕ) (s : ShowsSame w other) (x : Crashes w node shown) → Crashes other node (world_of (node_shards w shown other s node x.shards x.others) shown other.bag)
crash-alike w shown other node s x = record {
  there = subst (λ (l : List (List ℕ)). Contains l node) (sym s.nodes) x.there;
  shards = node-moved w shown other s node x.shards x.others;
  others = node-others w shown other s node x.shards x.others;
  bag = refl;
  nodes = x.nodes ∙ sym s.nodes;
  joined = λ i n. (ap (λ (f : List ℕ → Bool). f n) x.joined ∙ sym (s.joined n)) i;
}

-- a node that begins: its shards load
only-loads : (old new : ShardState) → new.held.loaded ≡ true → LoadsOn old new ⊎ RestsOn old new → LoadsOn old new
only-loads old new l (inl x) = x
only-loads old new l (inr r) = absurd (let z : false ≡ true = sym (ap (λ (h : Held). h.loaded) r.held) ∙ l in cc)

module _ (w shown other : World) (s : ShowsSame w other) (node : List ℕ) (x : Begins w node shown) where
  begin_moved : (k : ℕ) → k < 8 → LoadsOn (w.shard node k) (shown.shard node k) ⊎ RestsOn (w.shard node k) (shown.shard node k)
  begin_moved k lt = inl (x.shards k lt)

  abbrev after_begin : World
  after_begin = world_of (node_shards w shown other s node begin_moved x.others) shown other.bag

  begin-alike : Begins other node after_begin
  begin-alike = record {
    new_name = λ q. x.new_name (subst (λ (l : List (List ℕ)). Contains l node) s.nodes q);
    shards = λ k lt. only-loads (other.shard node k) (after_begin.shard node k)
        (ap (λ (h : Held). h.loaded) ((node-shows w shown other s node begin_moved x.others other.bag).held node k) ∙ ap (λ (h : Held). h.loaded) (x.shards k lt).loads.becomes)
        (node-moved w shown other s node begin_moved x.others k lt);
    others = node-others w shown other s node begin_moved x.others;
    bag = refl;
    nodes = x.nodes ∙ ap (λ (l : List (List ℕ)). l ++ node ∷ []) (sym s.nodes);
    joined = λ n. elim (x.joined n) [ inl here ↦ inl here | inr same ↦ inr (same ∙ sym (s.joined n)) ];
  }

-- ---- a link: the shards are the other world's
links-alike : (w shown other : World) (node : List ℕ) (there : Bool) → ShowsSame w other → Links w node there shown → Links other node there (world_of other.shard shown other.bag)
links-alike w shown other node there s x = record {
  now = x.now;
  others = λ n. elim (x.others n) [ inl here ↦ inl here | inr same ↦ inr (same ∙ sym (s.joined n)) ];
  shards = λ n k. refl;
  bag = refl;
  nodes = x.nodes ∙ sym s.nodes;
}

links-shows : (w shown other : World) (node : List ℕ) (there : Bool) → ShowsSame w other → Links w node there shown → ShowsSame shown (world_of other.shard shown other.bag)
links-shows w shown other node there s x = shows-world other.shard shown other.bag (λ n k. s.held n k ∙ ap (λ (y : ShardState). y.held) (sym (x.shards n k)))

-- ---- the law

pub shown-is-enough : ShownIsEnough
shown-is-enough w next other (Call node k c reply) h s t = record { next = after_call w next other s node k c reply h t; happens = calls-alike w next other s node k c reply h t; same = calls-shows w next other s node k c reply h t }
shown-is-enough w next other (Cut node) h s t = record { next = world_of other.shard next other.bag; happens = links-alike w next other node false s h; same = links-shows w next other node false s h }
shown-is-enough w next other (Join node) h s t = record { next = world_of other.shard next other.bag; happens = links-alike w next other node true s h; same = links-shows w next other node true s h }
shown-is-enough w next other (Crash node) h s t = record { next = world_of (node_shards w next other s node h.shards h.others) next other.bag; happens = crash-alike w next other node s h; same = node-shows w next other s node h.shards h.others other.bag }
shown-is-enough w next other (CrashWithin node k c) h s t = record {
  next = after_call w next other s node k c (refused c refusal.DiskFault h.doubted) h.calls t;
  happens = record { doubted = h.doubted; calls = calls-alike w next other s node k c (refused c refusal.DiskFault h.doubted) h.calls t };
  same = calls-shows w next other s node k c (refused c refusal.DiskFault h.doubted) h.calls t;
}
shown-is-enough w next other (Begin node) h s t = record { next = after_begin w next other s node h; happens = begin-alike w next other s node h; same = node-shows w next other s node (begin_moved w next other s node h) h.others other.bag }
