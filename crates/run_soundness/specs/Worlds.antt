-- The world of all nodes and their shards, what may happen in it, and its runs.
use Rattle.std.specs.Prelude.{◌≡◌, ◌⊎◌, ⊤, ℕ, ◌%◌, ◌<◌, Bool, true, false, List, [], ◌∷◌, ◌++◌, Option, Some, None, Contains}
use Rattle.nats_text.specs.Hash.{fnv1a}
use Rattle.js_wire.specs.declared.packet.AskerId.{AskerId}
use Rattle.js_wire.specs.declared.packet.Packet.{Packet}
use Rattle.js_wire.specs.declared.packet.Packet.TheVariants.{Ask, Answer, Refuse, Delivery, Beat, FlowAsk, FlowReply}
use Rattle.stream_fold.specs.declared.entry.Entry.{Entry}
use Rattle.shard_machine.specs.declared.call.ShardCall.{ShardCall}
use Rattle.shard_machine.specs.declared.call.ShardCall.TheVariants as call
use Rattle.shard_machine.specs.declared.reply.ShardRefusal.TheVariants as refusal
use Rattle.shard_machine.specs.declared.reply.ShardReply.{ShardReply}
use Rattle.shard_machine.specs.Answers.{addressee}
use Rattle.shard_machine.specs.Steps.{refused}
use Rattle.run_soundness.specs.Shards.{ShardState, IsNewShard, Moves, LoadsOn, RestsOn}

-- The names of the nodes, which of them are joined with the others, the shards of each node by their
-- number, and every packet that was ever sent. A node has the shards 0 to 7.
pub record World : Type 0 where
  pub nodes : List (List ℕ)
  pub joined : List ℕ → Bool
  pub shard : List ℕ → ℕ → ShardState
  pub bag : List Packet

-- the shard of a stream on its node: the FNV-1a hash of the stream's name, modulo 8
abbrev pub shard_of : List ℕ → ℕ
shard_of name = fnv1a name % 8

-- ---- where a call is made, and which packet it may take

-- at the node of the asker, if there is one, and at the shard of its stream
abbrev pub IsAtAsker : Option AskerId → List ℕ → ℕ → Type 0
IsAtAsker None node k = ⊤
IsAtAsker (Some asker) node k = (node ≡ asker.node) × (k ≡ shard_of asker.stream)

-- An Ask is one that was sent, and comes to its origin's node, to the shard of the stream that it asks for.
-- No other packet makes a consumer, wherever it comes.
abbrev pub IsAskedHere : List Packet → Packet → List ℕ → ℕ → Type 0
IsAskedHere bag (Ask asker attempt origin stream start filters) node k = Contains bag (Ask asker attempt origin stream start filters) × (node ≡ origin) × (k ≡ shard_of stream)
IsAskedHere bag (Answer asker attempt consumer incarnation start) node k = ⊤
IsAskedHere bag (Refuse asker attempt code err_code) node k = ⊤
IsAskedHere bag (Delivery asker attempt stream consumer number seq pending message) node k = ⊤
IsAskedHere bag (Beat asker attempt origin stream consumer last_number last_seq stalled) node k = ⊤
IsAskedHere bag (FlowAsk asker attempt origin stream consumer token) node k = ⊤
IsAskedHere bag (FlowReply origin stream consumer token) node k = ⊤

-- A call that names a stream is made at the stream's shard. A packet that a copy hears was sent, and comes to
-- the copy's node, to the shard of its stream. All else may be called anywhere.
abbrev pub MayCall : List Packet → ShardCall → List ℕ → ℕ → Type 0
MayCall bag (call.Create config now) node k = k ≡ shard_of config.name
MayCall bag (call.Update config) node k = k ≡ shard_of config.name
MayCall bag (call.Remove name) node k = k ≡ shard_of name
MayCall bag (call.Publish name message now) node k = k ≡ shard_of name
MayCall bag (call.Delete name seq) node k = k ≡ shard_of name
MayCall bag (call.Purge name pattern below) node k = k ≡ shard_of name
MayCall bag (call.Expire name now) node k = k ≡ shard_of name
MayCall bag (call.Get name which) node k = k ≡ shard_of name
MayCall bag (call.Info name) node k = k ≡ shard_of name
MayCall bag call.Names node k = ⊤
MayCall bag (call.MakeConsumer ask now) node k = IsAskedHere bag ask node k
MayCall bag (call.Pump name budget now) node k = k ≡ shard_of name
MayCall bag (call.FlowReply packet) node k = ⊤
MayCall bag (call.Reach other there now) node k = ⊤
MayCall bag (call.Heard packet now) node k = Contains bag packet × IsAtAsker (addressee packet) node k
MayCall bag (call.Tick now) node k = ⊤
MayCall bag call.LinkLost node k = ⊤

-- ---- events

-- every other shard is as before
abbrev pub OnlyShard : (List ℕ → ℕ → ShardState) → List ℕ → ℕ → (List ℕ → ℕ → ShardState) → Type 0
OnlyShard old node k new = (n : List ℕ) (j : ℕ) → ((n ≡ node) × (j ≡ k)) ⊎ (new n j ≡ old n j)

-- the shards of every other node are as before
abbrev pub OnlyNode : (List ℕ → ℕ → ShardState) → List ℕ → (List ℕ → ℕ → ShardState) → Type 0
OnlyNode old node new = (n : List ℕ) (k : ℕ) → ((n ≡ node) × (k < 8)) ⊎ (new n k ≡ old n k)

-- a shard is called, and what it sends enters the bag
pub record Calls (old : World) (node : List ℕ) (k : ℕ) (c : ShardCall) (reply : ShardReply) (new : World) : Type 0 where
  pub there : Contains old.nodes node
  pub eight : k < 8
  pub may : MayCall old.bag c node k
  pub moves : Moves (old.shard node k) c reply (new.shard node k)
  pub others : OnlyShard old.shard node k new.shard
  pub bag : new.bag ≡ old.bag ++ reply.packets
  pub nodes : new.nodes ≡ old.nodes
  pub joined : new.joined ≡ old.joined

-- a crash within a call: the call's record, or the opening of its load, is in doubt, nothing is sent, and the
-- crash of the node is the next event
pub record CrashesWithin (old : World) (node : List ℕ) (k : ℕ) (c : ShardCall) (new : World) : Type 0 where
  pub doubted : Option Entry
  pub calls : Calls old node k c (refused c refusal.DiskFault doubted) new

-- A node loses all but its disks: each of its shards loads, or is left to load at its next call.
pub record Crashes (old : World) (node : List ℕ) (new : World) : Type 0 where
  pub there : Contains old.nodes node
  pub shards : (k : ℕ) → k < 8 → LoadsOn (old.shard node k) (new.shard node k) ⊎ RestsOn (old.shard node k) (new.shard node k)
  pub others : OnlyNode old.shard node new.shard
  pub bag : new.bag ≡ old.bag
  pub nodes : new.nodes ≡ old.nodes
  pub joined : new.joined ≡ old.joined

-- A node is made, with a name that no node has: its shards, which never held anything, load for the first time. The
-- node may be joined with the others or not.
pub record Begins (old : World) (node : List ℕ) (new : World) : Type 0 where
  pub new_name : Contains old.nodes node → ⊥
  pub shards : (k : ℕ) → k < 8 → LoadsOn (old.shard node k) (new.shard node k)
  pub others : OnlyNode old.shard node new.shard
  pub bag : new.bag ≡ old.bag
  pub nodes : new.nodes ≡ old.nodes ++ node ∷ []
  pub joined : (n : List ℕ) → (n ≡ node) ⊎ (new.joined n ≡ old.joined n)

-- a node is joined with the others, or cut off from them; no shard sees this by itself
pub record Links (old : World) (node : List ℕ) (there : Bool) (new : World) : Type 0 where
  pub now : new.joined node ≡ there
  pub others : (n : List ℕ) → (n ≡ node) ⊎ (new.joined n ≡ old.joined n)
  pub shards : (n : List ℕ) (k : ℕ) → new.shard n k ≡ old.shard n k
  pub bag : new.bag ≡ old.bag
  pub nodes : new.nodes ≡ old.nodes

-- a shard is called and replies; a node is cut off, or joined; it crashes; it is to crash within a call; it is made
pub data Event : Type 0 where
  Call : List ℕ → ℕ → ShardCall → ShardReply → Event
  Cut : List ℕ → Event
  Join : List ℕ → Event
  Crash : List ℕ → Event
  CrashWithin : List ℕ → ℕ → ShardCall → Event
  Begin : List ℕ → Event

-- the event may lead from the old world to the new one
abbrev pub Happens : World → Event → World → Type 0
Happens old (Call node k c reply) new = Calls old node k c reply new
Happens old (Cut node) new = Links old node false new
Happens old (Join node) new = Links old node true new
Happens old (Crash node) new = Crashes old node new
Happens old (CrashWithin node k c) new = CrashesWithin old node k c new
Happens old (Begin node) new = Begins old node new

-- the events, one after another, lead from the old world to the new one
abbrev pub Run : World → List Event → World → Type 0
Run old [] new = new ≡ old
Run old (e ∷ es) new = (mid : World) × Happens old e mid × Run mid es new

-- there is no node, no shard holds or ever held anything, and no packet was sent
pub record IsEmpty (w : World) : Type 0 where
  pub nodes : w.nodes ≡ []
  pub bag : w.bag ≡ []
  pub shards : (n : List ℕ) (k : ℕ) → IsNewShard n (w.shard n k)
