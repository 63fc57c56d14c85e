-- When a copy has caught up with its origin.
use Rattle.std.specs.Prelude.{◌≡◌, ◌≢◌, ℕ, ◌≤◌, ◌<◌, true, List, Option, Some, None, Contains}
use Rattle.std.specs.FinMap.{get}
use Rattle.stream_fold.specs.declared.entry.BoundTo.{BoundTo}
use Rattle.stream_fold.specs.declared.entry.Numbered.{Numbered}
use Rattle.replica_ask.specs.declared.phase.Phase.{Phase}
use Rattle.replica_ask.specs.declared.phase.Phase.TheVariants.{Idle, Asking, Bound, Stopped}
use Rattle.shard_machine.specs.Images.{NameFacts, live_in}
use Rattle.shard_machine.specs.Views.{Copy, all_copies, asker_of, node_or, reached}
use Rattle.shard_machine.specs.Steps.{Held, view_in}
use Rattle.run_soundness.specs.Worlds.{World, shard_of}
use Rattle.run_soundness.specs.Soundness.{IsToStore}

-- a copy has come at least to each of these messages that it stores
abbrev pub HasAll : Copy → List Numbered → Type 0
HasAll c rows = (row : Numbered) → Contains rows row → IsToStore c.facts.config.copies c.want row.message row.seq → row.seq ≤ reached c

-- It is bound to an incarnation of its origin and to a consumer of the origin's present opening, and has all that the origin
-- keeps. Where another stream stands under the origin's name by now, it has stopped.
abbrev pub HasCaughtUp : Copy → Phase → Option BoundTo → ℕ → NameFacts → Type 0
HasCaughtUp c phase None boot origin = ⊥
HasCaughtUp c Idle (Some to) boot origin = ⊥
HasCaughtUp c (Asking attempt since) (Some to) boot origin = ⊥
HasCaughtUp c (Bound attempt consumer next heard) (Some to) boot origin = (consumer.boot ≡ boot) × (to.incarnation ≡ origin.incarnation) × HasAll c origin.stream.rows
HasCaughtUp c (Stopped kept seen) (Some to) boot origin = to.incarnation ≢ origin.incarnation

-- what the shard of a copy's origin holds
abbrev pub origin_shard : World → List ℕ → Copy → Held
origin_shard w node c = (w.shard (node_or node c.want.node) (shard_of c.want.stream)).held

-- a node is the hub, or a leaf whose link is up
pub record InReach (w : World) (node : List ℕ) : Type 0 where
  pub there : Contains w.nodes node
  pub joined : w.joined node ≡ true

-- a copy of a shard of a node, which is in reach as its origin's node is, and whose origin stands
pub record ReachesOrigin (w : World) (node : List ℕ) (k : ℕ) (c : Copy) (origin : NameFacts) : Type 0 where
  pub here : InReach w node
  pub eight : k < 8
  pub copy : Contains (all_copies (w.shard node k).held.image) c
  pub there : InReach w (node_or node c.want.node)
  pub stands : live_in (origin_shard w node c).image c.want.stream ≡ Some origin

-- each copy that reaches its origin has caught up with it
abbrev pub AllCaughtUp : World → Type 0
AllCaughtUp w = (node : List ℕ) (k : ℕ) (c : Copy) (origin : NameFacts) → ReachesOrigin w node k c origin →
    HasCaughtUp c (asker_of (view_in (w.shard node k).held) c).phase (get c.facts.bindings c.index) (origin_shard w node c).image.boot origin
