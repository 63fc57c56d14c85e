-- How the nodes settle: all that is under way is carried, and time passes, until each copy has caught up.
use Rattle.std.specs.Prelude.{◌≡◌, ℕ, zero, suc, ◌+◌, ◌-◌, ◌^◌, nat_lt, Bool, true, false, if◌then◌else◌, List, [], ◌∷◌, ◌++◌, map, flat_map, drop, Option, Some, None}
use Rattle.js_wire.specs.declared.packet.Packet.{Packet}
use Rattle.shard_machine.specs.declared.call.ShardCall.TheVariants as call
use Rattle.run_soundness.specs.Worlds.{World, Event}
use Rattle.world_steps.specs.declared.event.Direction.{Direction}
use Rattle.world_steps.specs.declared.event.Direction.TheVariants.{ToLeaf, ToHub}
use Rattle.world_steps.specs.declared.job.Job.{Job}
use Rattle.world_steps.specs.Links.{Site, Channel, Net}
use Rattle.world_steps.specs.Routes.{Moments}
use Rattle.world_steps.specs.Tasks.{Task, Work, CarryOne, DoesAll, DoesSome}
use Rattle.world_steps.specs.Steps.{numbers_below}
use Rattle.world_steps.specs.CaughtUp.{AllCaughtUp}

-- ---- what is under way

-- there is a frame among these
abbrev pub has_frames : List Packet → Bool
has_frames [] = false
has_frames (p ∷ ps) = true

-- frames are under way
abbrev pub is_busy : Channel → Bool
is_busy c = has_frames c.frames

-- one direction of a leaf's link
pub record Lane : Type 0 where
  pub leaf : List ℕ
  pub direction : Direction

-- the direction of this leaf's link that has frames under way, the one to the leaf before that to the hub, else this
abbrev pub busy_lane : Site → Option Lane → Option Lane
busy_lane s other =
    if is_busy s.to_leaf then Some (record { leaf = s.name; direction = ToLeaf })
    else if is_busy s.to_hub then Some (record { leaf = s.name; direction = ToHub })
    else other

-- the first of these leaves' links that is up and has frames under way
abbrev pub first_busy : (List ℕ → Bool) → List Site → Option Lane
first_busy joined [] = None
first_busy joined (s ∷ sites) = if joined s.name then busy_lane s (first_busy joined sites) else first_busy joined sites

-- the same of all leaves, in the order in which they were made
abbrev pub next_lane : Net → Option Lane
next_lane net = first_busy net.world.joined (drop 1 net.sites)

-- ---- time passes

-- the next timer moment, ten seconds later; the timer begins anew where it would pass 2^63 - 1
abbrev pub later : ℕ → ℕ
later timer = if nat_lt (2 ^ 63 - 1) (timer + 10000000000) then 0 else timer + 10000000000

-- time passes at one shard: it is told the moment, and its streams are pumped
abbrev pub tick : ℕ → ℕ → List Job
tick timer k = (record { shard = k; call = call.Tick timer }) ∷ (record { shard = k; call = call.Names }) ∷ []

-- time passes at a node, shard by shard
abbrev pub tick_node : Moments → Site → Task
tick_node m s = Work m s.name (flat_map (tick m.timer) (numbers_below 8))

-- ---- rounds

-- the moments of the next round, in which time passes where no frame can be carried
abbrev pub round_moments : Moments → Option Lane → Moments
round_moments m None = record { now = m.now; timer = later m.timer }
round_moments m (Some lane) = m

-- the tasks of the next round: a frame is carried, or time passes at each node, in the order in which they were made
abbrev pub round_tasks : Moments → List Site → Option Lane → List Task
round_tasks m sites None = map (tick_node (round_moments m None)) sites
round_tasks m sites (Some lane) = CarryOne m lane.leaf lane.direction ∷ []

-- no frame is under way over a link that is up, and each copy that reaches its origin has caught up with it
pub record HaveSettled (net : Net) : Type 0 where
  pub quiet : next_lane net ≡ None
  pub caught_up : AllCaughtUp net.world

-- These events are so many rounds, after the last of which the nodes have settled, and not before.
abbrev pub Settles : ℕ → Moments → Net → List Event → Moments → Net → Type 0
Settles zero m old es end new = HaveSettled old × (es ≡ []) × (end ≡ m) × (new ≡ old)
Settles (suc n) m old es end new =
    (HaveSettled old → ⊥)
    × (first : List Event) × (rest : List Event) × (mid : Net) × (es ≡ first ++ rest)
    × DoesAll (round_tasks m old.sites (next_lane old)) old first mid
    × Settles n (round_moments m (next_lane old)) mid rest end new

-- There was no memory: these events are some first rounds, and perhaps a first part of the next.
abbrev pub SettlesInPart : ℕ → Moments → Net → List Event → World → Type 0
SettlesInPart zero m old es last = DoesSome (round_tasks m old.sites (next_lane old)) old es last
SettlesInPart (suc n) m old es last =
    (HaveSettled old → ⊥)
    × (first : List Event) × (rest : List Event) × (mid : Net) × (es ≡ first ++ rest)
    × DoesAll (round_tasks m old.sites (next_lane old)) old first mid
    × SettlesInPart n (round_moments m (next_lane old)) mid rest last
