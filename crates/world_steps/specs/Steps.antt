-- The step of each event: what the nodes do, and what is under way then.
use Rattle.std.specs.Prelude.{◌≡◌, ⊤, ℕ, zero, suc, ◌+◌, ◌≤◌, min, Bool, true, false, not, if◌then◌else◌, List, [], ◌∷◌, ◌++◌, length, replicate, flat_map, Option, IsSome, Some, None, Contains}
use Rattle.shard_machine.specs.declared.call.ShardCall.{ShardCall}
use Rattle.shard_machine.specs.declared.call.ShardCall.TheVariants as call
use Rattle.run_soundness.specs.Worlds.{World, Event}
use Rattle.run_soundness.specs.Worlds.Event.{Call}
use Rattle.world_steps.specs.declared.event.Direction.{Direction}
use Rattle.world_steps.specs.declared.event.Direction.TheVariants.{ToLeaf, ToHub}
use Rattle.world_steps.specs.declared.event.Event.{Event as Order}
use Rattle.world_steps.specs.declared.event.Event.TheVariants as order
use Rattle.world_steps.specs.declared.job.Job.{Job}
use Rattle.world_steps.specs.declared.outcome.StepOutcome.{StepOutcome}
use Rattle.world_steps.specs.declared.outcome.StepOutcome.TheVariants.{Reply, Quiet}
use Rattle.world_steps.specs.Links.{Site, Channel, Net, is_hub, hub_name, channel_of, change_channel, losing, repeating, turned_round, emptied}
use Rattle.world_steps.specs.Routes.{Moments, job_at, operated}
use Rattle.world_steps.specs.Tasks.{Task, Work, CarryOne, Turn, DoesAll, DoesSome}

-- ---- a call

-- the stream that a call names, of those that may be asked for: the calls from Create to Info, and a Pump
abbrev pub named_stream : ShardCall → Option (List ℕ)
named_stream (call.Get name which) = Some name
named_stream (call.Info name) = Some name
named_stream (call.Pump name budget now) = Some name
named_stream c = operated c

-- a call at the shard of its stream
abbrev pub called : Moments → List ℕ → ShardCall → Option (List ℕ) → List Task
called m node c None = []
called m node c (Some stream) = Work m node (job_at stream c ∷ []) ∷ []

-- ---- a channel

-- the leaf of a hub and a leaf
abbrev pub leaf_of : List Site → List ℕ → List ℕ → List ℕ
leaf_of sites from to = if is_hub sites from then to else from

-- the direction from the one to the other
abbrev pub direction_of : List Site → List ℕ → Direction
direction_of sites from = if is_hub sites from then ToLeaf else ToHub

-- how many frames can be carried: none over a link that is down
abbrev pub carriable : Net → List ℕ → Direction → ℕ
carriable net leaf direction = if net.world.joined leaf then length (channel_of net.sites leaf direction).frames else 0

-- so many of the frames that are under way now, or all of them where they are fewer
abbrev pub carried : Moments → Net → List ℕ → Direction → ℕ → List Task
carried m net leaf direction count = replicate (min count (carriable net leaf direction)) (CarryOne m leaf direction)

-- ---- a link

-- the numbers below this one, in order
abbrev pub numbers_below : ℕ → List ℕ
numbers_below zero = []
numbers_below (suc n) = numbers_below n ++ n ∷ []

-- what one shard is told of its node's link with another one
abbrev pub told : ℕ → List ℕ → Bool → ℕ → List Job
told timer peer true k = (record { shard = k; call = call.Reach peer true timer }) ∷ []
told timer peer false k = (record { shard = k; call = call.Reach peer false 0 }) ∷ (record { shard = k; call = call.LinkLost }) ∷ []

-- the eight shards of a node are told, in order
abbrev pub all_told : ℕ → List ℕ → Bool → List Job
all_told timer peer up = flat_map (told timer peer up) (numbers_below 8)

-- the moments of what a link brings that goes up, or down
abbrev pub link_moments : Moments → Bool → Moments
link_moments m true = record { now = m.timer; timer = m.timer }
link_moments m false = record { now = 0; timer = 0 }

-- The link of a leaf goes up or down. The hub is told of the leaf and does all that this brings, and then the leaf is
-- told of the hub.
abbrev pub turned : Moments → Net → List ℕ → Bool → List Task
turned m net leaf up = Turn leaf up
    ∷ Work (link_moments m up) (hub_name net.sites) (all_told m.timer leaf up)
    ∷ Work (link_moments m up) leaf (all_told m.timer (hub_name net.sites) up) ∷ []

-- ---- the step

-- what an event changes of what is under way before any task
abbrev pub ordered : Order → List Site → List Site
ordered (order.Call node c) sites = sites
ordered (order.Carry from to count) sites = sites
ordered (order.Lose from to count) sites = change_channel (leaf_of sites from to) (direction_of sites from) (losing count) sites
ordered (order.Repeat from to count) sites = change_channel (leaf_of sites from to) (direction_of sites from) (repeating count) sites
ordered (order.Reverse from to) sites = change_channel (leaf_of sites from to) (direction_of sites from) turned_round sites
ordered (order.Drop from to) sites = change_channel (leaf_of sites from to) (direction_of sites from) emptied sites
ordered (order.Cut leaf) sites = sites
ordered (order.Join leaf) sites = sites

-- The tasks of an event. A link that is down already isn't cut, and one that is up isn't joined.
abbrev pub tasks_of : Moments → Net → Order → List Task
tasks_of m net (order.Call node c) = called m node c (named_stream c)
tasks_of m net (order.Carry from to count) = carried m net (leaf_of net.sites from to) (direction_of net.sites from) count
tasks_of m net (order.Lose from to count) = []
tasks_of m net (order.Repeat from to count) = []
tasks_of m net (order.Reverse from to) = []
tasks_of m net (order.Drop from to) = []
tasks_of m net (order.Cut leaf) = if net.world.joined leaf then turned m net leaf false else []
tasks_of m net (order.Join leaf) = if net.world.joined leaf then [] else turned m net leaf true

-- A call that is named comes first and gives the reply; nothing else is answered.
abbrev pub IsAnswered : Order → List Event → StepOutcome → Type 0
IsAnswered (order.Call node c) es (Reply reply) = (k : ℕ) × (rest : List Event) × (es ≡ Call node k c reply ∷ rest)
IsAnswered (order.Call node c) es Quiet = ⊥
IsAnswered other es (Reply reply) = ⊥
IsAnswered other es Quiet = ⊤

-- the net once what is ordered was ordered
abbrev pub with_ordered : Order → Net → Net
with_ordered o net = record { world = net.world; sites = ordered o net.sites }

-- These events are the step of what was asked for, which answers so.
pub record Steps (m : Moments) (o : Order) (old : Net) (es : List Event) (out : StepOutcome) (new : Net) : Type 0 where
  pub does : DoesAll (tasks_of m old o) (with_ordered o old) es new
  pub answers : IsAnswered o es out

-- there was no memory: these events are a first part of the step
abbrev pub StepsInPart : Moments → Order → Net → List Event → World → Type 0
StepsInPart m o old es last = DoesSome (tasks_of m old o) (with_ordered o old) es last

-- ---- what may be asked

-- one of the two is the hub
abbrev pub one_of_two : Bool → Bool → Bool
one_of_two true other = not other
one_of_two false other = other

-- the channel from the one to the other
abbrev pub channel_from : List Site → List ℕ → List ℕ → Channel
channel_from sites from to = channel_of sites (leaf_of sites from to) (direction_of sites from)

-- two nodes that are there, the hub and a leaf
pub record ArePair (net : Net) (from to : List ℕ) : Type 0 where
  pub from_there : Contains net.world.nodes from
  pub to_there : Contains net.world.nodes to
  pub pair : one_of_two (is_hub net.sites from) (is_hub net.sites to) ≡ true

-- a leaf that is there
pub record IsLeaf (net : Net) (leaf : List ℕ) : Type 0 where
  pub there : Contains net.world.nodes leaf
  pub no_hub : is_hub net.sites leaf ≡ false

-- the losses or repeats that are ordered on a channel stay within 4,096 with so many more
abbrev pub HasRoom : ℕ → ℕ → Type 0
HasRoom before count = before + count ≤ 4096

-- an event names nodes that are there, and a call that may be asked for
abbrev pub IsLegal : Net → Order → Type 0
IsLegal net (order.Call node c) = Contains net.world.nodes node × IsSome (named_stream c)
IsLegal net (order.Carry from to count) = ArePair net from to
IsLegal net (order.Lose from to count) = ArePair net from to × HasRoom (channel_from net.sites from to).losses count
IsLegal net (order.Repeat from to count) = ArePair net from to × HasRoom (channel_from net.sites from to).repeats count
IsLegal net (order.Reverse from to) = ArePair net from to
IsLegal net (order.Drop from to) = ArePair net from to
IsLegal net (order.Cut leaf) = IsLeaf net leaf
IsLegal net (order.Join leaf) = IsLeaf net leaf
