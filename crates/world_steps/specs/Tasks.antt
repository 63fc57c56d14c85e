-- What the nodes do in a step, one task after another.
use Rattle.std.specs.Prelude.{◌≡◌, ◌⊎◌, ℕ, Bool, true, false, List, [], ◌∷◌, ◌++◌, Option, Some, None}
use Rattle.js_wire.specs.declared.packet.Packet.{Packet}
use Rattle.run_soundness.specs.Worlds.{World, Event, Links}
use Rattle.run_soundness.specs.Worlds.Event.{Cut, Join}
use Rattle.world_steps.specs.declared.event.Direction.{Direction}
use Rattle.world_steps.specs.declared.event.Direction.TheVariants.{ToLeaf, ToHub}
use Rattle.world_steps.specs.declared.job.Job.{Job}
use Rattle.world_steps.specs.Links.{Site, Net, hub_name, channel_of, change_channel, after_carry, arriving}
use Rattle.world_steps.specs.Routes.{Moments, Due, routed}
use Rattle.world_steps.specs.Works.{WorksOff, WorksInPart}

-- A node makes these calls at its shards, with all that they bring; the first frame that is under way to a leaf, or
-- from it, is carried; the link of a leaf goes up, or down.
pub data Task : Type 0 where
  Work : Moments → List ℕ → List Job → Task
  CarryOne : Moments → List ℕ → Direction → Task
  Turn : List ℕ → Bool → Task

-- ---- a frame is carried

-- the node to which frames of this direction come
abbrev pub receiver : List Site → List ℕ → Direction → List ℕ
receiver sites leaf ToLeaf = leaf
receiver sites leaf ToHub = hub_name sites

-- what is due at a node to which a packet comes
abbrev pub due_by : Moments → Net → List ℕ → Packet → Due
due_by m net at p = routed m.now net.world.joined at p (record { sites = net.sites; jobs = [] })

-- the same with its sites
abbrev pub come_to : Moments → Net → List ℕ → Packet → Net
come_to m net at p = record { world = net.world; sites = (due_by m net at p).sites }

-- The node does what the packet brings. Nothing happens where none comes.
abbrev pub Arrives : Moments → Net → List ℕ → Option Packet → List Event → Net → Type 0
Arrives m net at None es new = (es ≡ []) × (new ≡ net)
Arrives m net at (Some p) es new = WorksOff m at (come_to m net at p) (due_by m net at p).jobs es new

-- the same, broken off for want of memory
abbrev pub ArrivesInPart : Moments → Net → List ℕ → Option Packet → List Event → World → Type 0
ArrivesInPart m net at None es last = (es ≡ []) × (last ≡ net.world)
ArrivesInPart m net at (Some p) es last = WorksInPart m at (come_to m net at p) (due_by m net at p).jobs es last

-- once the first frame was taken
abbrev pub without_frame : Net → List ℕ → Direction → Net
without_frame net leaf direction = record { world = net.world; sites = change_channel leaf direction after_carry net.sites }

-- ---- a link goes up or down

-- the event of it
abbrev pub link_event : List ℕ → Bool → Event
link_event leaf true = Join leaf
link_event leaf false = Cut leaf

-- the link is up then, or down
pub record Turns (leaf : List ℕ) (up : Bool) (old : Net) (es : List Event) (new : Net) : Type 0 where
  pub event : es ≡ link_event leaf up ∷ []
  pub links : Links old.world leaf up new.world
  pub sites : new.sites ≡ old.sites

-- ---- tasks

-- these events are the task
abbrev pub Does : Task → Net → List Event → Net → Type 0
Does (Work m at jobs) old es new = WorksOff m at old jobs es new
Does (CarryOne m leaf direction) old es new =
    Arrives m (without_frame old leaf direction) (receiver old.sites leaf direction) (arriving (channel_of old.sites leaf direction)) es new
Does (Turn leaf up) old es new = Turns leaf up old es new

-- these events are a first part of the task, which was broken off for want of memory
abbrev pub DoesInPart : Task → Net → List Event → World → Type 0
DoesInPart (Work m at jobs) old es last = WorksInPart m at old jobs es last
DoesInPart (CarryOne m leaf direction) old es last =
    ArrivesInPart m (without_frame old leaf direction) (receiver old.sites leaf direction) (arriving (channel_of old.sites leaf direction)) es last
DoesInPart (Turn leaf up) old es last = (es ≡ []) × (last ≡ old.world)

-- these events are all of the tasks, one after another
abbrev pub DoesAll : List Task → Net → List Event → Net → Type 0
DoesAll [] old es new = (es ≡ []) × (new ≡ old)
DoesAll (t ∷ ts) old es new = (first : List Event) × (rest : List Event) × (mid : Net) × (es ≡ first ++ rest) × Does t old first mid × DoesAll ts mid rest new

-- these events are some first tasks, and perhaps a first part of the next
abbrev pub DoesSome : List Task → Net → List Event → World → Type 0
DoesSome [] old es last = (es ≡ []) × (last ≡ old.world)
DoesSome (t ∷ ts) old es last =
    ((es ≡ []) × (last ≡ old.world))
    ⊎ (DoesInPart t old es last
    ⊎ ((first : List Event) × (rest : List Event) × (mid : Net) × (es ≡ first ++ rest) × Does t old first mid × DoesSome ts mid rest last))
