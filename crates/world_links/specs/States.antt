-- What the links of a star of nodes are, as contracts see them.
use Rattle.std.specs.Prelude.{◌≡◌, ◌⊎◌, ℕ, Bool, true, false, List, [], map, find, Option, Some, None, slice_get, slice_set, if◌then◌else◌}
use Rattle.std.specs.Str.{bytes_eq}
use Rattle.js_wire.specs.declared.packet.Packet.{Packet}
use Rattle.shard_machine.specs.declared.call.ShardCall.{ShardCall}
use Rattle.shard_machine.specs.declared.call.ShardCall.TheVariants as call
use Rattle.world_steps.specs.declared.event.Direction.{Direction}
use Rattle.world_steps.specs.declared.event.Direction.TheVariants.{ToLeaf, ToHub}
use Rattle.world_steps.specs.declared.job.Job.{Job}
use Rattle.world_steps.specs.Links.{Channel, Site, new_site, channel_of, change_channel, with_channel, with_frame}
use Rattle.world_steps.specs.Routes.{Due, Moments}
use Rattle.world_steps.specs.Settling.{Lane, is_busy}
use Rattle.world_links.specs.declared.jobs.Kind.{Kind}
use Rattle.world_links.specs.declared.jobs.Kind.TheVariants.{Asks, Answers, Tells}

-- a node with its link, and whether the link is up
pub record LinkState : Type 0 where
  pub site : Site
  pub joined : Bool

-- the nodes, and what is under way
abbrev pub sites_in : List LinkState → List Site
sites_in links = map (λ l. l.site) links

-- the names of the nodes
abbrev pub names_in : List LinkState → List (List ℕ)
names_in links = map (λ l. l.site.name) links

-- the link has this name
abbrev pub is_named : List ℕ → LinkState → Bool
is_named name l = bytes_eq l.site.name name

-- a link is up, where there is one
abbrev pub is_up : Option LinkState → Bool
is_up None = false
is_up (Some l) = l.joined

-- which nodes have a link that is up
abbrev pub joined_in : List LinkState → List ℕ → Bool
joined_in links name = is_up (find (is_named name) links)

-- the link of the node at a place is up
abbrev pub is_up_at : List LinkState → ℕ → Bool
is_up_at links place = is_up (slice_get links place)

-- the name of a node, where there is one
abbrev pub name_of : Option LinkState → List ℕ
name_of None = []
name_of (Some l) = l.site.name

-- the name of the node that stands at a place
abbrev pub name_at : List LinkState → ℕ → List ℕ
name_at links at = name_of (slice_get links at)

-- a node that was just made, whose link is up
abbrev pub new_link : List ℕ → LinkState
new_link name = record { site = new_site name; joined = true }

-- one direction of a link changes so
abbrev pub on_channel : Direction → (Channel → Channel) → LinkState → LinkState
on_channel direction change l = record { site = with_channel direction change l.site; joined = l.joined }

-- what is under way, and the calls that are due
abbrev pub due : List LinkState → List Job → Due
due links due_jobs = record { sites = sites_in links; jobs = due_jobs }

-- the same nodes have a link that is up
abbrev pub SameJoined : List LinkState → List LinkState → Type 0
SameJoined old new = (name : List ℕ) → joined_in new name ≡ joined_in old name

-- the moments of what a node does
abbrev pub moments : ℕ → ℕ → Moments
moments clock time = record { now = clock; timer = time }

-- the call that a packet of this kind makes
abbrev pub call_by : Kind → ℕ → Packet → ShardCall
call_by Asks now p = call.MakeConsumer p now
call_by Answers now p = call.FlowReply p
call_by Tells now p = call.Heard p now

-- one direction of the link of the node at a place
abbrev pub channel_at : List LinkState → ℕ → Direction → Channel
channel_at links place direction = channel_of (sites_in links) (name_at links place) direction

-- One direction of the link of the node at a place changes so; all else stays.
pub record Changes (place : ℕ) (direction : Direction) (change : Channel → Channel) (old new : List LinkState) : Type 0 where
  pub sites : sites_in new ≡ change_channel (name_at old place) direction change (sites_in old)
  pub joined : SameJoined old new

-- The link of the node at a place is up from now on, or down; all else stays.
pub record TurnsAt (place : ℕ) (up : Bool) (old new : List LinkState) : Type 0 where
  pub sites : sites_in new ≡ sites_in old
  pub now : joined_in new (name_at old place) ≡ up
  pub others : (n : List ℕ) → (n ≡ name_at old place) ⊎ (joined_in new n ≡ joined_in old n)

-- a direction of the link of the node at a place
abbrev pub lane_at : List LinkState → ℕ → Direction → Lane
lane_at links place direction = record { leaf = name_at links place; direction = direction }

-- a packet goes behind the frames of a link that is up
abbrev pub pushed : Direction → Packet → LinkState → LinkState
pushed direction p l = if l.joined then on_channel direction (with_frame p) l else l

-- the same of the link at a place
abbrev pub pushed_if : List LinkState → ℕ → Direction → Packet → Option LinkState → List LinkState
pushed_if links place direction p None = links
pushed_if links place direction p (Some l) = slice_set links place (pushed direction p l)

-- the same of the link at a place, where there is one
abbrev pub pushed_at : ℕ → Direction → Packet → List LinkState → List LinkState
pushed_at place direction p links = pushed_if links place direction p (slice_get links place)

-- the direction of a link that is up and has frames under way, the one to the leaf before that to the hub
abbrev pub busy_way : LinkState → Option Direction
busy_way l = if l.joined then (if is_busy l.site.to_leaf then Some ToLeaf else if is_busy l.site.to_hub then Some ToHub else None) else None
