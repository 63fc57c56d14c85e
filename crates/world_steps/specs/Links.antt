-- The links of a star of nodes: what is under way on them, and what is still to be lost or repeated.
use Rattle.std.specs.Prelude.{ℕ, zero, suc, ◌+◌, ◌-◌, Bool, false, if◌then◌else◌, List, [], ◌∷◌, ◌++◌, map, find, reverse, Option, Some, None}
use Rattle.std.specs.Str.{bytes_eq}
use Rattle.js_wire.specs.declared.packet.Packet.{Packet}
use Rattle.run_soundness.specs.Worlds.{World}
use Rattle.world_steps.specs.declared.event.Direction.{Direction}
use Rattle.world_steps.specs.declared.event.Direction.TheVariants.{ToLeaf, ToHub}

-- One direction of a link: the frames under way, the first of which comes first, how many of those that are carried
-- next are to be lost, and how many are to stay under way as well.
pub record Channel : Type 0 where
  pub frames : List Packet
  pub losses : ℕ
  pub repeats : ℕ

-- nothing is under way, and nothing is to be lost or repeated
abbrev pub empty_channel : Channel
empty_channel = record { frames = []; losses = 0; repeats = 0 }

-- A node, and the two directions of its link with the hub. The hub has none with itself: its channels stay empty.
pub record Site : Type 0 where
  pub name : List ℕ
  pub to_leaf : Channel
  pub to_hub : Channel

-- a node that was just made
abbrev pub new_site : List ℕ → Site
new_site made = record { name = made; to_leaf = empty_channel; to_hub = empty_channel }

-- A world, and beside it its nodes in the order in which they were made. The first is the hub, the others are
-- leaves.
pub record Net : Type 0 where
  pub world : World
  pub sites : List Site

-- ---- looking up

-- the node is the hub
abbrev pub is_hub : List Site → List ℕ → Bool
is_hub [] name = false
is_hub (hub ∷ leaves) name = bytes_eq hub.name name

-- the name of the hub
abbrev pub hub_name : List Site → List ℕ
hub_name [] = []
hub_name (hub ∷ leaves) = hub.name

-- the site of a node
abbrev pub site_of : List Site → List ℕ → Option Site
site_of sites name = find (λ s. bytes_eq s.name name) sites

-- one direction of a node's link
abbrev pub channel : Direction → Site → Channel
channel ToLeaf s = s.to_leaf
channel ToHub s = s.to_hub

-- the same, if the node is there
abbrev pub channel_if : Direction → Option Site → Channel
channel_if direction None = empty_channel
channel_if direction (Some s) = channel direction s

-- one direction of the link of a leaf
abbrev pub channel_of : List Site → List ℕ → Direction → Channel
channel_of sites leaf direction = channel_if direction (site_of sites leaf)

-- ---- changes

-- one direction of a node's link changes so
abbrev pub with_channel : Direction → (Channel → Channel) → Site → Site
with_channel ToLeaf change s = record { name = s.name; to_leaf = change s.to_leaf; to_hub = s.to_hub }
with_channel ToHub change s = record { name = s.name; to_leaf = s.to_leaf; to_hub = change s.to_hub }

-- the site changes so where it is of this node
abbrev pub changed_if : List ℕ → (Site → Site) → Site → Site
changed_if name change s = if bytes_eq s.name name then change s else s

-- one direction of the link of a leaf changes so; all else stays
abbrev pub change_channel : List ℕ → Direction → (Channel → Channel) → List Site → List Site
change_channel leaf direction change sites = map (changed_if leaf (with_channel direction change)) sites

-- a frame goes behind those under way
abbrev pub with_frame : Packet → Channel → Channel
with_frame p c = record { frames = c.frames ++ p ∷ []; losses = c.losses; repeats = c.repeats }

-- so many frames more are to be lost
abbrev pub losing : ℕ → Channel → Channel
losing count c = record { frames = c.frames; losses = c.losses + count; repeats = c.repeats }

-- so many frames more are to stay under way as well
abbrev pub repeating : ℕ → Channel → Channel
repeating count c = record { frames = c.frames; losses = c.losses; repeats = c.repeats + count }

-- the last frame comes first
abbrev pub turned_round : Channel → Channel
turned_round c = record { frames = reverse c.frames; losses = c.losses; repeats = c.repeats }

-- nothing is under way any more
abbrev pub emptied : Channel → Channel
emptied c = record { frames = []; losses = c.losses; repeats = c.repeats }

-- ---- carrying

-- a carried frame goes behind the others once more, where it is to stay under way
abbrev pub once_more : ℕ → Packet → List Packet
once_more zero p = []
once_more (suc n) p = p ∷ []

-- a carried frame comes, unless it is lost
abbrev pub unless_lost : ℕ → Packet → Option Packet
unless_lost zero p = Some p
unless_lost (suc n) p = None

-- what stays of a channel of which this first frame is carried, before these others
abbrev pub without_first : Packet → List Packet → Channel → Channel
without_first p ps c = record { frames = ps ++ once_more c.repeats p; losses = c.losses - 1; repeats = c.repeats - 1 }

-- what stays of a channel with these frames once the first was carried
abbrev pub after_first : List Packet → Channel → Channel
after_first [] c = c
after_first (p ∷ ps) c = without_first p ps c

-- what stays of a channel once its first frame was carried
abbrev pub after_carry : Channel → Channel
after_carry c = after_first c.frames c

-- the first of these frames comes, unless it is lost
abbrev pub first_arriving : List Packet → ℕ → Option Packet
first_arriving [] losses = None
first_arriving (p ∷ ps) losses = unless_lost losses p

-- the frame that comes where a channel's first frame is carried
abbrev pub arriving : Channel → Option Packet
arriving c = first_arriving c.frames c.losses
