-- What holds of every net, from the one without nodes on.
use Rattle.std.specs.Prelude.{◌≡◌, ⊤, ℕ, Bool, true, List, [], ◌∷◌, ◌++◌, map, Some, Contains, slice_get}
use Rattle.js_wire.specs.declared.packet.Packet.{Packet}
use Rattle.run_soundness.specs.Shards.{ShardState, empty_held}
use Rattle.run_soundness.specs.Worlds.{World, MayCall, Begins}
use Rattle.world_steps.specs.declared.job.Job.{Job}
use Rattle.world_steps.specs.Links.{Site, Channel, Net, new_site}

-- a shard of this node was never loaded; its journal has the first 17 bytes alone
pub record IsUnused (node : List ℕ) (s : ShardState) : Type 0 where
  pub held : s.held ≡ empty_held node 17
  pub log : s.log ≡ []
  pub ever : s.ever ≡ []

-- no frame of a channel is under way but such as were sent
abbrev pub AreSent : World → Channel → Type 0
AreSent w c = (p : Packet) → Contains c.frames p → Contains w.bag p

-- the same of all links
abbrev pub AllSent : World → List Site → Type 0
AllSent w [] = ⊤
AllSent w (s ∷ sites) = AreSent w s.to_leaf × AreSent w s.to_hub × AllSent w sites

-- no name stands at two places
abbrev pub AreApart : List (List ℕ) → Type 0
AreApart names = (i j : ℕ) (name : List ℕ) → slice_get names i ≡ Some name → slice_get names j ≡ Some name → i ≡ j

-- the first node counts as one whose link is up
abbrev pub HubIsJoined : (List ℕ → Bool) → List (List ℕ) → Type 0
HubIsJoined joined [] = ⊤
HubIsJoined joined (hub ∷ leaves) = joined hub ≡ true

-- the names of nodes
abbrev pub names_of : List Site → List (List ℕ)
names_of sites = map (λ s. s.name) sites

-- The sites are the world's nodes, each once; the hub is in reach; what is under way was sent; and no shard but
-- those of the nodes was ever used.
pub record IsWhole (net : Net) : Type 0 where
  pub nodes : net.world.nodes ≡ names_of net.sites
  pub apart : AreApart (names_of net.sites)
  pub hub : HubIsJoined net.world.joined (names_of net.sites)
  pub sent : AllSent net.world net.sites
  pub unused : (node : List ℕ) (k : ℕ) → (Contains net.world.nodes node → ⊥) → IsUnused node (net.world.shard node k)

-- there is no node, and no packet was sent
pub record IsNew (net : Net) : Type 0 where
  pub sites : net.sites ≡ []
  pub nodes : net.world.nodes ≡ []
  pub bag : net.world.bag ≡ []
  pub unused : (node : List ℕ) (k : ℕ) → IsUnused node (net.world.shard node k)

-- A node is made, with shards that load for the first time. Its link is up.
pub record AddsNode (node : List ℕ) (old new : Net) : Type 0 where
  pub begins : Begins old.world node new.world
  pub joined : new.world.joined node ≡ true
  pub sites : new.sites ≡ old.sites ++ new_site node ∷ []

-- each of these calls may be made at a node
abbrev pub MayAll : List Packet → List ℕ → List Job → Type 0
MayAll bag at [] = ⊤
MayAll bag at (j ∷ js) = MayCall bag j.call at j.shard × MayAll bag at js
