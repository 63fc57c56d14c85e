-- The askers of a shard: which asker a look-up finds, which view has the same ones, and what copies ask.
use Rattle.std.specs.Prelude.{◌≡◌, ℕ, ◌==◌, Bool, ◌&&◌, List, [], ◌∷◌, ◌++◌, map, filter, find, if◌then◌else◌, Option, None, Some, IsSome, ⊤}
use Rattle.std.specs.Str.{bytes_eq}
use Rattle.std.specs.FinMap.{get}
use Rattle.nats_text.specs.declared.origin.Origin.{Origin}
use Rattle.js_wire.specs.declared.packet.AskerId.{AskerId}
use Rattle.js_wire.specs.declared.packet.Packet.{Packet}
use Rattle.stream_fold.specs.declared.decision.Decision.{Decision}
use Rattle.stream_fold.specs.declared.decision.Decision.TheVariants.{Store, Bind as Binds, Rebind, Skip, Ignore, AskAgain, Reply, Heard as Hears, Refused as IsRefused, Stop}
use Rattle.stream_fold.specs.declared.decision.Reason.TheVariants.{Foreign}
use Rattle.stream_fold.specs.Facts.{StreamFacts}
use Rattle.replica_ask.specs.Askers.{AskerState, new_asker, with_phase, asking, bound_phase, took_phase, heard_phase, is_due}
use Rattle.replica_ask.specs.declared.phase.Phase.{Phase}
use Rattle.replica_ask.specs.declared.phase.Phase.TheVariants.{Idle, Stopped as IsStopped}
use Rattle.shard_machine.specs.Views.{View, Askers, Copy, askers_of, asker_or_new, asker_of, asks_of, node_or}
use Rattle.shard_machine.specs.Answers.{consumer_named, decided_by}
use Rattle.shard_copies.specs.declared.chosen.Chosen.{Chosen}
use Rattle.shard_copies.specs.declared.chosen.Chosen.TheVariants as chosen_as

-- ---- look-ups

-- The node, the number of the shard's last opening, and the askers that were ever made since. No word
-- depends on the order in which they stand.
pub record AskersState : Type 0 where
  pub node : List ℕ
  pub boot : ℕ
  pub all : List AskerState

-- an asker has this name
abbrev pub is_of : AskerId → AskerState → Bool
is_of id a = (a.id.index == id.index) && bytes_eq a.id.stream id.stream && bytes_eq a.id.node id.node

-- the name of the asker of a stream and an index
abbrev pub id_in : AskersState → List ℕ → ℕ → AskerId
id_in s stream index = record { node = s.node; stream = stream; index = index }

-- the asker of a stream and an index; one that isn't there has asked nothing
abbrev pub shown : AskersState → List ℕ → ℕ → AskerState
shown s stream index = asker_or_new (id_in s stream index) s.boot (find (is_of (id_in s stream index)) s.all)

-- The askers are those of a view of this node and opening: each look-up finds the same one.
pub record ShowsAskers (s : AskersState) (v : View) (askers : Askers) : Type 0 where
  pub node : s.node ≡ v.node
  pub boot : s.boot ≡ v.image.boot
  pub each : (stream : List ℕ) (index : ℕ) → shown s stream index ≡ asker_or_new (id_in s stream index) s.boot (get (askers_of askers stream) index)

-- each look-up finds what it found before
pub record ShowsSame (old new : AskersState) : Type 0 where
  pub node : new.node ≡ old.node
  pub boot : new.boot ≡ old.boot
  pub each : (stream : List ℕ) (index : ℕ) → shown new stream index ≡ shown old stream index

-- ---- copies that ask

-- the packets that are to be sent, and the askers as they are once those are sent
pub record AskingState : Type 0 where
  pub packets : List Packet
  pub askers : List AskerState

-- each of these askers has its place among those
abbrev pub HavePlaces : List AskerState → List AskerState → Type 0
HavePlaces all [] = ⊤
HavePlaces all (one ∷ ones) = IsSome (find (is_of one.id) all) × HavePlaces all ones

-- the askers that ask have their places
abbrev pub AreKept : AskersState → AskingState → Type 0
AreKept s a = HavePlaces s.all a.askers

-- the copy of an origin by its stream, its index and the facts of its stream
abbrev pub copy_of : List ℕ → ℕ → StreamFacts → Origin → Copy
copy_of name number f origin = record { stream = name; index = number; facts = f; want = origin }

-- those of a stream's copies that are meant
abbrev pub chosen : Chosen → View → ℕ → List Copy → List Copy
chosen chosen_as.All v now copies = copies
chosen chosen_as.Due v now copies = filter (λ c. is_due now (asker_of v c).phase) copies
chosen (chosen_as.OfNode node) v now copies = filter (λ c. bytes_eq (node_or v.node c.want.node) node) copies

-- the asker of a copy once it has asked at this moment
abbrev pub asked_of : View → ℕ → Copy → AskerState
asked_of v now c = asking (asker_of v c) now

-- these copies ask at this moment, behind those that asked before
pub record Asks (old new : AskingState) (v : View) (now : ℕ) (copies : List Copy) : Type 0 where
  pub packets : new.packets ≡ old.packets ++ asks_of v copies
  pub askers : new.askers ≡ old.askers ++ map (asked_of v now) copies

-- ---- copies that decide

-- the copy of this index
abbrev pub copy_at : ℕ → List Copy → Option Copy
copy_at index copies = find (λ c. c.index == index) copies

-- what a copy decides about a packet to it; a packet for a copy that isn't there is foreign
abbrev pub decided_at : View → ℕ → Packet → Option Copy → Decision
decided_at v now packet None = Ignore Foreign
decided_at v now packet (Some c) = decided_by c.facts.config.copies v c now packet

-- the phase of an asker once its copy followed a decision; one that asks again is counted as asked apart
abbrev pub phase_behind : Decision → Packet → ℕ → Phase → Phase
phase_behind (Store e) packet now phase = took_phase now phase
phase_behind (Binds e) packet now phase = bound_phase (consumer_named packet) now phase
phase_behind Rebind packet now phase = bound_phase (consumer_named packet) now phase
phase_behind Skip packet now phase = took_phase now phase
phase_behind (Ignore why) packet now phase = phase
phase_behind (AskAgain why) packet now phase = phase
phase_behind Reply packet now phase = heard_phase now phase
phase_behind Hears packet now phase = heard_phase now phase
phase_behind IsRefused packet now phase = phase
phase_behind (Stop kept seen) packet now phase = IsStopped kept seen
