-- How askers are changed in a list of askers. No public clause says this.
use Rattle.std.specs.Prelude.{ℕ, suc, Bool, true, List, [], ◌∷◌, if◌then◌else◌}
use Rattle.js_wire.specs.declared.packet.AskerId.{AskerId}
use Rattle.replica_ask.specs.Askers.{AskerState}
use Rattle.replica_ask.specs.Askers.{is_due, with_phase}
use Rattle.std.specs.Str.{bytes_eq}
use Rattle.js_wire.specs.declared.packet.Packet.{Packet}
use Rattle.stream_fold.specs.declared.decision.Decision.{Decision}
use Rattle.shard_machine.specs.Views.{View, Copy, asker_of, node_or}
use Rattle.shard_copies.specs.declared.chosen.Chosen.{Chosen}
use Rattle.shard_copies.specs.declared.chosen.Chosen.TheVariants as chosen_as
use Rattle.shard_copies.specs.Asked.{is_of, phase_behind}

-- the place of the asker of this name, or one past the last
abbrev pub place_in : AskerId → List AskerState → ℕ
place_in id [] = 0
place_in id (a ∷ others) = if is_of id a then 0 else suc (place_in id others)

-- the first asker of this name is changed so, where there is one
abbrev pub changed_in : AskerId → (AskerState → AskerState) → List AskerState → List AskerState
changed_in id change [] = []
changed_in id change (a ∷ others) = if is_of id a then change a ∷ others else a ∷ changed_in id change others

-- an asker in the place of the first one of its name, where there is one
abbrev pub put_in : AskerState → List AskerState → List AskerState
put_in one all = changed_in one.id (λ _. one) all

-- these askers, one after another
abbrev pub put_all : List AskerState → List AskerState → List AskerState
put_all [] all = all
put_all (one ∷ ones) all = put_all ones (put_in one all)

-- an asker once its copy followed a decision
abbrev pub moved_on : Decision → Packet → ℕ → AskerState → AskerState
moved_on d packet now a = with_phase a (phase_behind d packet now a.phase)

-- a copy is one of those that are meant
abbrev pub is_chosen : Chosen → View → ℕ → Copy → Bool
is_chosen chosen_as.All v now c = true
is_chosen chosen_as.Due v now c = is_due now (asker_of v c).phase
is_chosen (chosen_as.OfNode node) v now c = bytes_eq (node_or v.node c.want.node) node
