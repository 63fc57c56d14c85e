-- What a copy of this node decides about a packet to it. No public clause says this.
use Rattle.std.specs.Prelude.{◌≡◌, ⊤, ℕ, true, List, Option, Some}
use Rattle.std.specs.Str.{bytes_eq}
use Rattle.js_wire.specs.declared.packet.AskerId.{AskerId}
use Rattle.js_wire.specs.declared.packet.Packet.{Packet}
use Rattle.mirror_core.specs.Entries.{IfEntry}
use Rattle.stream_fold.specs.declared.decision.Decision.{Decision}
use Rattle.stream_fold.specs.declared.decision.Decision.TheVariants.{Store, Bind, Rebind, Skip, Ignore, AskAgain, Reply, Heard, Refused, Stop}
use Rattle.replica_ask.specs.Askers.{with_phase}
use Rattle.stream_fold.specs.Facts.{FitsFacts}
use Rattle.shard_machine.specs.Legal.{HasFaultless}
use Rattle.shard_machine.specs.Images.{NameFacts, live_in}
use Rattle.shard_machine.specs.Views.{View, Askers, Copy, asker_of, copies_under, with_asker}
use Rattle.shard_machine.specs.Answers.{addressee}
use Rattle.shard_copies.specs.Asked.{copy_at, decided_at, phase_behind}

-- a packet for this asker, of this node, is decided about so; an entry that it brings may come next in the
-- stream
pub record IsHeard (v : View) (id : AskerId) (decision : Decision) (packet : Packet) (now : ℕ) : Type 0 where
  pub addressed : addressee packet ≡ Some id
  pub here : bytes_eq id.node v.node ≡ true
  pub decided : decision ≡ decided_at v now packet (copy_at id.index (copies_under v.image id.stream))
  pub known : NameFacts
  pub stands : live_in v.image id.stream ≡ Some known
  pub fits : IfEntry (FitsFacts known.stream) decision
  pub faultless : IfEntry HasFaultless decision

-- the copy's asker is in another phase, and nothing is sent or told
abbrev pub MovesOn : Decision → Type 0
MovesOn (Store entry) = ⊥
MovesOn (Bind entry) = ⊥
MovesOn Rebind = ⊤
MovesOn Skip = ⊤
MovesOn (Ignore reason) = ⊥
MovesOn (AskAgain why) = ⊥
MovesOn Reply = ⊥
MovesOn Heard = ⊤
MovesOn Refused = ⊥
MovesOn (Stop kept seen) = ⊥

-- the askers once a copy followed its decision about a packet
abbrev pub moved_on : View → Copy → Decision → Packet → ℕ → Askers
moved_on v c decision packet now = with_asker c.stream c.index (with_phase (asker_of v c) (phase_behind decision packet now (asker_of v c).phase)) v.askers
