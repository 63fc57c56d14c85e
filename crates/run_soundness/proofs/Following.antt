-- What a copy that follows its decision writes, and the phase of its asker then.
use Rattle.std.proofs.Common.{ℕ, Bool, true, false, Option, Some, None}
use Rattle.js_wire.specs.declared.packet.Packet.{Packet}
use Rattle.stream_fold.specs.declared.decision.Decision.{Decision}
use Rattle.stream_fold.specs.declared.decision.Decision.TheVariants.{Store, Bind as Binds, Rebind, Skip, Ignore, AskAgain, Reply, Heard as Hears, Refused as IsRefused, Stop}
use Rattle.stream_fold.specs.declared.entry.Entry.{Entry}
use Rattle.replica_ask.specs.Askers.{bound_phase, took_phase, heard_phase}
use Rattle.replica_ask.specs.declared.phase.Phase.{Phase}
use Rattle.replica_ask.specs.declared.phase.Phase.TheVariants.{Stopped as IsStopped}
use Rattle.shard_machine.specs.Answers.{consumer_named}

-- the entry that is written
abbrev pub entry_by : Decision → Option Entry
entry_by (Store e) = Some e
entry_by (Binds e) = Some e
entry_by Rebind = None
entry_by Skip = None
entry_by (Ignore why) = None
entry_by (AskAgain why) = None
entry_by Reply = None
entry_by Hears = None
entry_by IsRefused = None
entry_by (Stop kept seen) = None

-- the phase then, unless the copy asks again
abbrev pub phase_by : Decision → Packet → ℕ → Phase → Phase
phase_by (Store e) packet now phase = took_phase now phase
phase_by (Binds e) packet now phase = bound_phase (consumer_named packet) now phase
phase_by Rebind packet now phase = bound_phase (consumer_named packet) now phase
phase_by Skip packet now phase = took_phase now phase
phase_by (Ignore why) packet now phase = phase
phase_by (AskAgain why) packet now phase = phase
phase_by Reply packet now phase = heard_phase now phase
phase_by Hears packet now phase = heard_phase now phase
phase_by IsRefused packet now phase = phase
phase_by (Stop kept seen) packet now phase = IsStopped kept seen

-- the copy asks again
abbrev pub asks_again : Decision → Bool
asks_again (Store e) = false
asks_again (Binds e) = false
asks_again Rebind = false
asks_again Skip = false
asks_again (Ignore why) = false
asks_again (AskAgain why) = true
asks_again Reply = false
asks_again Hears = false
asks_again IsRefused = false
asks_again (Stop kept seen) = false
