-- Askers: which attempt is next, the phases, and when an asker is due.
use Rattle.std.specs.Prelude.{ℕ, ◌+◌, ◌-◌, ◌^◌, min, Bool, true, false, ◌||◌, nat_le, ⊤}
use Rattle.js_wire.specs.declared.packet.AskerId.{AskerId}
use Rattle.nats_text.specs.declared.message.Stamp.{Stamp}
use Rattle.replica_ask.specs.declared.phase.Phase.{Phase}
use Rattle.replica_ask.specs.declared.phase.Phase.TheVariants.{Idle, Asking, Bound, Stopped}

-- which copy it is, the boot of its shard, how many attempts it has given, and its phase
pub record AskerState : Type 0 where
  pub id : AskerId
  pub boot : ℕ
  pub attempts : ℕ
  pub phase : Phase

-- an asker that has asked nothing yet
abbrev pub new_asker : AskerId → ℕ → AskerState
new_asker asker boot_number = record { id = asker; boot = boot_number; attempts = 0; phase = Idle }

-- the asker in another phase
abbrev pub with_phase : AskerState → Phase → AskerState
with_phase a new_phase = record a { phase = new_phase }

-- the attempt that it gives next
abbrev pub next_attempt : AskerState → Stamp
next_attempt a = record { boot = a.boot; count = a.attempts + 1 }

-- the asker once it has asked at this moment
abbrev pub asking : AskerState → ℕ → AskerState
asking a now = record a { attempts = a.attempts + 1; phase = Asking (next_attempt a) now }

-- an attempt isn't answered yet
abbrev pub IsAsking : Phase → Type 0
IsAsking Idle = ⊥
IsAsking (Asking attempt since) = ⊤
IsAsking (Bound attempt consumer next heard) = ⊥
IsAsking (Stopped kept seen) = ⊥

-- a consumer is bound
abbrev pub IsBound : Phase → Type 0
IsBound Idle = ⊥
IsBound (Asking attempt since) = ⊥
IsBound (Bound attempt consumer next heard) = ⊤
IsBound (Stopped kept seen) = ⊥

-- the answer of a consumer, whose first delivery has the number 1
abbrev pub bound_phase : Stamp → ℕ → Phase → Phase
bound_phase answering now Idle = Idle
bound_phase answering now (Asking attempt since) = Bound attempt answering 1 now
bound_phase answering now (Bound attempt consumer next heard) = Bound attempt consumer next heard
bound_phase answering now (Stopped kept seen) = Stopped kept seen

-- the delivery that was awaited came; the number stands still at the end of 64 bits
abbrev pub took_phase : ℕ → Phase → Phase
took_phase now Idle = Idle
took_phase now (Asking attempt since) = Asking attempt since
took_phase now (Bound attempt consumer next heard) = Bound attempt consumer (min (next + 1) (2 ^ 64 - 1)) now
took_phase now (Stopped kept seen) = Stopped kept seen

-- something of the consumer came
abbrev pub heard_phase : ℕ → Phase → Phase
heard_phase now Idle = Idle
heard_phase now (Asking attempt since) = Asking attempt since
heard_phase now (Bound attempt consumer next heard) = Bound attempt consumer next now
heard_phase now (Stopped kept seen) = Stopped kept seen

-- two moments are 10 seconds or more apart
abbrev pub is_away : ℕ → ℕ → Bool
is_away moment now = nat_le (moment + 10000000000) now || nat_le (now + 10000000000) moment

-- nothing is asked, or the last word is too long ago, or lies so far ahead
abbrev pub is_due : ℕ → Phase → Bool
is_due now Idle = true
is_due now (Asking attempt since) = is_away since now
is_due now (Bound attempt consumer next heard) = is_away heard now
is_due now (Stopped kept seen) = false
