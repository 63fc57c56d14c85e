-- What a node does with the calls that are due: it makes each in turn, with all that it brings.
use Rattle.std.specs.Prelude.{◌≡◌, ℕ, Bool, true, false, List, [], ◌∷◌, ◌++◌}
use Rattle.shard_machine.specs.declared.call.ShardCall.{ShardCall}
use Rattle.shard_machine.specs.declared.reply.Outcome.{Outcome}
use Rattle.shard_machine.specs.declared.reply.Outcome.TheVariants as outcome
use Rattle.shard_machine.specs.declared.reply.ShardRefusal.{ShardRefusal}
use Rattle.shard_machine.specs.declared.reply.ShardRefusal.TheVariants as refusal
use Rattle.shard_machine.specs.declared.reply.ShardReply.{ShardReply}
use Rattle.run_soundness.specs.Worlds.{World, Event, Calls}
use Rattle.run_soundness.specs.Worlds.Event.{Call}
use Rattle.world_steps.specs.declared.job.Job.{Job}
use Rattle.world_steps.specs.Links.{Site, Net}
use Rattle.world_steps.specs.Routes.{Moments, Due, all_routed, followers}

-- the refusal is one for want of memory, or of a disk
abbrev pub is_want : ShardRefusal → Bool
is_want (refusal.JournalFull end need) = true
is_want (refusal.BadJournal place) = true
is_want refusal.NoMemory = true
is_want refusal.DiskFault = true
is_want _ = false

-- the call failed for want of memory, or of a disk; all else is an answer
abbrev pub has_failed : Outcome → Bool
has_failed (outcome.Refused why) = is_want why
has_failed _ = false

-- what is due once a call of a node was answered so: what follows it comes first, then what was due, then what its
-- packets bring
abbrev pub due_then : Moments → World → List ℕ → ShardCall → ShardReply → List Site → List Job → Due
due_then m w at c reply sites jobs = all_routed m.now w.joined at reply.packets (record { sites = sites; jobs = followers m c reply.outcome ++ jobs })

-- what there is, and the calls that are due at a node
pub record Working : Type 0 where
  pub world : World
  pub due : Due

-- the world, what is under way and what is due
abbrev pub working : World → List Site → List Job → Working
working w sites jobs = record { world = w; due = record { sites = sites; jobs = jobs } }

-- These events are calls that were due at a node, one after another, with all that they brought, and lead so far.
abbrev pub Works : Moments → List ℕ → World → List Site → List Job → List Event → Working → Type 0
Works m at w sites jobs [] end = end ≡ working w sites jobs
Works m at w sites [] (e ∷ es) end = ⊥
Works m at w sites (j ∷ js) (e ∷ es) end =
    (reply : ShardReply) × (next : World)
    × (e ≡ Call at j.shard j.call reply) × (has_failed reply.outcome ≡ false) × Calls w at j.shard j.call reply next
    × Works m at next (due_then m next at j.call reply sites js).sites (due_then m next at j.call reply sites js).jobs es end

-- all that was due was done
abbrev pub WorksOff : Moments → List ℕ → Net → List Job → List Event → Net → Type 0
WorksOff m at old jobs es new = Works m at old.world old.sites jobs es (working new.world new.sites [])

-- A call failed: nothing was due, or it is the one event of the next call.
abbrev pub Fails : List ℕ → World → List Job → List Event → World → Type 0
Fails at w jobs [] last = last ≡ w
Fails at w [] (e ∷ es) last = ⊥
Fails at w (j ∷ js) (e ∷ es) last =
    (reply : ShardReply) × (es ≡ []) × (e ≡ Call at j.shard j.call reply) × (has_failed reply.outcome ≡ true) × Calls w at j.shard j.call reply last

-- there was no memory: some first calls were made, of which the last may have failed
pub record WorksInPart (m : Moments) (at : List ℕ) (old : Net) (jobs : List Job) (es : List Event) (last : World) : Type 0 where
  pub made : List Event
  pub failed : List Event
  pub events : es ≡ made ++ failed
  pub mid : Working
  pub works : Works m at old.world old.sites jobs made mid
  pub fails : Fails at mid.world mid.due.jobs failed last
