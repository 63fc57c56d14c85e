-- What is held of a log while it is read, name by name.
use Rattle.std.specs.Prelude.{◌≡◌, ℕ, Bool, true, false, List, [], ◌∷◌, ◌++◌, length, map, take, slice_get, Option, None, Some, Result, Ok, Err}
use Rattle.std.specs.Cmp.Lexicographic.{slice_cmp}
use Rattle.std.specs.Ordering.{nat_cmp}
use Rattle.std.specs.BTreeMap.{BTreeMap, get_by}
use Rattle.std.specs.Global.{Vec}
use Rattle.stream_fold.specs.Held.{StandsFor}
use Rattle.nats_text.specs.declared.fault.NoMemory.{NoMemory}
use Rattle.record_codec.specs.declared.records.Rec.{Rec}
use Rattle.record_codec.specs.Spelling.{spelling}
use Rattle.log_replay.specs.declared.replay.Known.{Known}
use Rattle.log_replay.specs.declared.replay.Standing.{Standing}
use Rattle.log_replay.specs.declared.replay.Replay.{Replay}
use Rattle.log_replay.specs.declared.replay.Replayed.{Replayed}
use Rattle.log_replay.specs.declared.replay.Replayed.TheVariants.{Log, Stops}
use Rattle.shard_machine.specs.Logs.{Made, Named, boot, named}
use Rattle.shard_machine.specs.Legal.{IsLogOf, IsNoNext, MayFollow}

-- what is held under a name
abbrev pub found : List ℕ → BTreeMap (Vec ℕ) Known → Option Known
found name names = get_by (λ key. slice_cmp nat_cmp name key.items) names

-- the state stands for the stream that was made last under the name
pub record StandsAs (name : List ℕ) (standing : Standing) (n : Named) : Type 0 where
  pub earlier : List Made
  pub latest : Made
  pub are : n.made ≡ earlier ++ latest ∷ []
  pub here : n.stands ≡ true
  pub created : standing.created ≡ latest.created
  pub state : StandsFor standing.state latest.history
  pub name_is : standing.state.held.limits.name ≡ name

abbrev pub StandsIf : List ℕ → Option Standing → Named → Type 0
StandsIf name None n = n.stands ≡ false
StandsIf name (Some standing) n = StandsAs name standing n

-- what is held of a name is what the log says of it
abbrev pub Knows : List ℕ → Option Known → Named → Type 0
Knows name None n = (n.made ≡ []) × (n.stands ≡ false)
Knows name (Some known) n = (known.incarnation ≡ length n.made) × StandsIf name known.stream n

-- what is held of a log
pub record IsReplayOf (replay : Replay) (log : List Rec) : Type 0 where
  pub boot_is : replay.boot ≡ boot log
  pub knows : (name : List ℕ) → Knows name (found name replay.names) (named log name)

-- a record was taken where it may follow, and only there
abbrev pub Takes : List Rec → Rec → Replay → Result Bool NoMemory → Type 0
Takes log it new (Ok true) = MayFollow log it × IsReplayOf new (log ++ it ∷ [])
Takes log it new (Ok false) = MayFollow log it → ⊥
Takes log it new (Err fault) = Unit {0}

-- the bodies are a log, each the spelling of its record, or this one is the first that is no record which may follow
abbrev pub Replays : List (List ℕ) → Result Replayed NoMemory → Type 0
Replays bodies (Ok (Log replay)) = (log : List Rec) × IsLogOf log bodies × IsReplayOf replay log × (bodies ≡ map spelling log)
Replays bodies (Ok (Stops index)) = (log : List Rec) × (body : List ℕ) × IsLogOf log (take index bodies) × (slice_get bodies index ≡ Some body) × IsNoNext log body
Replays bodies (Err fault) = Unit {0}
