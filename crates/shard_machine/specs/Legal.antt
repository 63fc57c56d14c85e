-- Which records may follow one another in a log, and the log that bodies stand for.
use Rattle.std.specs.Prelude.{◌≡◌, ℕ, ◌+◌, ◌<◌, ◌≤◌, ◌^◌, List, [], ◌∷◌, ◌++◌, map, None, Some, IsSome, Ok, ⊤}
use Rattle.stream_fold.specs.declared.config.Config.{Config}
use Rattle.stream_fold.specs.declared.entry.Entry.{Entry}
use Rattle.stream_fold.specs.declared.entry.Entry.TheVariants.{Put, Del, Purge, Expire, Bind, Limits}
use Rattle.stream_fold.specs.Checking.{config_fault}
use Rattle.stream_fold.specs.Fits.{Fits}
use Rattle.record_codec.specs.declared.records.Rec.{Rec}
use Rattle.record_codec.specs.declared.records.Rec.TheVariants.{Boot, Create, Remove, Of}
use Rattle.record_codec.specs.Reading.{reading}
use Rattle.shard_machine.specs.Logs.{Made, boot, incarnation, live}

-- a configuration that changes the limits is one that a stream may have
abbrev pub HasFaultless : Entry → Type 0
HasFaultless (Put seq message mark) = ⊤
HasFaultless (Del seq) = ⊤
HasFaultless (Purge pattern below) = ⊤
HasFaultless (Expire now) = ⊤
HasFaultless (Bind index incarnation start) = ⊤
HasFaultless (Limits config) = config_fault config ≡ None

-- the entry may come next in the history of this stream
pub record MayChange (entry : Entry) (made : Made) : Type 0 where
  pub fits : Fits made.history entry
  pub faultless : HasFaultless entry

-- a stream may be made: none stands under the name, its configuration is one that a stream may have, and its incarnation
-- is below 2^63
pub record MayMake (log : List Rec) (config : Config) : Type 0 where
  pub free : live log config.name ≡ None
  pub faultless : config_fault config ≡ None
  pub number : incarnation log config.name + 1 < 2 ^ 63

-- A record may follow a log. An opening has the number of the last one plus 1, below 2^63; a log begins with one, so
-- that no other record comes before the first.
abbrev pub MayFollow : List Rec → Rec → Type 0
MayFollow log (Boot number) = (number ≡ boot log + 1) × (number < 2 ^ 63)
MayFollow log (Create time config) = (1 ≤ boot log) × MayMake log config
MayFollow log (Remove name) = (1 ≤ boot log) × IsSome (live log name)
MayFollow log (Of name entry) = (1 ≤ boot log) × (made : Made) × (live log name ≡ Some made) × MayChange entry made

-- each of the records may follow the log and those before it
abbrev pub MayAllFollow : List Rec → List Rec → Type 0
MayAllFollow log [] = ⊤
MayAllFollow log (r ∷ rs) = MayFollow log r × MayAllFollow (log ++ r ∷ []) rs

-- each record may follow those before it
abbrev pub IsLegal : List Rec → Type 0
IsLegal log = MayAllFollow [] log

-- the bodies are these records, each spelled, in a legal log
pub record IsLogOf (log : List Rec) (bodies : List (List ℕ)) : Type 0 where
  pub are : map reading bodies ≡ map Ok log
  pub legal : IsLegal log

-- the body is no record that may follow the log
abbrev pub IsNoNext : List Rec → List ℕ → Type 0
IsNoNext log body = (it : Rec) → reading body ≡ Ok it → MayFollow log it → ⊥
