-- What is held of an image: its number of openings, and name by name what it says, with the states of the
-- streams that stand.
use Rattle.std.specs.Prelude.{◌≡◌, ⊤, ℕ, true, false, List, Option, None, Some}
use Rattle.std.specs.FinMap.{get}
use Rattle.stream_fold.specs.Checking.{config_fault}
use Rattle.stream_fold.specs.Facts.{facts}
use Rattle.stream_fold.specs.Fits.{AllFit}
use Rattle.stream_fold.specs.Held.{StandsFor}
use Rattle.stream_fold.specs.Histories.{History}
use Rattle.record_codec.specs.declared.records.Rec.{Rec}
use Rattle.log_replay.specs.declared.replay.Known.{Known}
use Rattle.log_replay.specs.declared.replay.Replay.{Replay}
use Rattle.log_replay.specs.declared.replay.Standing.{Standing}
use Rattle.log_replay.specs.Replays.{found, IsReplayOf}
use Rattle.shard_machine.specs.Images.{LogImage, NameFacts, image, live_in}
use Rattle.shard_machine.specs.Legal.{IsLegal}

-- the state stands for a history whose facts are known; its configuration in force has the name, and is one
-- that a stream may have
pub record IsStreamOf (name : List ℕ) (standing : Standing) (known : NameFacts) : Type 0 where
  pub history : History
  pub here : known.stands ≡ true
  pub created : standing.created ≡ known.created
  pub fit : AllFit history
  pub state : StandsFor standing.state history
  pub facts_are : known.stream ≡ facts history
  pub name_is : standing.state.held.limits.name ≡ name
  pub faultless : config_fault standing.state.held.limits ≡ None

-- a stream is held exactly where one stands
abbrev pub HoldsStream : List ℕ → Option Standing → NameFacts → Type 0
HoldsStream name None known = known.stands ≡ false
HoldsStream name (Some standing) known = IsStreamOf name standing known

-- What is held of a name is what is known of it. Where nothing is known there may be a place for it, with
-- incarnation 0 and no stream.
abbrev pub HoldsName : List ℕ → Option Known → Option NameFacts → Type 0
HoldsName name None None = ⊤
HoldsName name None (Some known) = ⊥
HoldsName name (Some held) None = (held.incarnation ≡ 0) × (held.stream ≡ None)
HoldsName name (Some held) (Some known) = (held.incarnation ≡ known.incarnation) × HoldsStream name held.stream known

-- what is held is what the image says
pub record HoldsImage (replay : Replay) (i : LogImage) : Type 0 where
  pub boot_is : replay.boot ≡ i.boot
  pub holds : (name : List ℕ) → HoldsName name (found name replay.names) (get i.names name)

-- what was replayed of a legal log holds the log's image
abbrev pub ReplaysHold : Type 0
ReplaysHold = (replay : Replay) (log : List Rec) → IsLegal log → IsReplayOf replay log → HoldsImage replay (image log)

-- the stream that stands under a name is shown, if one does
abbrev pub ShowsLive : LogImage → List ℕ → Option Standing → Type 0
ShowsLive i name None = live_in i name ≡ None
ShowsLive i name (Some standing) = (known : NameFacts) × (live_in i name ≡ Some known) × IsStreamOf name standing known
