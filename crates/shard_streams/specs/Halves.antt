-- Changes in two halves: the first takes all the memory, the second none.
use Rattle.std.specs.Prelude.{◌≡◌, ℕ, ◌≤◌, [], List}
use Rattle.std.specs.Vec.{vec_capacity}
use Rattle.stream_fold.specs.declared.config.Config.{Config}
use Rattle.stream_fold.specs.declared.entry.Entry.{Entry}
use Rattle.stream_fold.specs.Held.{StandsFor}
use Rattle.record_codec.specs.declared.records.Rec.TheVariants.{Create, Of}
use Rattle.log_replay.specs.declared.replay.Replay.{Replay}
use Rattle.log_replay.specs.Replays.{found}
use Rattle.shard_streams.specs.declared.halves.PreparedCreate.{PreparedCreate}
use Rattle.shard_streams.specs.declared.halves.PreparedEntry.{PreparedEntry}
use Rattle.shard_streams.specs.Places.{IsFree, MayTake}

-- An entry of a stream is prepared: its record, a copy of it for the reply, and place for it in the stream
-- and for what is told of it.
pub record IsPrepared (replay : Replay) (prepared : PreparedEntry) (name : List ℕ) (entry : Entry) : Type 0 where
  pub record_is : prepared.rec ≡ Of name entry
  pub copied : prepared.copy ≡ entry
  pub told : prepared.told ≡ name
  pub none_yet : prepared.notices.items ≡ []
  pub notices : 2 ≤ vec_capacity prepared.notices
  pub place : MayTake entry (found name replay.names)

-- A stream that is to be made is prepared: its record, its state, and a place under its name.
pub record IsMadeReady (replay : Replay) (prepared : PreparedCreate) (config : Config) (time : ℕ) : Type 0 where
  pub record_is : prepared.rec ≡ Create time config
  pub state : StandsFor prepared.state (record { config = config; entries = [] })
  pub place : IsFree (found config.name replay.names)
