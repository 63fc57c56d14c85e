-- What a table holds of a view.
use Rattle.std.specs.Prelude.{◌≡◌, ℕ, List, Option, None, Some, option_map}
use Rattle.std.specs.FinMap.{get}
use Rattle.replica_ask.specs.declared.phase.Phase.{Phase}
use Rattle.stream_fold.specs.declared.entry.BoundTo.{BoundTo}
use Rattle.stream_fold.specs.Publishing.{next_match}
use Rattle.shard_machine.specs.Images.{LogImage, NameFacts, live_in}
use Rattle.shard_machine.specs.Views.{View, Copy, asker_of, copies_under}
use Rattle.shard_streams.specs.HeldImages.{HoldsImage}
use Rattle.shard_copies.specs.Asked.{ShowsAskers, copy_at}
use Rattle.shard_table.specs.declared.table.Table.{Table}

-- the node of the shard
abbrev pub node_in : Table → List ℕ
node_in t = t.askers.node

-- A table holds a view: the streams are those of its image, the consumers are the view's, and each asker is
-- found.
pub record Holds (t : Table) (v : View) : Type 0 where
  pub streams : HoldsImage t.streams.replay v.image
  pub boot : t.consumers.boot ≡ v.image.boot
  pub given : t.consumers.given ≡ v.given
  pub consumers : t.consumers.all ≡ v.consumers
  pub askers : ShowsAskers t.askers v v.askers

-- how far a copy is with its origin, and what it is bound to
abbrev pub copy_shown : View → Copy → Phase × Option BoundTo
copy_shown v c = ((asker_of v c).phase, get c.facts.bindings c.index)

-- the same of the copy of a stream that has this index, if it stands
abbrev pub copy_seen : View → List ℕ → ℕ → Option (Phase × Option BoundTo)
copy_seen v stream index = option_map (copy_shown v) (copy_at index (copies_under v.image stream))

-- the least kept number of a stream at or after `from` of a subject that one of the filters matches, if
-- the stream stands
abbrev pub match_seen : ℕ → List (List ℕ) → Option NameFacts → Option ℕ
match_seen from filters None = None
match_seen from filters (Some known) = next_match from filters known.stream.rows
