use Rattle.std.proofs.Common.{◌≡◌, take}
use Rattle.std.specs.Prelude.{flat_map}
use Rattle.shard_machine.specs.Answers.{beats_of}
use Rattle.shard_machine.specs.Images.{live_names}
use Rattle.shard_machine.specs.Views.{View}
use Rattle.shard_table.specs.Holding.{Holds}
use Rattle.shard_table.proofs.table.Table.beats.Given as goal

-- the beats of the streams that were looked at are there
abbrev pub invariant-loop-name : goal.invariant-loop-name
invariant-loop-name l = record {
  items : (v : View) → Holds l.self v → l.name-items ≡ live_names v.image;
  beats : (v : View) → Holds l.self v → l.beats ≡ flat_map (beats_of v l.now) (take l.name-index l.name-items);
}
