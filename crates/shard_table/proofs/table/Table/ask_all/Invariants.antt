use Rattle.std.proofs.Common.{◌≡◌, take}
use Rattle.std.specs.Prelude.{flat_map}
use Rattle.shard_machine.specs.Images.{live_names}
use Rattle.shard_machine.specs.Views.{View, copies_under}
use Rattle.shard_copies.specs.Asked.{AreKept, Asks, chosen}
use Rattle.shard_table.specs.Holding.{Holds}
use Rattle.shard_table.proofs.table.Table.ask_all.Given as goal

-- the copies of the streams that were looked at have asked, where they are meant
abbrev pub invariant-loop-name : goal.invariant-loop-name
invariant-loop-name l = record {
  items : (v : View) → Holds l.initial.self v → l.name-items ≡ live_names v.image;
  held : (v : View) → Holds l.initial.self v → Holds l.self v;
  kept : AreKept l.initial.self.askers l.initial.asking → AreKept l.self.askers l.asking;
  asks : (v : View) → Holds l.initial.self v → Asks l.initial.asking l.asking v l.now (chosen l.which v l.now (flat_map (copies_under v.image) (take l.name-index l.name-items)));
}
