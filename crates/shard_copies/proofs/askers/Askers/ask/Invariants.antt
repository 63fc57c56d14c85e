use Rattle.std.proofs.Common.{◌≡◌, take}
use Rattle.std.specs.Prelude.{filter}
use Rattle.stream_fold.specs.Facts.{facts}
use Rattle.stream_fold.specs.Held.{StandsFor}
use Rattle.stream_fold.specs.Histories.{History}
use Rattle.shard_machine.specs.Views.{View, origins_of, copies_from}
use Rattle.shard_copies.specs.Asked.{ShowsAskers, ShowsSame, AreKept, Asks}
use Rattle.shard_copies.specs.Places.{is_chosen}
use Rattle.shard_copies.proofs.askers.Askers.ask.Given as goal

-- those that were looked at have asked, where they are meant
abbrev pub invariant-loop-want : goal.invariant-loop-want
invariant-loop-want l = record {
  index : l.index ≡ l.want-index;
  items : (h : History) → StandsFor l.state h → l.want-items ≡ origins_of (facts h).config.copies;
  shown : ShowsSame l.initial.self l.self;
  kept : AreKept l.initial.self l.initial.asking → AreKept l.self l.asking;
  asks : (v : View) (h : History) → ShowsAskers l.initial.self v v.askers → StandsFor l.state h → Asks l.initial.asking l.asking v l.now (filter (is_chosen l.which v l.now) (copies_from l.name (facts h) 0 (take l.want-index l.want-items)));
}
