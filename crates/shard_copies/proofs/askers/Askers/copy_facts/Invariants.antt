use Rattle.std.proofs.Common.{◌≡◌, map, take}
use Rattle.stream_fold.specs.Facts.{facts}
use Rattle.stream_fold.specs.Held.{StandsFor}
use Rattle.stream_fold.specs.Histories.{History}
use Rattle.shard_machine.specs.Views.{View, origins_of, copies_from}
use Rattle.shard_machine.specs.Answers.{fact_of_copy}
use Rattle.shard_copies.specs.Asked.{ShowsAskers}
use Rattle.shard_copies.proofs.askers.Askers.copy_facts.Given as goal

-- those that were looked at are told
abbrev pub invariant-loop-want : goal.invariant-loop-want
invariant-loop-want l = record {
  index : l.index ≡ l.want-index;
  items : (h : History) → StandsFor l.state h → l.want-items ≡ origins_of (facts h).config.copies;
  told : (v : View) (h : History) → ShowsAskers l.self v v.askers → StandsFor l.state h → l.told ≡ map (fact_of_copy v) (copies_from l.name (facts h) 0 (take l.want-index l.want-items));
}
