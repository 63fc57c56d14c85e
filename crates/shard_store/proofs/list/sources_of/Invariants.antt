use Rattle.std.proofs.Common.{◌≡◌, ◌++◌, drop}
use Rattle.stream_fold.specs.Histories.{History}
use Rattle.stream_fold.specs.Held.{StandsFor}
use Rattle.shard_store.specs.Streams.{source_facts}
use Rattle.shard_store.proofs.list.sources_of.Given as goal

-- with those of the origins that are left they are all facts
abbrev pub invariant-loop-index : goal.invariant-loop-index
invariant-loop-index l = (h : History) → StandsFor l.state h → l.facts ++ source_facts h l.index (drop l.index l.origins) ≡ source_facts h 0 l.origins
