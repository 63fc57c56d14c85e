use Rattle.std.proofs.Common.{◌≡◌, ◌-◌, List}
use Rattle.record_codec.specs.Reading.{items_at}
use Rattle.record_codec.proofs.Loops.{with_front}
use Rattle.record_codec.proofs.items.skim_items.Given as goal

-- some items stand before the rest
abbrev pub invariant-loop : goal.invariant-loop
invariant-loop g l = (front : List _) × (with_front front (items_at g.T.Item.at (l.count - l.counter) l.rest) ≡ items_at g.T.Item.at l.count l.bytes)
