use Rattle.std.proofs.Common.{◌≡◌, ◌-◌}
use Rattle.record_codec.specs.Reading.{items_at}
use Rattle.record_codec.proofs.Loops.{with_front}
use Rattle.record_codec.proofs.items.items_of.Given as goal

abbrev pub invariant-loop : goal.invariant-loop
invariant-loop g l = with_front l.items.items (items_at g.T.Item.at (l.count - l.counter) l.rest) ≡ items_at g.T.Item.at l.count l.bytes
