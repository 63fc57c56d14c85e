use Rattle.std.proofs.Common.{◌≡◌, ◌++◌, take}
use Rattle.std.specs.List.{flat_map, All}
use Rattle.record_codec.proofs.items.put_items.Given as goal

abbrev pub invariant-loop-item : goal.invariant-loop-item
invariant-loop-item g l = (l.buf.items ≡ l.initial.buf.items ++ flat_map g.T.Item.text (take l.item-index l.items)) × All g.T.Item.is_item (take l.item-index l.items)
