use Rattle.std.proofs.Common.{◌≡◌, ◌++◌, take, drop}
use Rattle.interest_list.specs.Orders.{placed}
use Rattle.interest_list.proofs.order.place_of.Given as goal

-- those before the place stay before it
abbrev pub invariant-loop-at : goal.invariant-loop-at
invariant-loop-at g l = take l.at l.items ++ placed g.T.Placed.order l.item (drop l.at l.items) ≡ placed g.T.Placed.order l.item l.items
