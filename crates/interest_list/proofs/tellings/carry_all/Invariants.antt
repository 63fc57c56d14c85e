use Rattle.std.proofs.Common.{◌≡◌, ◌++◌, map}
use Rattle.interest_list.proofs.tellings.carry_all.Given as goal

-- those that came stand behind the others
abbrev pub invariant-loop-frame : goal.invariant-loop-frame
invariant-loop-frame g l = l.all.items ≡ l.initial.all.items ++ map (g.P.Carrier.carried l.link) l.yielded
