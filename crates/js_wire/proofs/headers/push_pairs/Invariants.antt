use Rattle.std.proofs.Common.{◌≡◌, ◌++◌, take}
use Rattle.js_wire.proofs.headers.push_pairs.Given as goal

-- the pairs so far are there
abbrev pub invariant-loop-pair : goal.invariant-loop-pair
invariant-loop-pair l = l.headers ≡ record { status = l.initial.headers.status; pairs = l.initial.headers.pairs ++ take l.pair-index l.pairs }
