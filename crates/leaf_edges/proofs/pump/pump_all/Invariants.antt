use Rattle.std.proofs.Common.{◌≡◌, ℕ, List, ◌++◌, length}
use Rattle.std.specs.Io.KnownBytes.{Appends}
use Rattle.leaf_edges.proofs.pump.pump_all.Given as goal

-- a front of the bytes was written, the rest is left, and no write failed
abbrev pub invariant-loop-rest : goal.invariant-loop-rest
invariant-loop-rest g l = record {
  front : List ℕ;
  whole : l.bytes ≡ front ++ l.rest;
  written : Appends (g.S.Sink.taken l.initial.sink) (g.S.Sink.taken l.sink) front;
  same : g.S.Sink.faults l.sink ≡ g.S.Sink.faults l.initial.sink;
}

abbrev pub decreases-loop-rest : goal.decreases-loop-rest
decreases-loop-rest g l = length l.rest
