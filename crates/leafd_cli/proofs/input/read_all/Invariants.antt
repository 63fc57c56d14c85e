use Rattle.std.proofs.Common.{◌≡◌, ◌-◌, ◌<◌, vec_len}
use Rattle.std.specs.Io.KnownBytes.{Consumes}
use Rattle.leafd_cli.proofs.input.read_all.Given as goal

-- the text is what the source gave so far, and no read failed
abbrev pub invariant-loop-source : goal.invariant-loop-source
invariant-loop-source g l = record {
  consumed : Consumes (g.S.Source.left l.initial.source) (g.S.Source.left l.source) l.text.items;
  same : g.S.Source.faults l.source ≡ g.S.Source.faults l.initial.source;
  room : 0 < vec_len l.piece;
}

abbrev pub decreases-loop-source : goal.decreases-loop-source
decreases-loop-source g l = 16777217 - vec_len l.text
