use Rattle.std.proofs.Common.{◌≡◌, length}
use Rattle.leafd_cli.specs.Plain.{settled_upto}
use Rattle.leafd_cli.specs.Keeping.{AreSound}
use Rattle.leafd_cli.proofs.settle.settle.Given as goal

-- the streams before the place have taken what they missed
abbrev pub invariant-loop-place : goal.invariant-loop-place
invariant-loop-place l = record {
  streams : l.streams.items ≡ settled_upto l.place l.initial.streams.items;
  many : length l.streams.items ≡ l.place-end;
  kept : AreSound l.streams.items;
}
