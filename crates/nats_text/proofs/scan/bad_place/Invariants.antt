use Rattle.std.proofs.Common.{◌+◌, ◌≤◌, take}
use Rattle.nats_text.specs.Scan.{need}
use Rattle.nats_text.proofs.Fronts.{Reads}
use Rattle.nats_text.proofs.scan.bad_place.Given as goal

-- the bytes so far led to the front, and what it needs fits behind them
abbrev pub invariant-loop-place : goal.invariant-loop-place
invariant-loop-place l = (l.place + need l.kind l.front ≤ 1024) × Reads l.kind (take l.place l.bytes) l.front
