use Rattle.std.proofs.Common.{take}
use Rattle.std.specs.List.{flat_map}
use Rattle.std.specs.Io.KnownBytes.{Appends}
use Rattle.leafd_cli.proofs.tell.pump_pieces.Given as goal

-- the pieces so far were written
abbrev pub invariant-loop-piece : goal.invariant-loop-piece
invariant-loop-piece g l = Appends (g.E.Sink.taken l.initial.err) (g.E.Sink.taken l.err) (flat_map (λ piece. piece.now) (take l.piece-index l.pieces))
