use Rattle.leafd_cli.proofs.Fronts.{prefix_at}
use Rattle.leafd_cli.proofs.tell.pump_pieces.Goals as goal

pub returns-in-Err : goal.returns-in-Err
returns-in-Err g c = prefix_at c.args.pieces.now c.loop-piece.piece-index _ _ _ _ c.loop-piece-test.true c.loop-piece.invariant c.in-Err.ensures.bytes
