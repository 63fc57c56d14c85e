use Rattle.std.proofs.Common.{◌+◌, Some, arith}
use Rattle.mirror_core.proofs.Lengths.{short-put}
use Rattle.source_core.proofs.sourced.on_made.Goals as goal

pub returns-clause-short : goal.returns-clause-short
returns-clause-short c =
    let size = rw c.in-Some.is at c.requires.size in
    short-put (c.args.place.last + 1) _ (Some c.mark_of.result) (omega (arith, c.if-place.false)) c.mark_of.ensures.fits c.legal_message.ensures size
