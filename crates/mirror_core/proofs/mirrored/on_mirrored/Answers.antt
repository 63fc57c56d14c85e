use Rattle.std.proofs.Common.{None, sym, ◌∙◌, arith}
use Rattle.std.proofs.lemmas.Bool.{ltb-false}
use Rattle.mirror_core.proofs.Lengths.{short-put}
use Rattle.mirror_core.proofs.mirrored.on_mirrored.Goals as goal

pub returns-clause-short : goal.returns-clause-short
returns-clause-short c =
    let small = ltb-false _ _ (sym c.is_large.ensures ∙ c.if-is_large.false) in
    rw c.in_ok-clone.ensures.cases (short-put c.args.seq c.args.message.now None c.ranges.seq.fits tt c.legal_message.ensures (omega (arith, small)))
