use Rattle.source_core.proofs.Headers.{value-legal, value-short}
use Rattle.source_core.proofs.header.source_value.Goals as goal

pub returns-clause-legal : goal.returns-clause-legal
returns-clause-legal c =
    let a = c.args in
    rw c.in_ok-text.ensures.value (value-legal a.want.now a.route.now a.subject.now a.seq c.in_ok-text.ensures.name c.requires c.in_ok-text.ensures.subject c.ranges.seq.fits)

pub returns-clause-short : goal.returns-clause-short
returns-clause-short c =
    let a = c.args in
    rw c.in_ok-text.ensures.value (value-short a.want.now a.route.now a.subject.now a.seq c.in_ok-text.ensures.name c.requires c.in_ok-text.ensures.subject c.ranges.seq.fits)
