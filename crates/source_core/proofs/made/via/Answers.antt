use Rattle.std.proofs.Common.{sym, ◌∙◌, ap, arith}
use Rattle.stream_fold.specs.Sourcing.{source_name, source_value, sourced}
use Rattle.source_core.proofs.Headers.{little-more}
use Rattle.source_core.proofs.made.via.Goals as goal

pub returns-clause-value : goal.returns-clause-value
returns-clause-value c =
    let m = c.args.message.now in
    let taken = sym c.in_ok-route.ensures.value ∙ c.in-Some.is in
    rw (c.into_subject.ensures, c.in_ok-headers.ensures.value, c.in_ok-payload.ensures) (sym (ap (sourced c.args.want.now m c.args.seq) taken))

pub returns-clause-size : goal.returns-clause-size
returns-clause-size c =
    let m = c.args.message.now in
    rw (c.in_ok-headers.ensures.value, c.in_ok-payload.ensures) (little-more source_name (source_value c.args.want.now c.in-Some.route m.subject c.args.seq) c.into_subject.result m (omega arith) c.in_ok-headers.ensures.short)
