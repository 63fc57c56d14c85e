use Rattle.std.proofs.Common.{sym, ap, ◌∙◌}
use Rattle.nats_frames.specs.Stream.{in_envelope, decided}
use Rattle.nats_frames.proofs.Carries.{carried_in}
use Rattle.nats_frames.proofs.reading.decided.Goals as goal

pub returns-in_ok-carried-in-Carries : goal.returns-in_ok-carried-in-Carries
returns-in_ok-carried-in-Carries g c =
    let framed = g.P.Protocol.framed in
    let e = c.in-Carries.envelope in
    let len = c.args.len in
    let behind = c.args.behind.now in
    c.in_envelope.ensures ∙ (ap (in_envelope (framed e)) c.in_ok-carried-in-Carries.ensures
    ∙ (carried_in (framed e) len c.in-Carries.block c.in-Carries.size behind ∙ ap (decided framed len behind) (sym c.in-Carries.is)))
