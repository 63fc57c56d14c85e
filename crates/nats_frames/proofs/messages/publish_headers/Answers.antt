use Rattle.std.proofs.Common.{◌≡◌, ◌∙◌, arith}
use Rattle.std.proofs.lemmas.Bool.{ltb-true, ltb-false}
use Rattle.std.proofs.lemmas.Bool.Decides.{nat_tests}
use Rattle.nats_text.specs.Pieces.{views}
use Rattle.nats_frames.specs.declared.fault.FrameText.TheVariants.{ParserError}
use Rattle.nats_frames.specs.declared.stream.Said.TheVariants.{Unfit}
use Rattle.nats_frames.specs.Frames.{publish_headers}
use Rattle.nats_frames.proofs.Deliveries.{few_headers, many_headers}
use Rattle.nats_frames.proofs.messages.publish_headers.Goals as goal
use Rattle.nats_frames.proofs.messages.publish_headers.Goals.{in_default-via-then-others-lt3, in_default-via-else-others-lt3+else-others-lt4+else-others-lt5}

pub returns-in_default-clause-said : goal.returns-in_default-clause-said
returns-in_default-clause-said c =
    let fs = c.args.others.now in
    let unfit : Unfit ParserError ≡ publish_headers (views fs) = elim c.in_default.branch [
      | in_default-via-then-others-lt3 w ↦ few_headers fs (first_of (omega (arith, ltb-true), grind (arith, nat_tests)))
      | in_default-via-else-others-lt3+else-others-lt4+else-others-lt5 w ↦ many_headers fs (first_of (omega (arith, ltb-false), grind (arith, nat_tests)))
    ] in
    c.unfit.ensures ∙ unfit
