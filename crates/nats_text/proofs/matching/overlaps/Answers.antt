use Rattle.std.proofs.Common.{◌≡◌, sym, ap, ◌∙◌}
use Rattle.nats_text.specs.Text.{tokens}
use Rattle.nats_text.specs.Matching.{overlap}
use Rattle.nats_text.proofs.Patterns.{overlap_found, overlap_from}
use Rattle.nats_text.proofs.matching.overlaps.Goals as goal

pub returns-clause-meaning : goal.returns-clause-meaning
returns-clause-meaning c =
    let a = c.args.a.now in
    let b = c.args.b.now in
    let e : c.texts_overlap.result ≡ overlap a b = c.texts_overlap.ensures ∙ (ap (λ x. overlap x c.bytes-2.result.now) c.bytes.ensures.value ∙ ap (λ y. overlap a y) c.bytes-2.ensures.value) in
    (λ h. overlap_found (tokens a) (tokens b) (sym e ∙ h), λ found. e ∙ overlap_from (tokens a) (tokens b) found.0 found.1 found.2)
