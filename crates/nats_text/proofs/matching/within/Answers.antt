use Rattle.std.proofs.Common.{◌≡◌, sym, ap, ◌∙◌}
use Rattle.nats_text.specs.Text.{tokens}
use Rattle.nats_text.specs.Matching.{is_within}
use Rattle.nats_text.proofs.Patterns.{within_found, within_kept}
use Rattle.nats_text.proofs.matching.within.Goals as goal

pub returns-clause-meaning : goal.returns-clause-meaning
returns-clause-meaning c =
    let a = c.args.a.now in
    let b = c.args.b.now in
    let e : c.text_within.result ≡ is_within a b = c.text_within.ensures ∙ (ap (λ x. is_within x c.bytes-2.result.now) c.bytes.ensures.value ∙ ap (λ y. is_within a y) c.bytes-2.ensures.value) in
    (λ h. within_kept (tokens a) (tokens b) (sym e ∙ h), λ kept. e ∙ within_found (tokens a) (tokens b) kept)
