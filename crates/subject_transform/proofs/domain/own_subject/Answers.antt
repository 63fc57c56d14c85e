use Rattle.std.proofs.Common.{◌≡◌, ◌++◌, codes, true, false, Err, refl, sym, ap, ◌∙◌}
use Rattle.std.proofs.lemmas.Bool.{false≢true}
use Rattle.nats_text.specs.Text.{is_subject}
use Rattle.subject_transform.proofs.domain.own_subject.Goals as goal

pub unreachable-requires : goal.unreachable-requires
unreachable-requires c =
    let wrong = c.read.ensures.bad _ (c.in-Err-Bad.is ∙ ap (λ e. Err e) c.in-Err-Bad.field-0-is) in
    let api = codes "$JS.API." in
    let text : c.deref.result.now ≡ api ++ c.args.rest.now =
    c.deref.ensures.value ∙ c.in_ok-extend_from_slice-2.ensures.items ∙ ap (λ t. t ++ c.args.rest.now) (c.in_ok-extend_from_slice.ensures.items ∙ ap (λ t. t ++ api) c.new-text.ensures.items) in
    absurd (false≢true (sym wrong ∙ ap is_subject text ∙ c.requires))
