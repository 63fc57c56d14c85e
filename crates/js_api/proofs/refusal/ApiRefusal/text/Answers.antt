use Rattle.std.proofs.Common.{◌≡◌, ◌++◌, ap, ◌∙◌, subst, sym, IsUtf8}
use Rattle.js_api.specs.Refusals.{row, own_text}
use Rattle.js_api.proofs.Texts.{row_utf8}
use Rattle.js_api.proofs.refusal.ApiRefusal.text.Goals as goal

pub returns-clause-utf8 : goal.returns-clause-utf8
returns-clause-utf8 c h =
    let front = c.in_ok-push_text.ensures ∙ ap (λ t. t ++ c.front.result.now) c.new-text.ensures.items in
    let whole : c.from_vec.result ≡ (row c.args.self.now).text =
    c.from_vec.ensures ∙ (c.in_ok-push_own.ensures.value ∙ (ap (λ t. t ++ own_text c.args.self.now) front ∙ sym c.front.ensures)) in
    subst (λ t. IsUtf8 t) (sym whole) (row_utf8 c.args.self.now (c.in_ok-push_own.ensures.utf8 h))
