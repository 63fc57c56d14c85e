use Rattle.std.proofs.Common.{sym, ap, ◌∙◌, subst}
use Rattle.leafd_script.specs.Words.{Gives, with_text}
use Rattle.leafd_script.proofs.Shapes.{with_text-cut}
use Rattle.leafd_script.proofs.headers.with_text.Goals as goal

pub returns-in-Some : goal.returns-in-Some
returns-in-Some c = subst (Gives c.with_legal.result) (sym (ap (with_text c.args.headers) c.in-Some.ensures.parts ∙ with_text-cut c.args.headers c.in-Some.name.now c.in-Some.value.now)) c.with_legal.ensures
