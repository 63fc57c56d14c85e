use Rattle.std.proofs.Common.{rules, ◌≡◌, ◌∙◌, ◌||◌, ap, Bool, true, false, refl}
use Rattle.std.proofs.lemmas.Result.{IfOk-weaker}
use Rattle.clap.specs.Walk.{rule_of}
use Rattle.clap.specs.Simple.{app_of, with_rule}
use Rattle.clap.specs.declared.builder.command.Command.TheViews.{out-Command}
use Rattle.leafd_words.specs.Commands.{value_rule}
use Rattle.leafd_words.proofs.command.with_value.Goals as goal

pub returns-clause-app : goal.returns-clause-app
returns-clause-app c =
    let rule : rule_of c.action-value.result ≡ value_rule c.args.id.now = search rules in
    IfOk-weaker c.arg.result _ _ (λ d h. h.shape (search rules) ∙ ap (with_rule (app_of c.args.command)) rule) c.arg.ensures

or_false : (b g : Bool) → g ≡ false → (b || g) ≡ b
or_false true g h = refl
or_false false g h = h

pub returns-clause-globals : goal.returns-clause-globals
returns-clause-globals c =
    let local : c.action-value.result.global ≡ false = search rules in
    IfOk-weaker c.arg.result _ _ (λ d h. h.globals ∙ or_false (out-Command c.args.command).has_globals c.action-value.result.global local) c.arg.ensures
