use Rattle.std.proofs.Common.{◌∙◌, ap, ap₂, codes}
use Rattle.std.proofs.lemmas.Result.{IfOk-weaker}
use Rattle.clap.specs.Simple.{App, with_rule, with_subcommand}
use Rattle.leafd_words.specs.Commands.{value_rule}
use Rattle.leafd_words.proofs.command.leafd_command.Goals as goal

pub returns : goal.returns
returns c =
    let check_is = c.in_ok-check.ensures.app ∙ ap (λ (a : App). with_rule a (value_rule (codes "CONF"))) c.new.ensures.app in
    let inspect_is = c.in_ok-inspect.ensures.app ∙ ap (λ (a : App). with_rule a (value_rule (codes "DIR"))) c.new-2.ensures.app in
    let src_is = c.in_ok-src.ensures.app ∙ ap (λ (a : App). with_rule a (value_rule (codes "SRC"))) c.new-3.ensures.app in
    let dest_is = c.in_ok-dest.ensures.app ∙ ap (λ (a : App). with_rule a (value_rule (codes "DEST"))) src_is in
    let map_is = c.in_ok-map.ensures.app ∙ ap (λ (a : App). with_rule a (value_rule (codes "SUBJECT"))) dest_is in
    let map_local = c.in_ok-map.ensures.globals ∙ (c.in_ok-dest.ensures.globals ∙ (c.in_ok-src.ensures.globals ∙ c.new-3.ensures.local)) in
    let one = c.in_ok-subcommand.ensures.shape c.new-drill.ensures.local ∙ ap₂ with_subcommand c.top.ensures (ap (λ (a : App). a.top) c.new-drill.ensures.app) in
    let two = c.in_ok-subcommand-2.ensures.shape (c.in_ok-check.ensures.globals ∙ c.new.ensures.local) ∙ ap₂ with_subcommand one (ap (λ (a : App). a.top) check_is) in
    let three = c.in_ok-subcommand-3.ensures.shape (c.in_ok-inspect.ensures.globals ∙ c.new-2.ensures.local) ∙ ap₂ with_subcommand two (ap (λ (a : App). a.top) inspect_is) in
    IfOk-weaker c.subcommand-4.result _ _ (λ m h. h.shape map_local ∙ ap₂ with_subcommand three (ap (λ (a : App). a.top) map_is)) c.subcommand-4.ensures
