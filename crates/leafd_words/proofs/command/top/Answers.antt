use Rattle.std.proofs.Common.{◌≡◌, ◌∙◌, ap, true}
use Rattle.clap.specs.Simple.{app_of, app_of_fields, on_top}
use Rattle.leafd_words.proofs.command.top.Goals as goal

pub returns : goal.returns
returns c =
    let s1 : app_of c.no_binary_name.result ≡ on_top (λ s. record s { no_binary_name = true }) (app_of c.new.result) = ap app_of_fields c.no_binary_name.ensures in
    let s2 : app_of c.disable_help_flag.result ≡ on_top (λ s. record s { disable_help_flag = true }) (app_of c.no_binary_name.result) = ap app_of_fields c.disable_help_flag.ensures in
    let s3 : app_of c.disable_help_subcommand.result ≡ on_top (λ s. record s { disable_help_subcommand = true }) (app_of c.disable_help_flag.result) = ap app_of_fields c.disable_help_subcommand.ensures in
    let s4 : app_of c.disable_version_flag.result ≡ on_top (λ s. record s { disable_version_flag = true }) (app_of c.disable_help_subcommand.result) = ap app_of_fields c.disable_version_flag.ensures in
    let s5 : app_of c.subcommand_required.result ≡ on_top (λ s. record s { subcommand_required = true }) (app_of c.disable_version_flag.result) = ap app_of_fields c.subcommand_required.ensures in
    s5 ∙ ap (on_top (λ s. record s { subcommand_required = true })) (s4 ∙ ap (on_top (λ s. record s { disable_version_flag = true })) (s3 ∙ ap (on_top (λ s. record s { disable_help_subcommand = true })) (s2 ∙ ap (on_top (λ s. record s { disable_help_flag = true })) (s1 ∙ ap (on_top (λ s. record s { no_binary_name = true })) c.new.ensures.app))))
