use Rattle.std.proofs.Common.{rules, ap, ◌∙◌}
use Rattle.stream_fold.specs.declared.config.Copies.TheVariants.{Mirror as MirrorOf}
use Rattle.leafd_script.proofs.Shapes.{mirror-read}
use Rattle.leafd_script.proofs.configured.mirror_of.Goals as goal

pub returns : goal.returns
returns c =
    let config = c.in_ok-config.config in
    let copies = ap (λ it. it.copies) (c.in_ok-config.ensures.same ∙ c.config_of-config.ensures) ∙ ap MirrorOf c.origin_of.ensures in
    let from = mirror-read c.args.node.now c.args.other.now c.in_ok-node.node c.in_ok-other.other c.in_ok-origin.origin config.copies c.in_ok-node.ensures c.in_ok-other.ensures c.requires copies in
    (search rules, (from, tt, c.in_ok-config.ensures.right))
