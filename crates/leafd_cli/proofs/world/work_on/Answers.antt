use Rattle.std.proofs.Common.{◌≡◌, Some, sym, ap, ◌∙◌}
use Rattle.leafd_cli.specs.declared.operation.Effect.{Effect}
use Rattle.leafd_cli.specs.Effects.{effect}
use Rattle.leafd_cli.proofs.Work.{effect_suits}
use Rattle.leafd_cli.proofs.world.work_on.Goals as goal

-- the entry of an operation may stand next
pub add-requires : goal.add-requires
add-requires c =
    let s = c.args.stream.now in
    let is : (effect c.args.now c.args.operation s).entry ≡ Some c.in-Some.entry = ap (λ (e : Effect). e.entry) (sym c.in_ok-entry.ensures) ∙ c.in-Some.is in
    (effect_suits c.args.now c.args.operation s (record { rising = c.requires.rising; below = c.requires.below; copies = c.requires.copies }) c.in-Some.entry is).fits
