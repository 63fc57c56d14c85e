use Rattle.std.proofs.Common.{◌≡◌, ℕ, ◌+◌, List, arith, subst}
use Rattle.record_codec.specs.declared.records.Rec.TheVariants as rec
use Rattle.shard_machine.specs.Images.{next}
use Rattle.shard_table.specs.Effects.{opened}
use Rattle.shard_table.specs.Holding.{Holds, node_in}
use Rattle.shard_table.proofs.table.Table.open.Goals as goal

pub returns-clause-held : goal.returns-clause-held
returns-clause-held c = λ v held below.
    let boot = c.boot.ensures v.image held.streams in
    let number : c.saturating_add.result ≡ v.image.boot + 1 = omega (arith, c.saturating_add.ensures, boot, below) in
    let begun = c.begin.ensures.held (next v.image (rec.Boot c.saturating_add.result)) (c.commit_boot.ensures v.image held.streams) in
    subst (λ (n : ℕ). Holds c.begin.new.self (opened v.node (next v.image (rec.Boot n)))) number
    (subst (λ (node : List ℕ). Holds c.begin.new.self (opened node (next v.image (rec.Boot c.saturating_add.result)))) held.askers.node begun)
