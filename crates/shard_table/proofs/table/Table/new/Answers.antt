use Rattle.std.proofs.Common.{List, ℕ, ap, subst}
use Rattle.shard_copies.specs.Asked.{AskersState}
use Rattle.shard_machine.specs.Images.{no_image}
use Rattle.shard_table.specs.Effects.{opened}
use Rattle.shard_table.specs.Holding.{Holds}
use Rattle.shard_table.proofs.table.Table.new.Goals as goal

pub returns : goal.returns
returns c = subst (λ (node : List ℕ). Holds c.begin.new.self (opened node no_image)) (ap (λ (s : AskersState). s.node) c.new-3.ensures) (c.begin.ensures.held no_image c.new.ensures)
