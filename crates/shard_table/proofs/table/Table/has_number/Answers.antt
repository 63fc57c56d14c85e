use Rattle.std.proofs.Common.{ℕ, sym, ap, ◌∙◌}
use Rattle.std.specs.Prelude.{nat_lt}
use Rattle.shard_machine.specs.Images.{incarnation_in}
use Rattle.shard_machine.specs.Steps.{has_number}
use Rattle.shard_table.proofs.Beginning.{lt-more}
use Rattle.shard_table.proofs.table.Table.has_number.Goals as goal

pub returns-in-Create : goal.returns-in-Create
returns-in-Create c = λ v held.
    ap (λ (n : ℕ). nat_lt n 9223372036854775807) (c.incarnation.ensures v.image held.streams)
    ∙ (lt-more (incarnation_in v.image c.in-Create.config.name) 9223372036854775807 ∙ sym (ap (has_number v.image) c.in-Create.is))
