-- A call of a loaded shard that is prepared.
use Rattle.std.specs.Prelude.{◌≡◌, ⊤, ◌≤◌, true, [], ◌∷◌, Ok}
use Rattle.shard_machine.specs.declared.call.ShardCall.{ShardCall}
use Rattle.shard_machine.specs.Images.{MayFollowImage}
use Rattle.shard_machine.specs.Views.{View, Effect}
use Rattle.shard_machine.specs.Answers.{Answers}
use Rattle.shard_machine.specs.Steps.{has_number}
use Rattle.shard_table.specs.Answering.{IsPrepared, record_in}
use Rattle.shard_table.specs.Holding.{Holds}
use Rattle.shard_table.specs.declared.answered.Answered.{Answered}
use Rattle.shard_table.specs.declared.answered.Answered.TheVariants.{Done, Append}
use Rattle.shard_table.specs.declared.answered.Prepared.{Prepared}
use Rattle.shard_table.specs.declared.table.Table.{Table}

-- what is prepared is this effect of the call, the table holds the view, and the record may follow where its numbers are small
-- enough
pub record IsReadyIn (table : Table) (prepared : Prepared) (called : ShardCall) (v : View) (e : Effect) : Type 0 where
  pub holds : Holds table v
  pub booted : 1 ≤ v.image.boot
  pub answers : Answers v called (Ok e)
  pub one : e.records ≡ record_in prepared ∷ []
  pub is_prepared : IsPrepared table prepared v called e
  pub follows : has_number v.image (record_in prepared) ≡ true → MayFollowImage v.image (record_in prepared)

-- what is to be appended is prepared, for some view and effect
abbrev pub IsReadyToAppend : Table → ShardCall → Answered → Type 0
IsReadyToAppend table called (Done reply) = ⊤
IsReadyToAppend table called (Append prepared) = (v : View) × (e : Effect) × IsReadyIn table prepared called v e
