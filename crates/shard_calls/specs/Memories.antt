-- What a shard keeps in memory, and what holds of it always.
use Rattle.std.specs.Prelude.{◌≤◌, Bool, true, false, Option, refl}
use Rattle.std.specs.Coded.{Coded, code_by, coded×}
use Rattle.record_codec.specs.declared.records.Rec.{Rec}
use Rattle.record_log.specs.LogStates.{LogState, log_code}
use Rattle.shard_machine.specs.Views.{View}
use Rattle.shard_table.specs.Holding.{Holds}
use Rattle.shard_table.specs.declared.table.Table.{Table}

-- the table, whether the shard is loaded, and the record that the log may have or not
pub record MemoryParts : Type 0 where
  pub table : Table
  pub loaded : Bool
  pub doubt : Option Rec

-- the table holds some view of a log that was opened
pub record IsOpened (table : Table) : Type 0 where
  pub view : View
  pub holds : Holds table view
  pub booted : 1 ≤ view.image.boot

-- the table holds some view, where the shard is loaded that of a log that was opened
abbrev pub IsWhole : Bool → Table → Type 0
IsWhole true table = IsOpened table
IsWhole false table = (view : View) × Holds table view

-- what a shard keeps in memory, and its log
pub record ShardState (D : Type 0) : Type 0 where
  pub memory : MemoryParts
  pub log : LogState D

abbrev pub shard_code : {D : Type 0} → Coded MemoryParts → Coded D → Coded (ShardState D)
shard_code {D} m d = code_by (MemoryParts × LogState D) (coded× m (log_code d)) (λ s. (s.memory, s.log)) (λ q. record { memory = q.0; log = q.1 }) (λ _. refl)

-- the two parts of a shard
abbrev pub at : {D : Type 0} → MemoryParts → LogState D → ShardState D
at m l = record { memory = m; log = l }
