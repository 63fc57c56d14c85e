-- What a table holds that read its log again and was opened once more.
use Rattle.std.proofs.Common.{◌+◌, ◌<◌, ◌^◌, ℕ, List, sym, subst}
use Rattle.record_codec.specs.declared.records.Rec.{Rec}
use Rattle.record_codec.specs.declared.records.Rec.TheVariants.{Boot}
use Rattle.shard_machine.specs.Images.{image, next, no_image}
use Rattle.shard_machine.specs.Logs.{boot}
use Rattle.shard_machine.specs.Views.{View}
use Rattle.shard_table.specs.Effects.{opened}
use Rattle.shard_table.specs.Holding.{Holds}
use Rattle.shard_table.specs.declared.table.Table.{Table}
use Rattle.shard_calls.proofs.Loading.{image-boot}

pub reopened : (mid new : Table) (node : List ℕ) (log : List Rec) → Holds mid (opened node (image log)) → ((v : View) → Holds mid v → v.image.boot + 1 < 2 ^ 63 → Holds new (opened v.node (next v.image (Boot (v.image.boot + 1))))) → boot log + 1 < 2 ^ 63 → Holds new (opened node (next (image log) (Boot (boot log + 1))))
reopened mid new node log holds opens small =
    subst (λ (k : ℕ). Holds new (opened node (next (image log) (Boot (k + 1))))) (image-boot no_image log)
    (opens (opened node (image log)) holds (subst (λ (k : ℕ). k + 1 < 2 ^ 63) (sym (image-boot no_image log)) small))
