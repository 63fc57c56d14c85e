use Rattle.std.proofs.Common.{◌≡◌, ℕ, List, [], ◌∷◌, ◌++◌, true, false, Option, Some, None, refl, sym, ap, ◌∙◌, subst}
use Rattle.std.specs.Option.{option_copied}
use Rattle.shard_table.proofs.table.Table.store.Goals as goal

pub returns-in-Ok : goal.returns-in-Ok
returns-in-Ok c = λ v packet now h x. c.store_ready.ensures v packet now h x c.in-Ok.ensures
