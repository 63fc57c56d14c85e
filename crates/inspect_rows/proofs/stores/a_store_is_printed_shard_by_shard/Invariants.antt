use Rattle.std.proofs.Common.{◌≡◌, ℕ, List, false}
use Rattle.mem_disk.specs.Stores.{store_is_out}
use Rattle.inspect_rows.proofs.stores.a_store_is_printed_shard_by_shard.Given as goal

-- no disk is out
abbrev pub invariant-loop-name : goal.invariant-loop-name
invariant-loop-name g l = (other : List ℕ) → store_is_out l.files other ≡ false
