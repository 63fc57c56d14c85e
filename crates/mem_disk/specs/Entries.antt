-- What a disk in memory keeps of its calls.
use Rattle.std.specs.Prelude.{Bool, if◌then◌else◌, ℕ, ◌+◌, ◌≤◌, List, [], ◌∷◌, map, length}
use Rattle.leaf_edges.specs.Disks.{Op, wrote, cut_to, synced}
use Rattle.mem_disk.specs.Contents.{torn_op}
use Rattle.mem_disk.specs.declared.entry.Entry.{Entry}
use Rattle.mem_disk.specs.declared.entry.Entry.TheVariants.{Write, Cut, Sync}

abbrev pub op_of : Entry → Op
op_of (Write place bytes) = wrote place bytes.items
op_of (Cut len) = cut_to len
op_of Sync = synced

abbrev pub ops_of : List Entry → List Op
ops_of entries = map op_of entries

-- the first bytes are those that are there, until an entry stands in the list
abbrev pub first_bytes : List Entry → List ℕ → List ℕ → List ℕ
first_bytes [] kept bytes = bytes
first_bytes (entry ∷ entries) kept bytes = kept

-- what is done of a call that is done again, whole or torn
abbrev pub redone : Bool → Op → Op
redone torn op = if torn then torn_op op else op

-- a write ends within so many bytes
abbrev pub EndsWithin : ℕ → Op → Type 0
EndsWithin room (wrote place bytes) = place + length bytes ≤ room
EndsWithin room (cut_to len) = Unit {0}
EndsWithin room synced = Unit {0}
