-- The content of a disk as it follows from its writes, cuts and syncs, and what a crash may leave of it.
use Rattle.std.specs.Prelude.{◌≡◌, ℕ, ◌-◌, ◌/◌, List, [], ◌∷◌, ◌++◌, map, length, take, replicate}
use Rattle.leaf_edges.specs.Disks.{Op, wrote, cut_to, synced, overwritten, Torn, Cut}
use Rattle.mem_disk.specs.declared.fate.Fate.{Fate}
use Rattle.mem_disk.specs.declared.fate.Fate.TheVariants.{Lost, All, Torn as TornFate}

-- the bytes after one call
abbrev pub after_op : List ℕ → Op → List ℕ
after_op bytes (wrote place new) = overwritten bytes place new
after_op bytes (cut_to len) = take len bytes
after_op bytes synced = bytes

-- the bytes after these calls, the first first
abbrev pub after_ops : List ℕ → List Op → List ℕ
after_ops bytes [] = bytes
after_ops bytes (op ∷ ops) = after_ops (after_op bytes op) ops

-- what the last sync left, and the calls since
pub record Content : Type 0 where
  pub base : List ℕ
  pub since : List Op

-- nothing is unsynced
abbrev pub settled : List ℕ → Content
settled bytes = record { base = bytes; since = [] }

-- what a read gives
abbrev pub seen_in : Content → List ℕ
seen_in c = after_ops c.base c.since

-- one call more
abbrev pub after_call : Content → Op → Content
after_call c (wrote place bytes) = record { base = c.base; since = c.since ++ wrote place bytes ∷ [] }
after_call c (cut_to len) = record { base = c.base; since = c.since ++ cut_to len ∷ [] }
after_call c synced = settled (seen_in c)

-- these calls more, the first first
abbrev pub after_calls : Content → List Op → Content
after_calls c [] = c
after_calls c (op ∷ ops) = after_calls (after_call c op) ops

-- what a crash may make of one call
abbrev pub Takes : Op → List ℕ → List ℕ → Type 0
Takes (wrote place bytes) old new = Torn place (length bytes) old new
Takes (cut_to len) old new = Cut len old new
Takes synced old new = new ≡ old

-- what a crash may make of these calls, one after another
abbrev pub Reaches : List ℕ → List Op → List ℕ → Type 0
Reaches bytes [] image = image ≡ bytes
Reaches bytes (op ∷ ops) image = (next : List ℕ) × Takes op bytes next × Reaches next ops image

-- an image that a crash may leave
abbrev pub IsImage : Content → List ℕ → Type 0
IsImage c image = Reaches c.base c.since image

-- the first half of the bytes, rounded down, and 0xA5 in place of the rest
abbrev pub torn_bytes : List ℕ → List ℕ
torn_bytes bytes = take (length bytes / 2) bytes ++ replicate (length bytes - length bytes / 2) 0xA5

-- a call whose bytes are torn
abbrev pub torn_op : Op → Op
torn_op (wrote place bytes) = wrote place (torn_bytes bytes)
torn_op (cut_to len) = cut_to len
torn_op synced = synced

-- the image that a fate picks
abbrev pub picked : Fate → Content → List ℕ
picked Lost c = c.base
picked All c = seen_in c
picked TornFate c = after_ops c.base (map torn_op c.since)
