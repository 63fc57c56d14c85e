-- The files of a store in a folder.
use Rattle.std.specs.Prelude.{◌≡◌, ℕ, Bool, List, ◌∷◌, ◌++◌, Option, codes, decimal}
use Rattle.std.specs.Option.{option_map}
use Rattle.record_log.specs.declared.fault.Part.{Part}
use Rattle.record_log.specs.declared.fault.Part.TheVariants.{Main, Spare}

-- the bytes of the disk in its place under a name
abbrev pub contents : {F D : Type 0} → (F → List ℕ → Option D) → (D → List ℕ) → F → List ℕ → Option (List ℕ)
contents place seen files name = option_map seen (place files name)

-- what is read under each name, and which disks are out, is as before
pub record KeepsFiles {F D : Type 0} (place : F → List ℕ → Option D) (is_out : F → List ℕ → Bool) (seen : D → List ℕ) (old new : F) : Type 0 where
  pub bytes : (name : List ℕ) → contents place seen new name ≡ contents place seen old name
  pub outs : (name : List ℕ) → is_out new name ≡ is_out old name

-- the ending of a file's name
abbrev pub part_text : Part → List ℕ
part_text Main = codes ".a"
part_text Spare = codes ".b"

-- the name of a file of a shard, as `shard-0.a`
abbrev pub file_name : ℕ → Part → List ℕ
file_name shard part = codes "shard-" ++ (decimal shard ++ part_text part)

-- the name under which the files are asked for it: the folder, a slash, the file's name
abbrev pub path : List ℕ → ℕ → Part → List ℕ
path dir shard part = dir ++ 47 ∷ file_name shard part
