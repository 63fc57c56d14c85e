-- What words do of which the command is known, refused, or not read for want of memory.
use Rattle.std.proofs.Common.{◌≡◌, false, ℕ, List, refl, sym, inl, inr, subst}
use Rattle.std.specs.Prelude.{Bool, Option, None, Some}
use Rattle.std.specs.Io.KnownBytes.{Keeps}
use Rattle.leaf_edges.specs.Files.{SameFiles}
use Rattle.leafd_words.specs.Commands.{Command, MapTexts, drill, check, inspect, map_subject, command_of, is_taken}
use Rattle.leafd_cli.specs.declared.status.Status.TheVariants.{Usage, NoMemory}
use Rattle.leafd_cli.specs.Runs.{ByCommand, Does, Shown}

pub each_command : (D N : Type 0) (C I : List ℕ → Type 0) (M : MapTexts → Type 0) (command : Option Command) → D → ((conf : List ℕ) → C conf) → ((dir : List ℕ) → I dir) → ((texts : MapTexts) → M texts) → N → ByCommand command D C I M N
each_command D N C I M None d c i m n = n
each_command D N C I M (Some drill) d c i m n = d
each_command D N C I M (Some (check conf)) d c i m n = c conf
each_command D N C I M (Some (inspect dir)) d c i m n = i dir
each_command D N C I M (Some (map_subject texts)) d c i m n = m texts

pub kept_taken : (taken : Option (List ℕ)) → Keeps taken taken
kept_taken None = tt
kept_taken (Some bytes) = refl

-- there was no memory to read the words, and nothing was done
pub nothing_done : (command : Option Command) (tells : Type 0) (disks texts : List ℕ → Option (List ℕ)) (s : Shown) → Does command tells disks texts s s NoMemory
nothing_done None tells disks texts s = record { report = kept_taken s.taken; read = refl; write = refl; disk = refl }
nothing_done (Some drill) tells disks texts s = record { report = inl (kept_taken s.taken); read = refl; write = refl; disk = refl }
nothing_done (Some (check conf)) tells disks texts s = record { report = record { text = texts conf; is_file = λ _. refl; written = inl (kept_taken s.taken) }; read = refl; write = refl; disk = refl }
nothing_done (Some (inspect dir)) tells disks texts s = record { report = inl (kept_taken s.taken); read = refl; write = refl; disk = refl }
nothing_done (Some (map_subject words)) tells disks texts s = record { report = inl (kept_taken s.taken); read = refl; write = refl; disk = refl }

-- words that are refused are no command
pub refused_none : (words : List (List ℕ)) → is_taken words ≡ false → command_of words ≡ None
unfolding command_of
refused_none words refused = rw refused refl

-- nothing was done for words that are refused
pub refused_done : (words : List (List ℕ)) (tells : Type 0) (disks texts : List ℕ → Option (List ℕ)) (s : Shown) → is_taken words ≡ false → Does (command_of words) tells disks texts s s Usage
refused_done words tells disks texts s refused =
    subst (λ command. Does command tells disks texts s s Usage) (sym (refused_none words refused)) (record { report = kept_taken s.taken; read = refl; write = refl; disk = refl })

-- files that are left alone are as they were
pub same_files : {F D : Type 0} (place : F → List ℕ → Option D) (is_out : F → List ℕ → Bool) (handed : F → List (List ℕ)) (text_of : F → List ℕ → Option (List ℕ)) (files : F) → SameFiles place is_out handed text_of files files
same_files place is_out handed text_of files = record { places = λ _. refl; outs = λ _. refl; list = refl; texts = λ _. refl }
