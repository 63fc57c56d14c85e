-- What a check of a configuration file prints, and how it may end.
use Rattle.std.specs.Prelude.{◌≡◌, ◌⊎◌, ℕ, List, [], ◌∷◌, ◌++◌, if◌then◌else◌, Option, None, Some, is_some, Result, Ok, Err, codes}
use Rattle.std.specs.Io.KnownBytes.{Appends, Keeps}
use Rattle.leaf_edges.specs.Causes.{AppendsPrefix}
use Rattle.leafd_conf.specs.declared.conf.Conf.{Conf}
use Rattle.leafd_conf.specs.declared.fault.ConfKind.TheVariants.{NoFile}
use Rattle.leafd_conf.specs.declared.fault.ConfProblem.{ConfProblem}
use Rattle.leafd_conf.specs.declared.fault.ConfProblem.TheVariants.{Bad}
use Rattle.leafd_conf.specs.Confs.{conf_of}
use Rattle.leafd_cli.specs.declared.status.Status.{Status}
use Rattle.leafd_cli.specs.declared.status.Status.TheVariants.{Done, ScriptFault, ConfFault, Usage, ReadFault, WriteFault, DiskFault, NoMemory, ScriptTooLong, BadJournal, JournalTooLong, BadTransform, NoMatch}

-- whether a node is a hub or a leaf
abbrev pub place_word : Conf → List ℕ
place_word conf = if is_some conf.leaf_listen then codes "hub" else codes "leaf"

-- what is printed of a configuration: the node's name, and whether it is a hub or a leaf
abbrev pub conf_text : Conf → List ℕ
conf_text conf = codes "conf " ++ (conf.name ++ 32 ∷ (place_word conf ++ 10 ∷ []))

-- what a file says, or its first fault: that it isn't there, or that of its text
abbrev pub conf_of_file : Option (List ℕ) → Result Conf ConfProblem
conf_of_file None = Err (Bad NoFile [])
conf_of_file (Some text) = conf_of text

-- a prefix of what is printed of a configuration was written
abbrev pub ChecksInPart : Result Conf ConfProblem → Option (List ℕ) → Option (List ℕ) → Type 0
ChecksInPart said before after = (conf : Conf) × (said ≡ Ok conf) × AppendsPrefix before after (conf_text conf)

-- what a check has written, by its status, where this is what the file says
abbrev pub ChecksSaid : Result Conf ConfProblem → Option (List ℕ) → Option (List ℕ) → Status → Type 0
ChecksSaid said before after Done = (conf : Conf) × (said ≡ Ok conf) × Appends before after (conf_text conf)
ChecksSaid said before after (ScriptFault line kind) = ⊥
ChecksSaid said before after (ConfFault kind key) = (said ≡ Err (Bad kind key)) × Keeps before after
ChecksSaid said before after Usage = ⊥
ChecksSaid said before after ReadFault = Keeps before after
ChecksSaid said before after WriteFault = ChecksInPart said before after
ChecksSaid said before after DiskFault = ⊥
ChecksSaid said before after NoMemory = Keeps before after ⊎ ChecksInPart said before after
ChecksSaid said before after ScriptTooLong = ⊥
ChecksSaid said before after (BadJournal name place) = ⊥
ChecksSaid said before after (JournalTooLong name len) = ⊥
ChecksSaid said before after (BadTransform place kind) = ⊥
ChecksSaid said before after NoMatch = ⊥

-- what a check of this file has written. Where the files don't tell what they hold, it is a check of some file.
pub record Checks (tells : Type 0) (file before after : Option (List ℕ)) (status : Status) : Type 0 where
  pub text : Option (List ℕ)
  pub is_file : tells → file ≡ text
  pub written : ChecksSaid (conf_of_file text) before after status
