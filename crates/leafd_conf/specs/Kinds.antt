-- The words by which a fault of a configuration file is told.
use Rattle.std.specs.Prelude.{ℕ, List, codes}
use Rattle.leafd_conf.specs.declared.fault.ConfKind.{ConfKind}
use Rattle.leafd_conf.specs.declared.fault.ConfKind.TheVariants.{NoFile, Syntax, Unknown, Missing, BadValue}

-- the word by which a kind of fault is told
abbrev pub kind_word : ConfKind → List ℕ
kind_word NoFile = codes "NoFile"
kind_word Syntax = codes "Syntax"
kind_word Unknown = codes "Unknown"
kind_word Missing = codes "Missing"
kind_word BadValue = codes "BadValue"
