-- What is said of a destination while it is read and written.
use Rattle.std.specs.Prelude.{ℕ, List, [], ◌∷◌, ◌++◌, Option, None, Some, Result, Ok, Err}
use Rattle.subject_transform.specs.declared.fault.TransformFault.{TransformFault}
use Rattle.subject_transform.specs.Parts.{Part}

-- the fault of a reading
abbrev pub fault_of : Result (List Part) TransformFault → Option TransformFault
fault_of (Ok parts) = None
fault_of (Err fault) = Some fault

-- a text behind others
abbrev pub text_behind : List ℕ → Option (List ℕ) → Option (List ℕ)
text_behind text None = None
text_behind text (Some more) = Some (text ++ more)
