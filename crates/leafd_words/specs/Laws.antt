-- What the reading gives a command.
use Rattle.std.specs.Prelude.{◌≡◌, ℕ, List, [], ◌∷◌, Some, true, is_some, codes, if◌then◌else◌}
use Rattle.std.specs.List.{AllByRecursion}
use Rattle.std.specs.Str.{bytes_eq}
use Rattle.clap.specs.Simple.{subcommand_of}
use Rattle.clap.specs.Walk.{Row, Text, first_of}
use Rattle.leafd_words.specs.Commands.{is_taken, leafd_app}

-- the values of the command of this name
abbrev pub values_of : List ℕ → List (List ℕ)
values_of name =
    if bytes_eq name (codes "drill") then []
    else if bytes_eq name (codes "check") then codes "CONF" ∷ []
    else if bytes_eq name (codes "inspect") then codes "DIR" ∷ []
    else codes "SRC" ∷ codes "DEST" ∷ codes "SUBJECT" ∷ []

-- a value was found for each of them
abbrev pub HasEachValue : Text × List Row → Type 0
HasEachValue found = AllByRecursion (λ id. is_some (first_of id found.1) ≡ true) (values_of found.0)

-- where the reading takes the words, each value of the command is among them
abbrev pub EachValueIsThere : Type 0
EachValueIsThere = (words : List (List ℕ)) (found : Text × List Row) → is_taken words ≡ true → subcommand_of leafd_app words ≡ Some found → HasEachValue found
