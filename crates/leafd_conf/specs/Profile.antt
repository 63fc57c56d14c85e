-- The members of a configuration file, and what each may be.
use Rattle.std.specs.Prelude.{◌≡◌, ℕ, List, [], ◌∷◌, Bool, true, false, ◌&&◌, ◌||◌, not, ◌==◌, nat_le, if◌then◌else◌, Option, None, Some, is_some, option_map, option_and_then, Result, Ok, Err, codes}
use Rattle.std.specs.List.{list_any}
use Rattle.std.specs.Option.{option_map_or}
use Rattle.std.specs.Str.{bytes_eq}
use Rattle.toml.specs.Data.{Data, array, table, Items, no_items, item, Members, no_members, member, get_member, as_str}
use Rattle.nats_text.specs.Numbers.{number_of}
use Rattle.nats_text.specs.Text.{is_name}
use Rattle.nats_text.specs.declared.origin.Mapping.{Mapping}
use Rattle.subject_transform.specs.Transforms.{is_transform}
use Rattle.leafd_conf.specs.declared.fault.ConfKind.{ConfKind}
use Rattle.leafd_conf.specs.declared.fault.ConfKind.TheVariants.{Missing, BadValue}
use Rattle.leafd_conf.specs.declared.fault.ConfProblem.{ConfProblem}
use Rattle.leafd_conf.specs.declared.fault.ConfProblem.TheVariants.{Bad, NoMemory}
use Rattle.leafd_conf.specs.declared.member.TextRule.{TextRule}
use Rattle.leafd_conf.specs.declared.member.TextRule.TheVariants.{Any, Address}

-- the first fault
infixl 10 ◌>>=◌
abbrev pub ◌>>=◌ : {A B : Type 0} → Result A ConfProblem → (A → Result B ConfProblem) → Result B ConfProblem
(Ok x) >>= f = f x
(Err fault) >>= f = Err fault

-- what is answered is what reading gives, unless memory ran out
abbrev pub Gives : {A : Type 0} → Result A ConfProblem → Result A ConfProblem → Type 0
Gives (Ok x) read = read ≡ Ok x
Gives (Err (Bad kind key)) read = read ≡ Err (Bad kind key)
Gives (Err NoMemory) read = Unit {0}

-- the fault of this member, unless there is no memory for its name
abbrev pub IsProblem : ConfKind → List ℕ → ConfProblem → Type 0
IsProblem kind key (Bad other name) = (other ≡ kind) × (name ≡ key)
IsProblem kind key NoMemory = Unit {0}

-- ---- texts

-- the port's number, of 1 to 19 digits, is at most 65,535
abbrev pub is_port : List ℕ → Bool
is_port text = option_map_or (λ port. nat_le port 65535) (number_of text) false

-- a colon is followed by a port alone
abbrev pub ends_in_port : List ℕ → Bool
ends_in_port [] = false
ends_in_port (b ∷ bs) = (b == 58 && is_port bs) || ends_in_port bs

-- one or more bytes, then a colon and a port
abbrev pub is_address : List ℕ → Bool
is_address [] = false
is_address (b ∷ bs) = ends_in_port bs

-- no node has one of these names
abbrev pub is_reserved : List ℕ → Bool
is_reserved name = bytes_eq name (codes "API") || bytes_eq name (codes "M") || bytes_eq name (codes "FC")

-- a name that a node may have
abbrev pub is_node_name : List ℕ → Bool
is_node_name name = not (is_reserved name) && is_name name

-- what the text of a member has to be
abbrev pub takes : TextRule → List ℕ → Bool
takes Any text = true
takes Address text = is_address text

-- ---- values

-- a string that passes a test
abbrev pub text_that : (List ℕ → Bool) → Data → Option (List ℕ)
text_that test value = option_and_then (λ text. if test text then Some text else None) (as_str value)

-- a name that a node may have
abbrev pub name_in : Data → Option (List ℕ)
name_in value = text_that is_node_name value

-- a text by its rule
abbrev pub text_in : TextRule → Data → Option (List ℕ)
text_in rule value = text_that (takes rule) value

-- a text that may be left out
abbrev pub optional_text_in : Data → Option (Option (List ℕ))
optional_text_in value = option_map Some (as_str value)

-- the two texts, where they are a transform
abbrev pub transform_of : List ℕ → List ℕ → Option Mapping
transform_of src dest = if is_transform src dest then Some (record { src = src; dest = dest }) else None

abbrev pub transform_from : Option (List ℕ) → Option (List ℕ) → Option Mapping
transform_from (Some src) (Some dest) = transform_of src dest
transform_from _ _ = None

-- ---- members

-- the key is one of these
abbrev pub is_among : List (List ℕ) → List ℕ → Bool
is_among keys key = list_any (λ k. bytes_eq k key) keys

-- the first member whose key isn't one of these; the members of a table come in the order of their bytes
abbrev pub first_other : List (List ℕ) → Members → Option (List ℕ)
first_other keys no_members = None
first_other keys (member key value members) = if is_among keys key then first_other keys members else Some key

-- a mapping: a table of the strings `src` and `dest` alone, which are a transform
abbrev pub mapping_of : Members → Option Mapping
mapping_of members =
    if is_some (first_other (codes "src" ∷ codes "dest" ∷ []) members) then None
    else transform_from (option_and_then as_str (get_member (codes "src") members)) (option_and_then as_str (get_member (codes "dest") members))

abbrev pub mapping_in : Data → Option Mapping
mapping_in (table members) = mapping_of members
mapping_in _ = None

-- one more in front, where there is one
abbrev pub before : Option Mapping → Option (List Mapping) → Option (List Mapping)
before (Some mapping) (Some mappings) = Some (mapping ∷ mappings)
before _ _ = None

-- an array of mappings alone
abbrev pub mappings_of : Items → Option (List Mapping)
mappings_of no_items = Some []
mappings_of (item value items) = before (mapping_in value) (mappings_of items)

abbrev pub mappings_in : Data → Option (List Mapping)
mappings_in (array items) = mappings_of items
mappings_in _ = None

-- what was read of a member's value, or the fault that it is bad
abbrev pub or_bad : {A : Type 0} → List ℕ → Option A → Result A ConfProblem
or_bad key None = Err (Bad BadValue key)
or_bad key (Some x) = Ok x

-- a member that has to be there
abbrev pub required_value : {A : Type 0} → (Data → Option A) → List ℕ → Option Data → Result A ConfProblem
required_value read key None = Err (Bad Missing key)
required_value read key (Some value) = or_bad key (read value)

abbrev pub required : {A : Type 0} → (Data → Option A) → List ℕ → Members → Result A ConfProblem
required read key members = required_value read key (get_member key members)

-- a member that may be left out, which then counts as this
abbrev pub optional_value : {A : Type 0} → (Data → Option A) → A → List ℕ → Option Data → Result A ConfProblem
optional_value read absent key None = Ok absent
optional_value read absent key (Some value) = or_bad key (read value)

abbrev pub optional : {A : Type 0} → (Data → Option A) → A → List ℕ → Members → Result A ConfProblem
optional read absent key members = optional_value read absent key (get_member key members)
