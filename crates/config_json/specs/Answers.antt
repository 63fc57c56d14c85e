-- What a reading gives, and how readings follow one another.
use Rattle.std.specs.Prelude.{◌≡◌, List, ℕ, Bool, if◌then◌else◌, Option, None, Some, Result, Ok, Err}
use Rattle.std.specs.Str.{IsUtf8}
use Rattle.config_json.specs.declared.fault.ApiFault.{ApiFault}
use Rattle.config_json.specs.declared.fault.ApiFault.TheVariants.{BadRequest, BadConfig, NotForClients, NotApi, NoMemory}

-- a reading gave what it should, unless there was no memory; the name of a wrong member is text
abbrev pub IsRead : {T : Type 0} → Result T ApiFault → Result T ApiFault → Type 0
IsRead (Ok value) expected = expected ≡ Ok value
IsRead (Err BadRequest) expected = expected ≡ Err BadRequest
IsRead (Err (BadConfig name)) expected = (expected ≡ Err (BadConfig name)) × IsUtf8 name
IsRead (Err NotForClients) expected = expected ≡ Err NotForClients
IsRead (Err NotApi) expected = expected ≡ Err NotApi
IsRead (Err NoMemory) expected = Unit {0}

-- the member of this name is what it should be, and is used; or it is wrong
abbrev pub member : {A B : Type 0} → List ℕ → Option A → (A → Result B ApiFault) → Result B ApiFault
member name None go = Err (BadConfig name)
member name (Some value) go = go value

-- the member of this name is right, and the rest follows; or it is wrong
abbrev pub member_is : {B : Type 0} → List ℕ → Bool → Result B ApiFault → Result B ApiFault
member_is name right rest = if right then rest else Err (BadConfig name)

-- one reading, and another behind it that uses what it gave
abbrev pub and_then : {A B : Type 0} → Result A ApiFault → (A → Result B ApiFault) → Result B ApiFault
and_then (Err fault) go = Err fault
and_then (Ok value) go = go value

-- there is no wrong member, and the rest follows
abbrev pub no_wrong : {B : Type 0} → Option (List ℕ) → Result B ApiFault → Result B ApiFault
no_wrong None rest = rest
no_wrong (Some name) rest = Err (BadConfig name)

-- what says that the member of this name is wrong, unless there was no memory
abbrev pub IsFaultOf : ApiFault → List ℕ → Type 0
IsFaultOf BadRequest name = ⊥
IsFaultOf (BadConfig told) name = (told ≡ name) × IsUtf8 told
IsFaultOf NotForClients name = ⊥
IsFaultOf NotApi name = ⊥
IsFaultOf NoMemory name = Unit {0}
