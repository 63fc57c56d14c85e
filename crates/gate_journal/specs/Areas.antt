-- What the bytes of an area mean. An area is what one disk holds of a journal.
use Rattle.std.specs.Prelude.{◌≡◌, ◌≢◌, ◌⊎◌, ℕ, ◌+◌, ◌<◌, ◌≤◌, ◌^◌, Bool, true, false, ◌==◌, List, [], ◌∷◌, ◌++◌, length, take, All}
use Rattle.std.specs.Int.{w32, w64, to_le_bytes, from_le_bytes}
use Rattle.gate_journal.specs.declared.area.Ending.{Ending}
use Rattle.gate_journal.specs.declared.area.Ending.TheVariants.{Closed, Missing, Unreadable}

-- the most bytes of a body
abbrev pub max_body : ℕ
max_body = 2097152

-- the most bytes of an area
abbrev pub max_area : ℕ
max_area = 2 ^ 40

-- `LEAFJRN1` in ASCII
abbrev pub magic : List ℕ
magic = 76 ∷ 69 ∷ 65 ∷ 70 ∷ 74 ∷ 82 ∷ 78 ∷ 49 ∷ []

-- the head, 17 bytes: the magic, the area gate, the generation
abbrev pub head : ℕ → ℕ → List ℕ
head area_gate generation = magic ++ area_gate ∷ to_le_bytes w64 generation

-- a record: an open gate, the body's length in 4 bytes, the body
abbrev pub block : List ℕ → List ℕ
block body = 1 ∷ to_le_bytes w32 (length body) ++ body

-- the records of these bodies, one after another
abbrev pub blocks : List (List ℕ) → List ℕ
blocks [] = []
blocks (body ∷ bodies) = block body ++ blocks bodies

-- the length of a body is legal
abbrev pub IsBody : List ℕ → Type 0
IsBody body = (1 ≤ length body) × (length body ≤ max_body)

-- the place behind the records of these bodies
abbrev pub end_of : List (List ℕ) → ℕ
end_of bodies = 17 + length (blocks bodies)

-- An area: its head, the records of its bodies, one byte more, anything. Where it counts, that byte is a closed gate;
-- where it doesn't, it has no bodies, and no gate is read.
pub record IsArea (counts : Bool) (generation : ℕ) (bodies : List (List ℕ)) (c : List ℕ) : Type 0 where
  pub area_gate : ℕ
  pub gate : ℕ
  pub rest : List ℕ
  pub is : c ≡ head area_gate generation ++ blocks bodies ++ gate ∷ rest
  pub counted : (area_gate == 1) ≡ counts
  pub stamp : generation < 2 ^ 64
  pub legal : All IsBody bodies
  pub closed : counts ≡ true → gate ≢ 1
  pub unread : counts ≡ false → bodies ≡ []

-- behind an open gate no body can be read: the disk ends within its length, which is else 0, above the most, or passes the end
abbrev pub HasBadLength : List ℕ → Type 0
HasBadLength c = (length c < 4) ⊎ ((size c ≡ 0) ⊎ ((max_body < size c) ⊎ (length c < 4 + size c)))
  where
    size : List ℕ → ℕ
    size c = from_le_bytes w32 (take 4 c)

-- where a gate is due there is none, or an open one with a bad length
abbrev pub IsUnreadable : List ℕ → Type 0
IsUnreadable [] = Unit {0}
IsUnreadable (gate ∷ c) = (gate ≡ 1) × HasBadLength c

-- the area has no head, or not a gate's place behind it
abbrev pub IsHeadless : List ℕ → Type 0
IsHeadless c = (length c < 18) ⊎ (take 8 c ≢ magic)

-- the area counts, and behind the records of some bodies, at this place, nothing can be read
pub record BreaksAt (place : ℕ) (c : List ℕ) : Type 0 where
  pub generation : ℕ
  pub bodies : List (List ℕ)
  pub rest : List ℕ
  pub is : c ≡ head 1 generation ++ blocks bodies ++ rest
  pub stamp : generation < 2 ^ 64
  pub legal : All IsBody bodies
  pub unreadable : IsUnreadable rest
  pub long : 18 ≤ length c
  pub place_is : place ≡ end_of bodies

-- the bytes are no area, and this is the place of the first that tells it
abbrev pub IsBroken : ℕ → List ℕ → Type 0
IsBroken place c = ((place ≡ 0) × IsHeadless c) ⊎ BreaksAt place c

-- How the records of an area end: at a closed gate, at the end of the disk where a gate is due, or at an open gate behind
-- which no body can be read.
abbrev pub EndsIn : Ending → List ℕ → Type 0
EndsIn Closed c = (gate : ℕ) × (rest : List ℕ) × (c ≡ gate ∷ rest) × (gate ≢ 1)
EndsIn Missing c = c ≡ []
EndsIn Unreadable c = (rest : List ℕ) × (c ≡ 1 ∷ rest) × HasBadLength rest

-- what an area holds: whether it counts, its generation, its bodies, and how their records end
pub record AreaState : Type 0 where
  pub counts : Bool
  pub generation : ℕ
  pub bodies : List (List ℕ)
  pub ending : Ending

-- an area that isn't there: it doesn't count
abbrev pub no_area : AreaState
no_area = record { counts = false; generation = 0; bodies = []; ending = Closed }

-- An area whole or broken: its head, and where it counts the records of its bodies up to what ends them. Where it
-- doesn't count it has no bodies, and no gate is read.
pub record Holds (area : AreaState) (c : List ℕ) : Type 0 where
  pub area_gate : ℕ
  pub rest : List ℕ
  pub is : c ≡ head area_gate area.generation ++ blocks area.bodies ++ rest
  pub long : 18 ≤ length c
  pub counted : (area_gate == 1) ≡ area.counts
  pub stamp : area.generation < 2 ^ 64
  pub legal : All IsBody area.bodies
  pub ends : area.counts ≡ true → EndsIn area.ending rest
  pub unread : area.counts ≡ false → (area.bodies ≡ []) × (area.ending ≡ Closed)
