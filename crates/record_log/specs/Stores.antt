-- What the two disks of a shard stand for, and the first thing that is wrong with them.
use Rattle.std.specs.Prelude.{◌≡◌, ◌⊎◌, ℕ, ◌<◌, ◌≤◌, nat_lt, Bool, true, false, not, ◌&&◌, ◌||◌, if◌then◌else◌, List, ◌∷◌, ◌++◌, length, Option, None, Some, Result, Ok, Err, ⊤}
use Rattle.leaf_edges.specs.Causes.{RoseByOne}
use Rattle.gate_journal.specs.Areas.{AreaState, Holds, no_area, IsHeadless, max_area, end_of}
use Rattle.gate_journal.specs.declared.area.Ending.TheVariants.{Closed, Missing, Unreadable}
use Rattle.record_codec.specs.declared.records.Rec.{Rec}
use Rattle.record_log.specs.declared.fault.Part.{Part}
use Rattle.record_log.specs.declared.fault.Part.TheVariants.{Main, Spare}
use Rattle.record_log.specs.declared.fault.StoreFault.{StoreFault}
use Rattle.record_log.specs.declared.fault.StoreFault.TheVariants.{ReadFault, BadJournal, TooLong, NoMemory}
use Rattle.shard_machine.specs.Legal.{IsLogOf, IsNoNext}

-- the spare is there, and has it
abbrev pub OnSpare : (List ℕ → Type 0) → Option (List ℕ) → Type 0
OnSpare P None = ⊥
OnSpare P (Some c) = P c

-- what the spare holds; one that isn't there doesn't count
abbrev pub SpareHolds : AreaState → Option (List ℕ) → Type 0
SpareHolds area None = area ≡ no_area
SpareHolds area (Some c) = Holds area c

-- of two things the first that has a fault, and the place of the fault
abbrev pub IsFirst : {A B : Type 0} → (A → ℕ → Type 0) → (B → ℕ → Type 0) → A → B → Part → ℕ → Type 0
IsFirst P Q a b part place = ((part ≡ Main) × P a place) ⊎ ((part ≡ Spare) × ((p : ℕ) → P a p → ⊥) × Q b place)

-- no place of it has the fault
abbrev pub HasNo : {A : Type 0} → (A → ℕ → Type 0) → A → Type 0
HasNo P a = (place : ℕ) → P a place → ⊥

-- a disk has more bytes than an area may have, namely so many
abbrev pub IsLong : List ℕ → ℕ → Type 0
IsLong c len = (max_area < length c) × (len ≡ length c)

-- the first disk with too many bytes
abbrev pub IsTooLong : List ℕ → Option (List ℕ) → Part → ℕ → Type 0
IsTooLong a b part len = IsFirst IsLong (λ c n. OnSpare (λ bytes. IsLong bytes n) c) a b part len

-- the bytes have no head: place 0
abbrev pub LacksHead : List ℕ → ℕ → Type 0
LacksHead c place = (place ≡ 0) × IsHeadless c

-- the disk ends where a gate is due
abbrev pub LacksGate : AreaState → ℕ → Type 0
LacksGate area place = (area.ending ≡ Missing) × (place ≡ end_of area.bodies)

-- this body is the first that is no record which may follow those before it
pub record HasBadBody (area : AreaState) (place : ℕ) : Type 0 where
  pub before : List (List ℕ)
  pub body : List ℕ
  pub after : List (List ℕ)
  pub are : area.bodies ≡ before ++ body ∷ after
  pub log : List Rec
  pub stands : IsLogOf log before
  pub no_next : IsNoNext log body
  pub place_is : place ≡ end_of before

-- all bodies are a log, and behind an open gate no body can be read
pub record EndsWithBadLength (area : AreaState) (place : ℕ) : Type 0 where
  pub log : List Rec
  pub stands : IsLogOf log area.bodies
  pub ending : area.ending ≡ Unreadable
  pub place_is : place ≡ end_of area.bodies

-- the least place of an open gate behind which there is no record that may follow
abbrev pub HasBadGate : AreaState → ℕ → Type 0
HasBadGate area place = HasBadBody area place ⊎ EndsWithBadLength area place

-- neither of two areas counts: place 8 of the first
abbrev pub CountsNot : AreaState → AreaState → Part → ℕ → Type 0
CountsNot a b part place = (a.counts ≡ false) × (b.counts ≡ false) × (part ≡ Main) × (place ≡ 8)

-- one of two areas counts
abbrev pub OneCounts : AreaState → AreaState → Type 0
OneCounts a b = (a.counts ≡ true) ⊎ (b.counts ≡ true)

-- Of two areas with heads the first fault: none counts; else the end of a disk where a gate is due; else a bad gate.
abbrev pub IsBadPair : AreaState → AreaState → Part → ℕ → Type 0
IsBadPair a b part place = CountsNot a b part place
    ⊎ ((OneCounts a b × IsFirst LacksGate LacksGate a b part place)
    ⊎ (OneCounts a b × HasNo LacksGate a × HasNo LacksGate b × IsFirst HasBadGate HasBadGate a b part place))

-- Of two disks the first fault and its place: a head that is missing, else the first fault of the areas. An area that
-- counts is tested even where it isn't the newer one.
abbrev pub IsBadStore : List ℕ → Option (List ℕ) → Part → ℕ → Type 0
IsBadStore a b part place = IsFirst LacksHead (λ c p. OnSpare (λ bytes. LacksHead bytes p) c) a b part place
    ⊎ ((x : AreaState) × (y : AreaState) × Holds x a × SpareHolds y b × IsBadPair x y part place)

-- the records of an area end at a closed gate, and its bodies are a log
abbrev pub IsWhole : AreaState → Type 0
IsWhole area = (area.ending ≡ Closed) × (log : List Rec) × IsLogOf log area.bodies

-- the second area is taken: it counts, and the first doesn't or has a lower generation
abbrev pub is_passed : AreaState → AreaState → Bool
is_passed a b = b.counts && (not a.counts || nat_lt a.generation b.generation)

-- the bodies of the area that counts and has the greater generation, and of the first where the two are equal
abbrev pub bodies_of : AreaState → AreaState → List (List ℕ)
bodies_of a b = if is_passed a b then b.bodies else a.bodies

-- the two disks stand for this log
pub record StoreHolds (log : List Rec) (a : List ℕ) (b : Option (List ℕ)) : Type 0 where
  pub main : AreaState
  pub spare : AreaState
  pub holds : Holds main a
  pub spare_holds : SpareHolds spare b
  pub counted : OneCounts main spare
  pub whole : IsWhole main
  pub spare_whole : IsWhole spare
  pub stands : IsLogOf log (bodies_of main spare)

-- neither disk has more bytes than an area may have
abbrev pub AreShort : List ℕ → Option (List ℕ) → Type 0
AreShort a None = length a ≤ max_area
AreShort a (Some b) = (length a ≤ max_area) × (length b ≤ max_area)

-- the spare is there before and after, or neither
abbrev pub OnSpares : {D : Type 0} → (D → D → Type 0) → Option D → Option D → Type 0
OnSpares P None None = ⊤
OnSpares P (Some old) (Some new) = P old new
OnSpares P None (Some new) = ⊥
OnSpares P (Some old) None = ⊥

-- the spare is there before and after, and has this
abbrev pub SpareHas : {D : Type 0} → (D → D → Type 0) → Option D → Option D → Type 0
SpareHas P None None = ⊥
SpareHas P (Some old) (Some new) = P old new
SpareHas P None (Some new) = ⊥
SpareHas P (Some old) None = ⊥

-- a fault of reading comes only where the count of one disk went up by one, and leaves that of the other; every other answer
-- leaves both
abbrev pub StoreCauses : {D T : Type 0} → (D → ℕ) → D → D → Option D → Option D → Result T StoreFault → Type 0
StoreCauses faults old new spare spare' (Ok value) = (faults new ≡ faults old) × OnSpares (λ s t. faults t ≡ faults s) spare spare'
StoreCauses faults old new spare spare' (Err ReadFault) = (RoseByOne (faults old) (faults new) × OnSpares (λ s t. faults t ≡ faults s) spare spare')
    ⊎ ((faults new ≡ faults old) × SpareHas (λ s t. RoseByOne (faults s) (faults t)) spare spare')
StoreCauses faults old new spare spare' (Err (BadJournal part place)) = (faults new ≡ faults old) × OnSpares (λ s t. faults t ≡ faults s) spare spare'
StoreCauses faults old new spare spare' (Err (TooLong part len)) = (faults new ≡ faults old) × OnSpares (λ s t. faults t ≡ faults s) spare spare'
StoreCauses faults old new spare spare' (Err NoMemory) = (faults new ≡ faults old) × OnSpares (λ s t. faults t ≡ faults s) spare spare'
