-- What links were told, and the pairs that have changed since.
use Rattle.std.specs.Prelude.{◌≡◌, ◌⊎◌, ℕ, ◌+◌, ◌-◌, ◌≤◌, ◌<◌, ◌==◌, Bool, false, nat_lt, cond, List, [], ◌∷◌, ◌++◌, Option, Some, filter, map, length, drop}
use Rattle.std.specs.List.{list_any}
use Rattle.std.specs.Map.{lookup}
use Rattle.std.specs.Option.{is_some, unwrap_or}
use Rattle.std.specs.Ordering.{is_eq, nat_cmp}
use Rattle.interest_list.specs.declared.telling.Told.{Told}
use Rattle.interest_list.specs.declared.telling.ToldTo.{ToldTo}
use Rattle.told_pairs.specs.declared.pair.Pair.{Pair}
use Rattle.told_pairs.specs.Keys.{same_key}
use Rattle.told_pairs.specs.Wants.{Wants, to_tell, most}

-- who wants each pair, and what each link was told, in the order of the links
pub record Pairs : Type 0 where
  pub wants : Wants
  pub told_to : List ToldTo

-- ---- what a link was told

-- What a link was told: the weights by pair, 0 where there is a place for one; and the number of the first change of
-- which it wasn't told, if it was told anything.
pub record LinkTellings : Type 0 where
  pub told : List (Pair × ℕ)
  pub seen : Option ℕ

-- the weight of the pair that the link was told; 0 where it wasn't told of the pair
abbrev pub told_at : Pair → List (Pair × ℕ) → ℕ
told_at p told = unwrap_or (lookup (same_key p) told) 0

-- there is a place for the weight of the pair
abbrev pub has_place : Pair → List (Pair × ℕ) → Bool
has_place p told = is_some (lookup (same_key p) told)

-- what is told of a pair
abbrev pub as_told : Pair × ℕ → Told
as_told e = record { pattern = e.0.pattern; queue = e.0.queue; weight = e.1 }

-- the pairs that have a weight
abbrev pub told_list : List (Pair × ℕ) → List Told
told_list es = map as_told (filter (λ e. nat_lt 0 e.1) es)

-- what a link was told, by the link
abbrev pub told_link : ℕ × LinkTellings → ToldTo
told_link e = record { link = e.0; told = told_list e.1.told }

-- ---- the pairs that have changed

-- the number of the next change
abbrev pub next_change : List Pair → ℕ → ℕ
next_change changed base = base + length changed

-- the changes from this number on are all listed
abbrev pub IsListed : List Pair → ℕ → ℕ → Type 0
IsListed changed base seen = (base ≤ seen) × (next_change changed base < most)

-- What a link wasn't told since it was told last stands among the changes from then on, where these are listed.
pub record IsCovered (wants : Wants) (changed : List Pair) (base link : ℕ) (to : LinkTellings) : Type 0 where
  pub seen : (n : ℕ) → to.seen ≡ Some n → n ≤ next_change changed base
  pub told : (n : ℕ) → to.seen ≡ Some n → IsListed changed base n → (p : Pair) → list_any (same_key p) (drop (n - base) changed) ≡ false → told_at p to.told ≡ to_tell link p wants

-- each pair of which a link is to be told something else than it was told stands among these
abbrev pub AreAll : Wants → ℕ → List (Pair × ℕ) → List Pair → Type 0
AreAll wants link told pairs = (p : Pair) → list_any (same_key p) pairs ≡ false → told_at p told ≡ to_tell link p wants

-- the same of each link that was told anything
pub record AreCovered (wants : Wants) (told : List (ℕ × LinkTellings)) (changed : List Pair) (base : ℕ) : Type 0 where
  pub ends : next_change changed base ≤ most
  pub links : (link : ℕ) (to : LinkTellings) → lookup (λ l. is_eq (nat_cmp link l)) told ≡ Some to → IsCovered wants changed base link to

-- one more change is listed
pub record IsPushed (pair : Pair) (old : List Pair) (base : ℕ) (new : List Pair) (next : ℕ) : Type 0 where
  pub numbers : next_change old base < most
  pub pairs : new ≡ old ++ pair ∷ []
  pub base_stays : next ≡ base

-- no change up to this one is listed any more
pub record IsLost (old : List Pair) (base : ℕ) (new : List Pair) (next : ℕ) : Type 0 where
  pub numbers : next_change old base < most
  pub pairs : new ≡ []
  pub base_moves : next ≡ next_change old base + 1

-- changes have no numbers any more
pub record IsEnded (old : List Pair) (base : ℕ) (new : List Pair) (next : ℕ) : Type 0 where
  pub numbers : next_change old base ≡ most
  pub pairs : new ≡ old
  pub base_stays : next ≡ base

-- what becomes of the list of changes where a pair has changed
abbrev pub Marks : Pair → List Pair → ℕ → List Pair → ℕ → Type 0
Marks pair old base new next = IsPushed pair old base new next ⊎ (IsLost old base new next ⊎ IsEnded old base new next)

-- the first changes are let go
abbrev pub IsShorter : List Pair → ℕ → List Pair → ℕ → Type 0
IsShorter old base changed next = (n : ℕ) × (n ≤ length old) × (changed ≡ drop n old) × (next ≡ base + n)

-- a change is listed, where the first ones may be let go
pub record IsNoted (pair : Pair) (old : List Pair) (base : ℕ) (new : List Pair) (next : ℕ) : Type 0 where
  pub kept : List Pair
  pub begins : ℕ
  pub shorter : IsShorter old base kept begins
  pub marks : Marks pair kept begins new next

-- ---- the frames

-- the pairs that are gone, by what was told and what is to be told
abbrev pub gone : (Pair → ℕ) → (Pair → ℕ) → List Pair → List Told
gone old new pairs = told_list (map (λ p. (p, cond (new p == 0) (old p) 0)) pairs)

-- the pairs that are new or have another weight
abbrev pub come : (Pair → ℕ) → (Pair → ℕ) → List Pair → List Told
come old new pairs = told_list (map (λ p. (p, cond (old p == new p) 0 (new p))) pairs)
