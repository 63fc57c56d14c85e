-- Which patterns a walk along the tokens of a subject reaches.
use Rattle.std.specs.Prelude.{◌≡◌, ◌⊎◌, ◌↔◌, ℕ, true, List, [], ◌∷◌, ◌++◌, map, Option, Some, None}
use Rattle.std.specs.Borrow.{Bor}
use Rattle.std.specs.BTreeMap.{BTreeMap, get_by}
use Rattle.std.specs.Cmp.Lexicographic.{slice_cmp}
use Rattle.std.specs.Global.{Vec}
use Rattle.std.specs.Ordering.{nat_cmp}
use Rattle.nats_text.specs.Text.{star, tail}
use Rattle.nats_text.specs.Matching.{matches}

-- the pattern begins with this front, and what follows matches what is left of the subject
abbrev pub Reached : List ℕ → List ℕ → List ℕ → Type 0
Reached front rest pattern = (k : List ℕ) × (pattern ≡ front ++ k) × (matches k rest ≡ true)

-- what matches one token
abbrev pub MatchesLast : List ℕ → List ℕ → Type 0
MatchesLast k token = (k ≡ tail) ⊎ ((k ≡ star) ⊎ (k ≡ token))

-- what matches a token and those that follow
abbrev pub MatchesMore : List ℕ → List ℕ → List ℕ → Type 0
MatchesMore k token after = (k ≡ tail) ⊎ ((j : List ℕ) × ((k ≡ star ++ 46 ∷ j) ⊎ (k ≡ token ++ 46 ∷ j)) × (matches j after ≡ true))

module _ {V : Type 0} where
  -- the item is in the list
  abbrev pub Among : List V → V → Type 0
  Among [] x = ⊥
  Among (y ∷ ys) x = (y ≡ x) ⊎ Among ys x

  -- what references point to
  abbrev pub seen : List (Bor V) → List V
  seen vs = map (λ v. v.now) vs

  abbrev pub in_option : Option V → List V
  in_option None = []
  in_option (Some v) = v ∷ []

  -- the value under a pattern
  abbrev pub value_at : List ℕ → BTreeMap (Vec ℕ) V → Option V
  value_at k entries = get_by (λ key. slice_cmp nat_cmp k key.items) entries

  -- the new list has the values of the patterns that are meant, and the old ones
  abbrev pub Adds : (List ℕ → Type 0) → BTreeMap (Vec ℕ) V → List V → List V → Type 0
  Adds Meant entries old new = (v : V) → Among new v ↔ (Among old v ⊎ ((k : List ℕ) × Meant k × (value_at k entries ≡ Some v)))
