-- The last of some fields, and those before it.
use Rattle.std.proofs.Common.{◌≡◌, ℕ, zero, suc, List, [], ◌∷◌, ◌++◌, length, take, Bool, true, Option, None, Some, refl, ap, arith}
use Rattle.std.specs.Prelude.{slice_index_or}
use Rattle.std.specs.Borrow.{Bor}
use Rattle.std.specs.List.{list_all}
use Rattle.std.proofs.lemmas.Bool.{and_parts, and_from}
use Rattle.nats_text.specs.Pieces.{views}
use Rattle.leaf_frames.specs.Frames.{before_last, split_last}

-- a list with one item more is split into the two
pub split_snoc : (fs : List (List ℕ)) (f : List ℕ) → split_last (fs ++ f ∷ []) ≡ Some (fs, f)
split_snoc [] f = refl
split_snoc (g ∷ fs) f = ap (λ s. Some (before_last g s)) (split_snoc fs f)

pub split_two : (fs : List (List ℕ)) (f g : List ℕ) → split_last (fs ++ f ∷ g ∷ []) ≡ Some (fs ++ f ∷ [], g)
split_two [] f g = refl
split_two (h ∷ fs) f g = ap (λ s. Some (before_last h s)) (split_two fs f g)

-- what is split of fields that all pass a test passes it
abbrev pub AllSplit : (List ℕ → Bool) → Option (List (List ℕ) × List ℕ) → Type 0
AllSplit test None = Unit {0}
AllSplit test (Some split) = (list_all test split.0 ≡ true) × (test split.1 ≡ true)

before_all : (test : List ℕ → Bool) (f : List ℕ) (s : Option (List (List ℕ) × List ℕ)) → test f ≡ true → AllSplit test s → AllSplit test (Some (before_last f s))
before_all test f None h all = (refl, h)
before_all test f (Some split) h all = (and_from (test f) (list_all test split.0) h all.0, all.1)

pub split_all : (test : List ℕ → Bool) (fs : List (List ℕ)) → list_all test fs ≡ true → AllSplit test (split_last fs)
split_all test [] h = tt
split_all test (f ∷ fs) h =
    let p = and_parts (test f) (list_all test fs) h in
    before_all test f (split_last fs) p.0 (split_all test fs p.1)

-- some fields are split at their last place
pub split_at_last : (fs : List (Bor (List ℕ))) (n : ℕ) (other : Bor (List ℕ)) → length fs ≡ suc n → split_last (views fs) ≡ Some (views (take n fs), (slice_index_or fs n other).now)
split_at_last [] n other h = absurd (omega (arith, h))
split_at_last (f ∷ []) zero other h = refl
split_at_last (f ∷ []) (suc n) other h = absurd (omega (arith, h))
split_at_last (f ∷ g ∷ fs) zero other h = absurd (omega (arith, h))
split_at_last (f ∷ g ∷ fs) (suc n) other h = ap (λ s. Some (before_last f.now s)) (split_at_last (g ∷ fs) n other (omega (arith, h)))
