-- Which logs stand in the lists for which disks may stand.
use Rattle.record_codec.specs.declared.records.Rec.{Rec}
use Rattle.record_log.specs.Standing.{IsOneOf, StandFor, StandIn}
use Rattle.shard_calls.specs.Shards.{fronts, on_the_way, with_doubt}
use Rattle.std.proofs.Common.{List, None, Option, [], append-nil, append_assoc, inl, inr, refl, subst, sym, ℕ, ◌++◌, ◌∙◌, ◌∷◌, ◌⊎◌}
use Rattle.stream_fold.specs.Copying.{front}

-- whoever is one of the first list is one of the second
abbrev pub Within : List (List Rec) → List (List Rec) → Type 0
Within xs ys = (log : List Rec) → IsOneOf log xs → IsOneOf log ys

pub one_left : (log : List Rec) (xs ys : List (List Rec)) → IsOneOf log xs → IsOneOf log (xs ++ ys)
one_left log [] ys one = absurd one
one_left log (x ∷ xs) ys (inl here) = inl here
one_left log (x ∷ xs) ys (inr there) = inr (one_left log xs ys there)

pub one_right : (log : List Rec) (xs ys : List (List Rec)) → IsOneOf log ys → IsOneOf log (xs ++ ys)
one_right log [] ys one = one
one_right log (x ∷ xs) ys one = inr (one_right log xs ys one)

pub one_split : (log : List Rec) (xs ys : List (List Rec)) → IsOneOf log (xs ++ ys) → IsOneOf log xs ⊎ IsOneOf log ys
one_split log [] ys one = inr one
one_split log (x ∷ xs) ys (inl here) = inl (inl here)
one_split log (x ∷ xs) ys (inr there) = elim (one_split log xs ys there) [
  | inl left ↦ inl (inr left)
  | inr right ↦ inr right
]

within-both : (xs ys zs : List (List Rec)) → Within xs zs → Within ys zs → Within (xs ++ ys) zs
within-both xs ys zs left right log one = elim (one_split log xs ys one) [
  | inl l ↦ left log l
  | inr r ↦ right log r
]

stands-one : (a b : List ℕ) (log : List Rec) (xs : List (List Rec)) → StandIn log a b → IsOneOf log xs → StandFor a b xs
stands-one a b log [] is one = absurd one
stands-one a b log (x ∷ xs) is (inl here) = inl (subst (λ (l : List Rec). StandIn l a b) here is)
stands-one a b log (x ∷ xs) is (inr there) = inr (stands-one a b log xs is there)

-- two disks that stand for one of some logs stand for one of more
pub stands-within : (a b : List ℕ) (xs ys : List (List Rec)) → Within xs ys → StandFor a b xs → StandFor a b ys
stands-within a b [] ys within stands = absurd stands
stands-within a b (x ∷ xs) ys within (inl here) = stands-one a b x ys here (within x (inl refl))
stands-within a b (x ∷ xs) ys within (inr there) = stands-within a b xs ys (λ log one. within log (inr one)) there

-- ---- the lists of a call

first-front : (log records : List Rec) → IsOneOf log (fronts log records)
first-front log [] = inl refl
first-front log (r ∷ records) = inl refl

-- the log with all of the records is the last of its fronts
pub last-front : (log records : List Rec) → IsOneOf (log ++ records) (fronts log records)
last-front log [] = inl (append-nil log)
last-front log (r ∷ records) = inr (subst (λ (l : List Rec). IsOneOf l (fronts (log ++ r ∷ []) records)) (append_assoc log (r ∷ []) records) (last-front (log ++ r ∷ []) records))

-- the fronts of some records are fronts of more
pub fronts-left : (log first more : List Rec) → Within (fronts log first) (fronts log (first ++ more))
fronts-left log [] more l (inl here) = subst (λ (x : List Rec). IsOneOf x (fronts log more)) (sym here) (first-front log more)
fronts-left log [] more l (inr none) = absurd none
fronts-left log (r ∷ first) more l (inl here) = inl here
fronts-left log (r ∷ first) more l (inr there) = inr (fronts-left (log ++ r ∷ []) first more l there)

pub fronts-right : (log first more : List Rec) → Within (fronts (log ++ first) more) (fronts log (first ++ more))
fronts-right log [] more l one = subst (λ (x : List Rec). IsOneOf l (fronts x more)) (append-nil log) one
fronts-right log (r ∷ first) more l one = inr (fronts-right (log ++ r ∷ []) first more l (subst (λ (x : List Rec). IsOneOf l (fronts x more)) (sym (append_assoc log (r ∷ []) first)) one))

-- what is on the way of the first records is on the way of all
way-first : (log : List Rec) (before : Option Rec) (first more : List Rec) → Within (on_the_way log before first) (on_the_way log before (first ++ more))
way-first log before first more l one = elim (one_split l (with_doubt log before) (fronts log first) one) [
  | inl old ↦ one_left l (with_doubt log before) _ old
  | inr front ↦ one_right l (with_doubt log before) _ (fronts-left log first more l front)
]

way-more : (log : List Rec) (before : Option Rec) (first more : List Rec) → Within (on_the_way (log ++ first) None more) (on_the_way log before (first ++ more))
way-more log before first more l (inl here) = one_right l (with_doubt log before) _ (fronts-left log first more l (subst (λ (x : List Rec). IsOneOf x (fronts log first)) (sym here) (last-front log first)))
way-more log before first more l (inr front) = one_right l (with_doubt log before) _ (fronts-right log first more l front)

-- two calls' ways, one after the other, are within the way of both
pub ways : (logs : List (List Rec)) (log : List Rec) (before : Option Rec) (first more : List Rec) → Within ((logs ++ on_the_way log before first) ++ on_the_way (log ++ first) None more) (logs ++ on_the_way log before (first ++ more))
ways logs log before first more =
    within-both (logs ++ on_the_way log before first) (on_the_way (log ++ first) None more) _
    (within-both logs (on_the_way log before first) _ (λ l one. one_left l logs _ one) (λ l one. one_right l logs _ (way-first log before first more l one)))
    (λ l one. one_right l logs _ (way-more log before first more l one))

-- what stood for some logs and then may stand for the log with these records, the last of which was added or tried
pub way-joined : (logs : List (List Rec)) (log : List Rec) (before : Option Rec) (settled : List Rec) (r : Rec) → Within (((log ++ settled) ++ r ∷ []) ∷ logs) (logs ++ on_the_way log before (settled ++ r ∷ []))
way-joined logs log before settled r l (inl here) = one_right l logs _ (one_right l (with_doubt log before) _
    (subst (λ (x : List Rec). IsOneOf x (fronts log (settled ++ r ∷ []))) (sym (here ∙ append_assoc log settled (r ∷ []))) (last-front log (settled ++ r ∷ []))))
way-joined logs log before settled r l (inr there) = one_left l logs _ there

-- the same behind the log itself
pub way-added : (logs : List (List Rec)) (log : List Rec) (before : Option Rec) (r : Rec) → Within ((log ++ r ∷ []) ∷ logs) (logs ++ on_the_way log before (r ∷ []))
way-added logs log before r l (inl here) = one_right l logs _ (one_right l (with_doubt log before) _ (subst (λ (x : List Rec). IsOneOf x (fronts log (r ∷ []))) (sym here) (last-front log (r ∷ []))))
way-added logs log before r l (inr there) = one_left l logs _ there
