-- The first link that is up and has frames under way.
use Rattle.std.proofs.Common.{◌≡◌, ℕ, zero, suc, ◌+◌, ◌≤◌, ◌<◌, Bool, true, false, cond, List, [], ◌∷◌, length, Option, Some, None, refl, sym, ap, ◌∙◌, subst, arith}
use Rattle.std.specs.Prelude.{drop, slice_get, slice_index_or}
use Rattle.world_steps.specs.declared.event.Direction.{Direction}
use Rattle.world_steps.specs.declared.event.Direction.TheVariants.{ToLeaf, ToHub}
use Rattle.world_steps.specs.Nets.{AreApart}
use Rattle.world_steps.specs.Settling.{Lane, busy_lane, first_busy, is_busy}
use Rattle.world_links.specs.States.{LinkState, sites_in, names_in, is_up, joined_in, busy_way, lane_at}
use Rattle.world_links.proofs.Places.{find-at, name-is, read-at}

-- the lane of a direction, else another one
abbrev lane_or : List ℕ → Option Lane → Option Direction → Option Lane
lane_or name other None = other
lane_or name other (Some direction) = Some (record { leaf = name; direction = direction })

lanes-agree : (j a b : Bool) (name : List ℕ) (other : Option Lane)
    → cond j (cond a (Some (record { leaf = name; direction = ToLeaf })) (cond b (Some (record { leaf = name; direction = ToHub })) other)) other
    ≡ lane_or name other (cond j (cond a (Some ToLeaf) (cond b (Some ToHub) None)) None)
lanes-agree true true b name other = refl
lanes-agree true false true name other = refl
lanes-agree true false false name other = refl
lanes-agree false a b name other = refl

drop-at : (links : List LinkState) (place : ℕ) (l : LinkState) → slice_get links place ≡ Some l → drop place (sites_in links) ≡ l.site ∷ drop (place + 1) (sites_in links)
drop-at [] place l e = absurd (cc)
drop-at (x ∷ links) zero l e = (let z : x ≡ l = cc in ap (λ (y : LinkState). y.site ∷ sites_in links) z)
drop-at (x ∷ links) (suc place) l e = drop-at links place l e ∙ ap (λ n. l.site ∷ drop n (x.site ∷ sites_in links)) (let z : suc (place + 1) ≡ suc place + 1 = omega arith in z)

-- the first at or behind a place, by what is at the place
busy-at : (links : List LinkState) (place : ℕ) (l : LinkState) → AreApart (names_in links) → slice_get links place ≡ Some l
    → first_busy (joined_in links) (drop place (sites_in links)) ≡ lane_or l.site.name (first_busy (joined_in links) (drop (place + 1) (sites_in links))) (busy_way l)
busy-at links place l h e =
    let rest : Option Lane = first_busy (joined_in links) (drop (place + 1) (sites_in links)) in
    let up : joined_in links l.site.name ≡ l.joined = ap is_up (find-at links place l h e) in
    ap (first_busy (joined_in links)) (drop-at links place l e)
    ∙ (ap (λ b. cond b (busy_lane l.site rest) rest) up
    ∙ lanes-agree l.joined (is_busy l.site.to_leaf) (is_busy l.site.to_hub) l.site.name rest)

at-seen : (seen links : List LinkState) (place : ℕ) (l : LinkState) → links ≡ seen → place < length seen → l ≡ slice_index_or links place l → slice_get seen place ≡ Some l
at-seen seen links place l same lt read = ap (λ (ls : List LinkState). slice_get ls place) (sym same) ∙ read-at links place l (subst (λ (ls : List LinkState). place < length ls) (sym same) lt) read

-- none is busy at the place: the search goes on
pub busy-on : (seen links : List LinkState) (place : ℕ) (l : LinkState) (way : Option Direction) → links ≡ seen → AreApart (names_in links) → place < length seen → l ≡ slice_index_or links place l → way ≡ busy_way l → way ≡ None
    → first_busy (joined_in seen) (drop place (sites_in seen)) ≡ first_busy (joined_in seen) (drop (place + 1) (sites_in seen))
busy-on seen links place l way same h lt read is none =
    busy-at seen place l (subst (λ (ls : List LinkState). AreApart (names_in ls)) same h) (at-seen seen links place l same lt read)
    ∙ ap (lane_or l.site.name (first_busy (joined_in seen) (drop (place + 1) (sites_in seen)))) (sym is ∙ none)

-- it is found at the place
pub busy-here : (seen links : List LinkState) (place : ℕ) (l : LinkState) (way : Option Direction) (direction : Direction) → links ≡ seen → AreApart (names_in links) → place < length seen → l ≡ slice_index_or links place l → way ≡ busy_way l → way ≡ Some direction
    → first_busy (joined_in seen) (drop place (sites_in seen)) ≡ Some (lane_at seen place direction)
busy-here seen links place l way direction same h lt read is found =
    let at : slice_get seen place ≡ Some l = at-seen seen links place l same lt read in
    busy-at seen place l (subst (λ (ls : List LinkState). AreApart (names_in ls)) same h) at
    ∙ (ap (lane_or l.site.name (first_busy (joined_in seen) (drop (place + 1) (sites_in seen)))) (sym is ∙ found)
    ∙ ap (λ (n : List ℕ). Some (record { leaf = n; direction = direction })) (sym (name-is seen place l at)))

-- behind the last there is none
pub busy-end : (seen : List LinkState) (place : ℕ) → length seen ≤ place → first_busy (joined_in seen) (drop place (sites_in seen)) ≡ None
busy-end seen place le = ap (first_busy (joined_in seen)) (past seen place le)
  where
    past : (links : List LinkState) (place : ℕ) → length links ≤ place → drop place (sites_in links) ≡ []
    past [] place le = drop-nil place
      where
        drop-nil : (n : ℕ) → drop n (sites_in []) ≡ []
        drop-nil zero = refl
        drop-nil (suc n) = refl
    past (x ∷ links) zero le = absurd (omega arith)
    past (x ∷ links) (suc place) le = past links place (omega arith)
