-- What the areas of two disks say of the log for which they stand.
use Rattle.std.proofs.Common.{◌≡◌, ℕ, ◌≤◌, true, false, List, [], ◌∷◌, ◌++◌, length, refl, sym, ap, subst, arith, length-append}
use Rattle.std.specs.Prelude.{Bool}
use Rattle.std.proofs.lemmas.Bool.Decides.{nat_tests}
use Rattle.gate_journal.specs.Areas.{head, blocks, max_area, AreaState, IsArea, Holds}
use Rattle.gate_journal.specs.Journals.{new_area}
use Rattle.gate_journal.specs.declared.area.Ending.TheVariants.{Closed}
use Rattle.gate_journal.proofs.Unique.{one_held}
use Rattle.record_codec.specs.declared.records.Rec.{Rec}
use Rattle.shard_machine.specs.Legal.{IsLogOf}
use Rattle.record_log.specs.Stores.{IsWhole, OneCounts, is_passed, bodies_of}
use Rattle.record_log.specs.Standing.{as_loaded, StandIn}
use Rattle.record_log.specs.Serving.{IsBehind}

-- an area that counts, whole
abbrev pub whole_of : ℕ → List (List ℕ) → AreaState
whole_of g bs = record { counts = true; generation = g; bodies = bs; ending = Closed }

pub held_whole : (g : ℕ) (bs : List (List ℕ)) (c : List ℕ) → IsArea true g bs c → Holds (whole_of g bs) c
held_whole g bs c a = record {
  area_gate = a.area_gate;
  rest = a.gate ∷ a.rest;
  is = a.is;
  long = omega (arith, ap length a.is, length-append (head a.area_gate g ++ blocks bs) (a.gate ∷ a.rest), length-append (head a.area_gate g) (blocks bs));
  counted = a.counted;
  stamp = a.stamp;
  legal = a.legal;
  ends = λ counts. (a.gate, a.rest, refl, a.closed counts);
  unread = λ counts. absurd (grind (arith, counts));
}

-- a disk that holds an area isn't empty, so that it is read as it is
pub loaded_held : (counts : Bool) (x : AreaState) (c : List ℕ) → Holds x c → as_loaded counts c ≡ c
loaded_held counts x [] h = absurd (omega (arith, h.long))
loaded_held counts x (b ∷ c) h = refl

-- a new area is read as it is
pub new_loaded : (counts : Bool) → as_loaded counts (new_area counts) ≡ new_area counts
new_loaded true = refl
new_loaded false = refl

-- what is taken where the other area is behind
pub main_taken : (x y : AreaState) → x.counts ≡ true → IsBehind false x.generation y → is_passed x y ≡ false
main_taken x y on behind = by y.counts refl
  where
    by : (k : Bool) → y.counts ≡ k → is_passed x y ≡ false
    by true counts = grind (arith, nat_tests, on, counts, behind counts)
    by false counts = grind (arith, nat_tests, counts)

pub spare_taken : (x y : AreaState) → y.counts ≡ true → IsBehind true y.generation x → is_passed x y ≡ true
spare_taken x y on behind = by x.counts refl
  where
    by : (k : Bool) → x.counts ≡ k → is_passed x y ≡ true
    by true counts = grind (arith, nat_tests, on, counts, behind counts)
    by false counts = grind (arith, nat_tests, on, counts)

-- two disks stand for the log of the area that is taken
pub stand_main : (log : List Rec) (a b : List ℕ) (x y : AreaState) → Holds x a → length a ≤ max_area → Holds y (as_loaded false b) → length (as_loaded false b) ≤ max_area
    → OneCounts x y → IsWhole x → IsWhole y → IsLogOf log (bodies_of x y) → StandIn log a b
stand_main log a b x y hx sx hy sy one wx wy stands =
    let e : a ≡ as_loaded true a = sym (loaded_held true x a hx) in
    record {
      short = (subst (λ (c : List ℕ). length c ≤ max_area) e sx, sy);
      holds = record { main = x; spare = y; holds = subst (Holds x) e hx; spare_holds = hy; counted = one; whole = wx; spare_whole = wy; stands = stands };
    }

pub stand_spare : (log : List Rec) (a b : List ℕ) (x y : AreaState) → Holds x (as_loaded true a) → length (as_loaded true a) ≤ max_area → Holds y b → length b ≤ max_area
    → OneCounts x y → IsWhole x → IsWhole y → IsLogOf log (bodies_of x y) → StandIn log a b
stand_spare log a b x y hx sx hy sy one wx wy stands =
    let e : b ≡ as_loaded false b = sym (loaded_held false y b hy) in
    record {
      short = (sx, subst (λ (c : List ℕ). length c ≤ max_area) e sy);
      holds = record { main = x; spare = y; holds = hx; spare_holds = subst (Holds y) e hy; counted = one; whole = wx; spare_whole = wy; stands = stands };
    }

-- the areas that two disks hold are those by which they stand for a log
pub main_is : (log : List Rec) (a b : List ℕ) (x : AreaState) (s : StandIn log a b) → Holds x a → s.holds.main ≡ x
main_is log a b x s h = one_held (as_loaded true a) s.holds.main x s.holds.holds (subst (Holds x) (sym (loaded_held true x a h)) h)

pub spare_is : (log : List Rec) (a b : List ℕ) (y : AreaState) (s : StandIn log a b) → Holds y b → s.holds.spare ≡ y
spare_is log a b y s h = one_held (as_loaded false b) s.holds.spare y s.holds.spare_holds (subst (Holds y) (sym (loaded_held false y b h)) h)
