-- For which log two disks stand that were loaded.
use Rattle.std.proofs.Common.{◌≡◌, inl, inr, ⊎_elim, ℕ, ◌≤◌, ◌+◌, true, false, List, [], ◌∷◌, ◌++◌, length, map, refl, sym, ◌∙◌, ap, subst, arith, length-append}
use Rattle.std.specs.Prelude.{Bool, Option, None, Result, Ok, Err, Some, IfOk, IfErr, if◌then◌else◌}
use Rattle.std.proofs.lemmas.Bool.Decides.{nat_tests}
use Rattle.leaf_edges.specs.Disks.{Only}
use Rattle.gate_journal.specs.Areas.{head, block, blocks, end_of, max_area, AreaState, IsArea, Holds, EndsIn}
use Rattle.gate_journal.specs.Journals.{JournalState, journal_of, new_area}
use Rattle.gate_journal.specs.declared.area.Ending.{Ending}
use Rattle.gate_journal.specs.declared.area.Ending.TheVariants.{Closed}
use Rattle.gate_journal.proofs.Unique.{one_held, held_headed}
use Rattle.record_codec.specs.declared.records.Rec.{Rec}
use Rattle.record_codec.specs.Spelling.{spelling}
use Rattle.shard_machine.specs.Legal.{IsLogOf}
use Rattle.shard_machine.specs.Steps.{end_after}
use Rattle.record_log.specs.declared.opening.Loaded.{Loaded}
use Rattle.record_log.specs.Stores.{IsWhole, OneCounts, is_passed, bodies_of}
use Rattle.record_log.specs.Standing.{as_loaded, StandIn, StandFor, IsOneOf, IsUntorn}
use Rattle.record_log.specs.Serving.{IsBehind, IsServed}
use Rattle.record_log.specs.Loading.{OpensArea, OpensAreas, OpensBoth, AreLoaded}
use Rattle.record_log.specs.Opening.{FailsBy}
use Rattle.record_log.specs.declared.fault.OpenFault.{OpenFault}
use Rattle.record_log.specs.declared.fault.OpenFault.TheVariants.{ReadFault, SyncFault, BadJournal, TooLong, NoMemory}
use Rattle.record_log.specs.declared.fault.Part.TheVariants.{Main, Spare}
use Rattle.record_log.proofs.Areas.{loaded_held, new_loaded, stand_main}

-- an area that counts and is whole
pub area_of : (x : AreaState) (c : List ℕ) → Holds x c → x.ending ≡ Closed → x.counts ≡ true → IsArea true x.generation x.bodies c
area_of x c h closed counts =
    let ends = subst (λ (e : Ending). EndsIn e h.rest) closed (h.ends counts) in
    record {
      area_gate = h.area_gate;
      gate = ends.0;
      rest = ends.1;
      is = h.is ∙ ap (λ (l : List ℕ). head h.area_gate x.generation ++ blocks x.bodies ++ l) ends.2;
      counted = h.counted ∙ counts;
      stamp = h.stamp;
      legal = h.legal;
      closed = λ _. ends.3;
      unread = λ off. absurd (grind (arith, off));
    }

-- the area that is taken counts, and the other one is behind
neither : (x y : AreaState) → OneCounts x y → x.counts ≡ false → y.counts ≡ false → ⊥
neither x y one off other = ⊎_elim (λ (on : x.counts ≡ true). absurd (grind (arith, on, off))) (λ (on : y.counts ≡ true). absurd (grind (arith, on, other))) one

pub taken_main : (x y : AreaState) → OneCounts x y → is_passed x y ≡ false → (x.counts ≡ true) × IsBehind false x.generation y
taken_main x y one kept = by x.counts y.counts refl refl
  where
    by : (k l : Bool) → x.counts ≡ k → y.counts ≡ l → (x.counts ≡ true) × IsBehind false x.generation y
    by true l a b = (a, λ on. grind (arith, nat_tests, kept, a, on))
    by false true a b = absurd (grind (arith, nat_tests, kept, a, b))
    by false false a b = absurd (neither x y one a b)

pub taken_spare : (x y : AreaState) → is_passed x y ≡ true → (y.counts ≡ true) × IsBehind true y.generation x
taken_spare x y passed = by y.counts refl
  where
    by : (l : Bool) → y.counts ≡ l → (y.counts ≡ true) × IsBehind true y.generation x
    by true b = (b, λ on. grind (arith, nat_tests, passed, b, on))
    by false b = absurd (grind (arith, nat_tests, passed, b))

-- the disks serve the log
module _ {D : Type 0} (images : D → List ℕ → Type 0) (main spare : D) (a b : List ℕ) (x y : AreaState) (only : Only a (images main)) (only' : Only b (images spare))
    (hx : Holds x a) (sx : length a ≤ max_area) (hy : Holds y b) (sy : length b ≤ max_area) (one : OneCounts x y) (wx : IsWhole x) (wy : IsWhole y) where
  served_by : (p : Bool) → is_passed x y ≡ p → (j : JournalState) → j ≡ journal_of (if p then y else x) → IsServed images main spare p j
  served_by false kept j is =
      let t = taken_main x y one kept in
      subst (λ (k : JournalState). IsServed images main spare false k) (sym is) (record {
        bodies = x.bodies;
        stands = record {
          counted = t.0;
          place = refl;
          each = λ c now. subst (λ (d : List ℕ). IsArea true x.generation x.bodies d) (sym (only c now)) (area_of x a hx wx.0 t.0);
          short = λ c now. omega (arith, ap length (only c now), sx);
        };
        other = λ c now. (y, subst (λ (d : List ℕ). Holds y d) (sym (only' c now)) hy, t.1);
      })
  served_by true passed j is =
      let t = taken_spare x y passed in
      subst (λ (k : JournalState). IsServed images main spare true k) (sym is) (record {
        bodies = y.bodies;
        stands = record {
          counted = t.0;
          place = refl;
          each = λ c now. subst (λ (d : List ℕ). IsArea true y.generation y.bodies d) (sym (only' c now)) (area_of y b hy wy.0 t.0);
          short = λ c now. omega (arith, ap length (only' c now), sy);
        };
        other = λ c now. (x, subst (λ (d : List ℕ). Holds x d) (sym (only c now)) hx, t.1);
      })

  pub served_of : (o : Bool) → o ≡ is_passed x y → (j : JournalState) → j ≡ journal_of (if is_passed x y then y else x) → IsServed images main spare o j
  served_of o e j is = subst (λ (q : Bool). IsServed images main spare q j) (sym e) (served_by (is_passed x y) refl j is)

-- bodies are one log
abbrev read_as : Rec → Result Rec ℕ
read_as r = Ok r

same_log : (ks ls : List Rec) → map read_as ks ≡ map read_as ls → ks ≡ ls
same_log [] [] e = refl
same_log [] (l ∷ ls) e = absurd (cc)
same_log (k ∷ ks) [] e = absurd (cc)
same_log (k ∷ ks) (l ∷ ls) e =
    let first : k ≡ l = cc in
    let rest : ks ≡ ls = same_log ks ls (cc) in
    cc

one_log : (k l : List Rec) (bodies : List (List ℕ)) → IsLogOf k bodies → IsLogOf l bodies → k ≡ l
one_log k l bodies a b = same_log k l (sym a.are ∙ b.are)

-- the log of two areas is one of those for which the disks stand
pub one_of : (a b : List ℕ) (log : List Rec) (x y : AreaState) → Holds x (as_loaded true a) → Holds y (as_loaded false b) → IsLogOf log (bodies_of x y) → (logs : List (List Rec)) → StandFor a b logs → IsOneOf log logs
one_of a b log x y hx hy is [] stood = absurd stood
one_of a b log x y hx hy is (k ∷ logs) stood = ⊎_elim
    (λ (s : StandIn k a b).
    let e = one_held (as_loaded true a) s.holds.main x s.holds.holds hx in
    let f = one_held (as_loaded false b) s.holds.spare y s.holds.spare_holds hy in
    let here = subst (λ (z : AreaState). IsLogOf k (bodies_of x z)) f (subst (λ (z : AreaState). IsLogOf k (bodies_of z s.holds.spare)) e s.holds.stands) in
    inl (one_log log k (bodies_of x y) is here))
    (λ (rest : StandFor a b logs). inr (one_of a b log x y hx hy is logs rest))
    stood

-- where a journal ends behind the records of a log
end_from : (e : ℕ) (log : List Rec) → e + length (blocks (map spelling log)) ≡ end_after e log
end_from e [] = omega arith
end_from e (r ∷ rs) =
    let s = spelling r in
    let first : e + length (block s ++ blocks (map spelling rs)) ≡ e + (5 + length s) + length (blocks (map spelling rs)) = omega (arith, length-append (block s) (blocks (map spelling rs))) in
    first ∙ end_from (e + (5 + length s)) rs

pub end_spelled : (log : List Rec) → end_of (map spelling log) ≡ end_after 17 log
end_spelled log = end_from 17 log

taken_bodies : (p : Bool) (x y : AreaState) → (if p then y else x).bodies ≡ (if p then y.bodies else x.bodies)
taken_bodies true x y = refl
taken_bodies false x y = refl

-- what is known of two disks that were read
pub record Known {D : Type 0} (seen : D → List ℕ) (images : D → List ℕ → Type 0) (main spare main' spare' : D) (x y : AreaState) : Type 0 where
  pub holds : Holds x (as_loaded true (seen main))
  pub short : length (as_loaded true (seen main)) ≤ max_area
  pub only : Only (as_loaded true (seen main)) (images main')
  pub spare_holds : Holds y (as_loaded false (seen spare))
  pub spare_short : length (as_loaded false (seen spare)) ≤ max_area
  pub spare_only : Only (as_loaded false (seen spare)) (images spare')

-- a disk that was empty holds the new area alone
untorn_of : {D : Type 0} (seen : D → List ℕ) (images : D → List ℕ → Type 0) (counts : Bool) (old new : D) → Only (as_loaded counts (seen old)) (images new) → IsUntorn seen images counts old new
untorn_of seen images counts old new only c now torn =
    let is : c ≡ new_area counts = only c now ∙ ap (as_loaded counts) torn.0 in
    torn.1 (ap (as_loaded counts) is ∙ new_loaded counts)

module _ {D : Type 0} (tells : Type 0) (seen : D → List ℕ) (images : D → List ℕ → Type 0) (seen_is : tells → (d : D) → images d (seen d)) (main spare main' spare' : D) where
  pub loaded_areas : (x y : AreaState) (found : Loaded) → OpensAreas x y (Ok found) → (tells → Known seen images main spare main' spare' x y) → AreLoaded tells seen images main spare main' spare' found
  loaded_areas x y found o known = record {
    log = o.4;
    legal = o.5.legal;
    replayed = o.6;
    end = ap (λ (j : JournalState). j.end) o.8 ∙ ap end_of (taken_bodies (is_passed x y) x y ∙ o.7) ∙ end_spelled o.4;
    stood = λ tells. let k = known tells in record {
      short = (k.short, k.spare_short);
      holds = record { main = x; spare = y; holds = k.holds; spare_holds = k.spare_holds; counted = o.0; whole = o.1; spare_whole = o.2; stands = o.5 };
    };
    stands = λ tells a b ia ib.
        let k = known tells in
        let a' = as_loaded true (seen main) in
        let b' = as_loaded false (seen spare) in
        let read : b' ≡ as_loaded false b' = sym (loaded_held false y b' k.spare_holds) in
        let stand = stand_main o.4 a' b' x y k.holds k.short (subst (λ (c : List ℕ). Holds y c) read k.spare_holds) (subst (λ (c : List ℕ). length c ≤ max_area) read k.spare_short) o.0 o.1 o.2 o.5 in
        inl (subst (λ (c : List ℕ). StandIn o.4 c b) (sym (k.only a ia)) (subst (λ (c : List ℕ). StandIn o.4 a' c) (sym (k.spare_only b ib)) stand));
    among = λ tells logs each. let k = known tells in one_of (seen main) (seen spare) o.4 x y k.holds k.spare_holds o.5 logs (each (seen main) (seen spare) (seen_is tells main) (seen_is tells spare));
    untorn = λ tells. let k = known tells in (untorn_of seen images true main main' k.only, untorn_of seen images false spare spare' k.spare_only);
    served = λ tells. let k = known tells in served_of images main' spare' (as_loaded true (seen main)) (as_loaded false (seen spare)) x y k.only k.spare_only k.holds k.short k.spare_holds k.spare_short o.0 o.1 o.2 found.on_spare o.3 found.journal o.8;
  }

  -- whatever was found, each disk having a head or not
  pub both_loaded : (first second : Option AreaState) (r : Result Loaded OpenFault) → OpensBoth first second r
      → (tells → OpensArea (as_loaded true (seen main)) (Ok first)) → (tells → Only (as_loaded true (seen main)) (images main'))
      → (tells → OpensArea (as_loaded false (seen spare)) (Ok second)) → (tells → Only (as_loaded false (seen spare)) (images spare')) → IfOk r (AreLoaded tells seen images main spare main' spare')
  both_loaded None second r o f only f' only' = subst (λ (q : Result Loaded OpenFault). IfOk q (AreLoaded tells seen images main spare main' spare')) (sym o) tt
  both_loaded (Some a) None r o f only f' only' = subst (λ (q : Result Loaded OpenFault). IfOk q (AreLoaded tells seen images main spare main' spare')) (sym o) tt
  both_loaded (Some a) (Some b) (Ok found) o f only f' only' = loaded_areas a b found o (λ t. record { holds = (f t).1; short = (f t).0; only = only t; spare_holds = (f' t).1; spare_short = (f' t).0; spare_only = only' t })
  both_loaded (Some a) (Some b) (Err fault) o f only f' only' = tt

-- the first fault of two disks
short_of : (c : List ℕ) (found : Option AreaState) → OpensArea c (Ok found) → length c ≤ max_area
short_of c (Some area) o = o.0
short_of c None o = o.0

pub both_fail : (main spare : List ℕ) (first second : Option AreaState) (r : Result Loaded OpenFault) → OpensBoth first second r → OpensArea (as_loaded true main) (Ok first) → OpensArea (as_loaded false spare) (Ok second) → IfErr r (FailsBy main spare)
both_fail main spare None second r o f f' =
    subst (λ (q : Result Loaded OpenFault). IfErr q (FailsBy main spare)) (sym o) ((f.0, short_of (as_loaded false spare) second f'), Main, inl (inl (refl, (refl, f.1))))
both_fail main spare (Some a) None r o f f' =
    subst (λ (q : Result Loaded OpenFault). IfErr q (FailsBy main spare)) (sym o) ((f.0, f'.0), Spare, inl (inr (refl, (λ p lacks. held_headed (as_loaded true main) a f.1 lacks.1), (refl, f'.1))))
both_fail main spare (Some a) (Some b) (Ok found) o f f' = tt
both_fail main spare (Some a) (Some b) (Err ReadFault) o f f' = tt
both_fail main spare (Some a) (Some b) (Err SyncFault) o f f' = tt
both_fail main spare (Some a) (Some b) (Err (BadJournal place)) o f f' = ((f.0, f'.0), o.0, inr (a, b, f.1, f'.1, o.1))
both_fail main spare (Some a) (Some b) (Err (TooLong len)) o f f' = absurd o
both_fail main spare (Some a) (Some b) (Err NoMemory) o f f' = tt
