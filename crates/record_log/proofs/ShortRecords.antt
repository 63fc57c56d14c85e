-- The records of a log are no longer than the bodies that they are read from.
use Rattle.std.proofs.Common.{◌≡◌, ℕ, zero, suc, ◌≤◌, ◌<◌, Bool, true, false, cond, ◌&&◌, ltb, List, [], ◌∷◌, ◌++◌, length, Some, Ok, refl, subst, arith}
use Rattle.std.specs.Prelude.{map, get_or}
use Rattle.std.proofs.lemmas.Bool.{and_parts, ltb-true}
use Rattle.std.specs.Int.{w32, to_le_bytes}
use Rattle.std.specs.List.{All}
use Rattle.gate_journal.specs.Areas.{AreaState, Holds, IsBody, blocks, block, head, max_body}
use Rattle.gate_journal.specs.Journals.{new_area}
use Rattle.record_codec.specs.declared.records.Rec.{Rec}
use Rattle.record_codec.specs.Laws.{ReadsSpellingsAlone}
use Rattle.record_codec.specs.Reading.{AreBytes, reading}
use Rattle.record_codec.specs.Spelling.{spelling}
use Rattle.shard_machine.specs.Legal.{IsLogOf}
use Rattle.record_log.specs.Laws.{IsShortRecord, RecordsAreShort}
use Rattle.record_log.specs.Standing.{as_loaded}
use Rattle.record_log.specs.Stores.{StoreHolds, is_passed}

bytes-left : (xs ys : List ℕ) → AreBytes (xs ++ ys) → AreBytes xs
bytes-left [] ys h i = omega arith
bytes-left (x ∷ xs) ys h zero = h 0
bytes-left (x ∷ xs) ys h (suc i) = bytes-left xs ys (λ i. h (suc i)) i

bytes-right : (xs ys : List ℕ) → AreBytes (xs ++ ys) → AreBytes ys
bytes-right [] ys h = h
bytes-right (x ∷ xs) ys h = bytes-right xs ys (λ i. h (suc i))

-- the bodies are as long as they may be, and each is the spelling of its record
short-from : ReadsSpellingsAlone → (bodies : List (List ℕ)) (log : List Rec) → All IsBody bodies → AreBytes (blocks bodies) → map reading bodies ≡ map Ok log → All IsShortRecord log
short-from alone bodies [] legal fits e k d lt = absurd (omega arith)
short-from alone [] (r ∷ log) legal fits e k d lt = absurd (cc)
short-from alone (body ∷ bodies) (r ∷ log) legal fits e k d lt =
    at (short-from alone bodies log (λ k d lt. legal (suc k) d (omega arith)) (bytes-right (block body) (blocks bodies) fits) cc) k lt
  where
    body-fits : AreBytes body
    body-fits = bytes-right (1 ∷ to_le_bytes w32 (length body)) body (bytes-left (block body) (blocks bodies) fits)

    first : IsShortRecord r
    first =
        let read : reading body ≡ Ok r = cc in
        let is : body ≡ spelling r = (alone body r body-fits read).1 in
        subst (λ (s : List ℕ). length s ≤ max_body) is (legal 0 body (omega arith)).1

    at : All IsShortRecord log → (k : ℕ) → k < suc (length log) → IsShortRecord (get_or (r ∷ log) k d)
    at rest zero lt = first
    at rest (suc k) lt = rest k d (omega arith)

area-short : ReadsSpellingsAlone → (area : AreaState) (c : List ℕ) (log : List Rec) → AreBytes c → Holds area c → IsLogOf log area.bodies → All IsShortRecord log
area-short alone area c log fits h is =
    short-from alone area.bodies log h.legal
    (bytes-left (blocks area.bodies) h.rest (bytes-right (head h.area_gate area.generation) (blocks area.bodies ++ h.rest) (subst AreBytes h.is fits))) is.are

-- each of these is below 256
all_bytes : List ℕ → Bool
all_bytes [] = true
all_bytes (x ∷ xs) = ltb x 256 && all_bytes xs

bytes-by : (xs : List ℕ) → all_bytes xs ≡ true → AreBytes xs
unfolding all_bytes
bytes-by [] e i = omega arith
bytes-by (x ∷ xs) e zero = ltb-true x 256 (and_parts (ltb x 256) (all_bytes xs) e).0
bytes-by (x ∷ xs) e (suc i) = bytes-by xs (and_parts (ltb x 256) (all_bytes xs) e).1 i

loaded-fits : (counts : Bool) (c : List ℕ) → AreBytes c → AreBytes (as_loaded counts c)
unfolding all_bytes
loaded-fits true [] fits = bytes-by (new_area true) refl
loaded-fits false [] fits = bytes-by (new_area false) refl
loaded-fits counts (x ∷ c) fits = fits

pub records-are-short : ReadsSpellingsAlone → RecordsAreShort
records-are-short alone log a b a-fits b-fits stands = by (is_passed h.main h.spare) refl
  where
    h : StoreHolds log (as_loaded true a) (Some (as_loaded false b))
    h = stands.holds

    by : (t : Bool) → is_passed h.main h.spare ≡ t → All IsShortRecord log
    by true e = area-short alone h.spare (as_loaded false b) log (loaded-fits false b b-fits) h.spare_holds (subst (λ t. IsLogOf log (cond t h.spare.bodies h.main.bodies)) e h.stands)
    by false e = area-short alone h.main (as_loaded true a) log (loaded-fits true a a-fits) h.holds (subst (λ t. IsLogOf log (cond t h.spare.bodies h.main.bodies)) e h.stands)
