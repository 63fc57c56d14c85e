-- What a journal's load answers, where an area's reading has answered.
use Rattle.std.proofs.Common.{◌≡◌, ◌≢◌, true, false, ℕ, ◌≤◌, inr, List, [], ◌∷◌, ◌++◌, length, refl, sym, ◌∙◌, ap, subst, arith, length-append}
use Rattle.std.specs.Prelude.{Bool, Option, Result, Ok, Err, Some, None, IfOk, IfSome}
use Rattle.std.proofs.lemmas.Bool.Decides.{nat_tests}
use Rattle.leaf_edges.specs.Disks.{Only}
use Rattle.gate_journal.specs.Areas.{head, blocks, end_of, AreaState, Holds, IsArea, IsUnreadable, BreaksAt, EndsIn}
use Rattle.gate_journal.specs.Journals.{JournalState, OfArea, Reads, ReadsArea, Stands, journal_of}
use Rattle.gate_journal.specs.declared.area.Ending.{Ending}
use Rattle.gate_journal.specs.declared.area.Ending.TheVariants.{Closed, Missing, Unreadable}
use Rattle.gate_journal.specs.declared.fault.LoadFault.{LoadFault}

-- behind the records stands a byte, which is a closed gate where the area counts
gate_of : (counts : Bool) (rest : List ℕ) → (counts ≡ true → EndsIn Closed rest) → (counts ≡ false → 1 ≤ length rest) → (gate : ℕ) × (after : List ℕ) × (rest ≡ gate ∷ after) × (counts ≡ true → gate ≢ 1)
gate_of true rest ends long = ((ends refl).0, (ends refl).1, (ends refl).2, λ _. (ends refl).3)
gate_of false [] ends long = absurd (omega (arith, long refl))
gate_of false (gate ∷ after) ends long = (gate, after, refl, λ no. grind (arith, no))

uncounted_long : (area : AreaState) (s : List ℕ) (held : Holds area s) → area.counts ≡ false → 1 ≤ length held.rest
uncounted_long area s held off =
    let none : length (blocks area.bodies) ≡ 0 = ap (λ (bs : List (List ℕ)). length (blocks bs)) (held.unread off).0 in
    omega (arith, held.long, ap length held.is, none, length-append (head held.area_gate area.generation ++ blocks area.bodies) held.rest, length-append (head held.area_gate area.generation) (blocks area.bodies))

-- an area whose records end at a closed gate is whole
pub whole_of : (area : AreaState) (s : List ℕ) → Holds area s → area.ending ≡ Closed → IsArea area.counts area.generation area.bodies s
whole_of area s held closed =
    let found = gate_of area.counts held.rest (λ yes. subst (λ (e : Ending). EndsIn e held.rest) closed (held.ends yes)) (uncounted_long area s held) in
    record {
      area_gate = held.area_gate;
      gate = found.0;
      rest = found.1;
      is = held.is ∙ ap (λ (l : List ℕ). head held.area_gate area.generation ++ blocks area.bodies ++ l) found.2;
      counted = held.counted;
      stamp = held.stamp;
      legal = held.legal;
      closed = found.3;
      unread = λ no. (held.unread no).0;
    }

-- and a whole area is held, with a closed gate at its end
pub held_of : (counts : Bool) (generation : ℕ) (bodies : List (List ℕ)) (s : List ℕ) → IsArea counts generation bodies s → Holds (record { counts = counts; generation = generation; bodies = bodies; ending = Closed }) s
held_of counts generation bodies s a = record {
  area_gate = a.area_gate;
  rest = a.gate ∷ a.rest;
  is = a.is;
  long = omega (arith, ap length a.is, length-append (head a.area_gate generation ++ blocks bodies) (a.gate ∷ a.rest), length-append (head a.area_gate generation) (blocks bodies));
  counted = a.counted;
  stamp = a.stamp;
  legal = a.legal;
  ends = λ yes. (a.gate, a.rest, refl, a.closed yes);
  unread = λ no. (a.unread no, refl);
}

-- on a disk that was synced, an area that counts and is whole is that of a journal that stands
stands_read : {D : Type 0} (images : D → List ℕ → Type 0) (disk : D) (s : List ℕ) (area : AreaState) → Only s (images disk) → ReadsArea s (Ok (Some area)) → area.counts ≡ true → area.ending ≡ Closed → Stands images disk (journal_of area) area.bodies
stands_read images disk s area only read counts closed =
    let whole = subst (λ (k : Bool). IsArea k area.generation area.bodies s) counts (whole_of area s read.1 closed) in
    record {
      counted = counts;
      place = refl;
      each = λ c now. subst (IsArea true area.generation area.bodies) (sym (only c now)) whole;
      short = λ c now. omega (arith, read.0, ap length (only c now));
    }

pub stands_if_read : {D : Type 0} (images : D → List ℕ → Type 0) (disk : D) (s : List ℕ) (result : Result (Option AreaState) LoadFault) → Only s (images disk) → ReadsArea s result
    → IfOk result (λ found. IfSome found (λ area. area.counts ≡ true → area.ending ≡ Closed → Stands images disk (journal_of area) area.bodies))
stands_if_read images disk s (Ok (Some area)) only read = stands_read images disk s area only read
stands_if_read images disk s (Ok None) only read = tt
stands_if_read images disk s (Err fault) only read = tt

unreadable_of : (ending : Ending) (rest : List ℕ) → ending ≢ Closed → EndsIn ending rest → IsUnreadable rest
unreadable_of Closed rest other ends = absurd (other refl)
unreadable_of Missing rest other ends = subst IsUnreadable (sym ends) tt
unreadable_of Unreadable rest other ends = subst IsUnreadable (sym ends.1) (refl, ends.2)

-- an area whose records end otherwise counts, and breaks where they end
broken_of : (area : AreaState) (s : List ℕ) → Holds area s → area.ending ≢ Closed → (counts : Bool) → area.counts ≡ counts → BreaksAt (end_of area.bodies) s
broken_of area s held other true on =
    let one : held.area_gate ≡ 1 = grind (arith, nat_tests, held.counted ∙ on) in
    record {
      generation = area.generation;
      bodies = area.bodies;
      rest = held.rest;
      is = held.is ∙ ap (λ (k : ℕ). head k area.generation ++ blocks area.bodies ++ held.rest) one;
      stamp = held.stamp;
      legal = held.legal;
      unreadable = unreadable_of area.ending held.rest other (held.ends on);
      long = held.long;
      place_is = refl;
    }
broken_of area s held other false off = absurd (other (held.unread off).1)

pub load_of : (s : List ℕ) (area : AreaState) (loaded : Result (JournalState × List (List ℕ)) LoadFault) → ReadsArea s (Ok (Some area)) → OfArea area loaded → Reads s loaded
load_of s area (Ok loaded) read of =
    let bodies = subst (λ (bs : List (List ℕ)). IsArea area.counts area.generation bs s × (end_of area.bodies ≡ end_of bs)) (sym of.2) (whole_of area s read.1 of.0, refl) in
    let both = subst (λ (j : JournalState). IsArea j.counts j.generation loaded.1 s × (j.end ≡ end_of loaded.1)) (sym of.1) bodies in
    (read.0, both.0, both.1)
load_of s area (Err fault) read of = subst (λ (f : LoadFault). Reads s (Err f)) (sym of.1) (read.0, inr (broken_of area s read.1 of.0 area.counts refl))
