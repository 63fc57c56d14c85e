-- The faults of an area, told by the reading of its bodies.
use Rattle.std.proofs.Common.{◌≡◌, ◌≢◌, ⊎_elim, inr, ℕ, List, [], ◌∷◌, ◌++◌, take, map, refl, sym, ◌∙◌, ap, subst, append_assoc, append-nil}
use Rattle.std.specs.Prelude.{zero, suc, Bool, true, false, Some, Ok, Err, if◌then◌else◌, slice_get}
use Rattle.gate_journal.specs.Areas.{AreaState, end_of}
use Rattle.gate_journal.specs.declared.area.Ending.{Ending}
use Rattle.gate_journal.specs.declared.area.Ending.TheVariants.{Closed, Missing, Unreadable}
use Rattle.record_codec.specs.declared.records.Rec.{Rec}
use Rattle.record_codec.specs.Reading.{reading}
use Rattle.record_codec.specs.Spelling.{spelling}
use Rattle.record_log.specs.declared.fault.Part.TheVariants.{Main, Spare}
use Rattle.record_log.specs.declared.fault.StoreFault.{StoreFault}
use Rattle.record_log.specs.declared.fault.StoreFault.TheVariants.{ReadFault, BadJournal, TooLong, NoMemory}
use Rattle.log_replay.specs.declared.replay.Replay.{Replay}
use Rattle.shard_machine.specs.Legal.{IsLogOf, IsNoNext, MayFollow, MayAllFollow}
use Rattle.log_replay.specs.Replays.{IsReplayOf}
use Rattle.record_log.specs.Stores.{LacksGate, HasBadBody, EndsWithBadLength, HasBadGate, HasNo, IsWhole, OneCounts, is_passed}
use Rattle.record_log.specs.Reads.{ReadsAreas, ReadsLog}

-- a list around one of its items
around : {A : Type 0} (xs : List A) (i : ℕ) (x : A) → slice_get xs i ≡ Some x → (after : List A) × (xs ≡ take i xs ++ x ∷ after)
around [] i x here = absurd (cc)
around (y ∷ ys) zero x here = (ys, ap (λ z. z ∷ ys) (cc))
around (y ∷ ys) (suc i) x here = let more = around ys i x here in (more.0, ap (λ zs. y ∷ zs) more.1)

pub bad_body : (area : AreaState) (index : ℕ) (log : List Rec) (body : List ℕ) → IsLogOf log (take index area.bodies) → slice_get area.bodies index ≡ Some body → IsNoNext log body → HasBadBody area (end_of (take index area.bodies))
bad_body area index log body stands here no_next = let parts = around area.bodies index body here in record {
  before = take index area.bodies;
  body = body;
  after = parts.0;
  are = parts.1;
  log = log;
  stands = stands;
  no_next = no_next;
  place_is = refl;
}

-- of the records of a log that the bodies are, the one behind those before it may follow them
may_come : (log more : List Rec) (before after : List (List ℕ)) (body : List ℕ) (front : List Rec) → map reading before ≡ map Ok log → map reading (before ++ body ∷ after) ≡ map Ok more → MayAllFollow front more → (it : Rec) × (reading body ≡ Ok it) × MayFollow (front ++ log) it
may_come [] [] [] after body front stands are legal = absurd (cc)
may_come [] (r ∷ more) [] after body front stands are legal = (r, cc, subst (λ (l : List Rec). MayFollow l r) (sym (append-nil front)) legal.0)
may_come (s ∷ log) more [] after body front stands are legal = absurd (cc)
may_come [] more (b ∷ before) after body front stands are legal = absurd (cc)
may_come (s ∷ log) [] (b ∷ before) after body front stands are legal = absurd (cc)
may_come (s ∷ log) (r ∷ more) (b ∷ before) after body front stands are legal =
    let same : s ≡ r = cc in
    let next = may_come log more before after body (front ++ r ∷ []) (cc) (cc) legal.1 in
    (next.0, next.1, subst (λ (l : List Rec). MayFollow l next.0) (append_assoc front (r ∷ []) log ∙ ap (λ (x : Rec). front ++ x ∷ log) (sym same)) next.2)

pub no_bad_gate : (area : AreaState) (log : List Rec) → IsLogOf log area.bodies → area.ending ≢ Unreadable → HasNo HasBadGate area
no_bad_gate area log whole other place = ⊎_elim
    (λ (bad : HasBadBody area place).
    let next = may_come bad.log log bad.before bad.after bad.body [] bad.stands.are (ap (map reading) (sym bad.are) ∙ whole.are) whole.legal in
    bad.no_next next.0 next.1 next.2)
    (λ (bad : EndsWithBadLength area place). other bad.ending)

closed_end : (ending : Ending) → ending ≢ Unreadable → ending ≢ Missing → ending ≡ Closed
closed_end Closed other more = refl
closed_end Missing other more = absurd (more refl)
closed_end Unreadable other more = absurd (other refl)

pub whole_area : (area : AreaState) (log : List Rec) → IsLogOf log area.bodies → area.ending ≢ Unreadable → HasNo LacksGate area → IsWhole area
whole_area area log stands other no_end = (closed_end area.ending other (λ missing. no_end (end_of area.bodies) (missing, refl)), log, stands)

-- the first area's log was read, and the second's wasn't
pub spare_fault : (a b : AreaState) (first : Replay) (fault : StoreFault) → OneCounts a b → HasNo LacksGate a → HasNo LacksGate b → ReadsLog Main a (Ok first) → ReadsLog Spare b (Err fault) → ReadsAreas a b (Err fault)
spare_fault a b first ReadFault one gates gates' log bad = bad
spare_fault a b first (BadJournal part place) one gates gates' log bad = inr (inr (one, gates, gates', inr (bad.0, no_bad_gate a log.0 log.1 log.3, bad.1)))
spare_fault a b first (TooLong part len) one gates gates' log bad = bad
spare_fault a b first NoMemory one gates gates' log bad = tt

-- both areas' logs were read, and this is what is held of the one that is taken
pub both_read : (a b : AreaState) (first second : Replay) → OneCounts a b → HasNo LacksGate a → HasNo LacksGate b → ReadsLog Main a (Ok first) → ReadsLog Spare b (Ok second)
    → (newer : Bool) → newer ≡ is_passed a b → ReadsAreas a b (Ok (newer, if newer then second else first))
both_read a b first second one gates gates' f s newer is =
    let bodies = λ (p : Bool). if p then b.bodies else a.bodies in
    let taken = by newer in (
      one,
      whole_area a f.0 f.1 f.3 gates,
      whole_area b s.0 s.1 s.3 gates',
      is,
      taken.0,
      subst (λ (p : Bool). IsLogOf taken.0 (bodies p)) is taken.1,
      taken.2,
      subst (λ (p : Bool). bodies p ≡ map spelling taken.0) is taken.3,
    )
  where
    by : (p : Bool) → (log : List Rec) × IsLogOf log (if p then b.bodies else a.bodies) × IsReplayOf (if p then second else first) log × ((if p then b.bodies else a.bodies) ≡ map spelling log)
    by true = (s.0, s.1, s.2, s.4)
    by false = (f.0, f.1, f.2, f.4)
