-- Two disks that stand for a log can be read: neither is too long, and neither holds a bad journal.
use Rattle.std.proofs.Common.{◌≡◌, inl, inr, ℕ, List, [], ◌∷◌, sym, ◌∙◌, subst, arith, true, false}
use Rattle.std.specs.Prelude.{Some}
use Rattle.gate_journal.specs.Areas.{AreaState}
use Rattle.gate_journal.specs.declared.area.Ending.TheVariants.{Closed, Missing, Unreadable}
use Rattle.gate_journal.proofs.Unique.{held_headed, one_held}
use Rattle.record_codec.specs.declared.records.Rec.{Rec}
use Rattle.record_log.specs.declared.fault.OpenFault.{OpenFault}
use Rattle.record_log.specs.declared.fault.OpenFault.TheVariants.{ReadFault, SyncFault, BadJournal, TooLong, NoMemory}
use Rattle.record_log.specs.declared.fault.Part.{Part}
use Rattle.record_log.specs.Standing.{as_loaded, StandIn, StandFor}
use Rattle.record_log.specs.Stores.{HasBadGate, IsBadPair, IsBadStore, IsTooLong, IsWhole, LacksGate, OneCounts}
use Rattle.record_log.specs.Opening.{FailsBy, IsOfCalls}
use Rattle.record_log.proofs.AreaFaults.{no_bad_gate}

-- a whole area has no bad gate
gates : (x : AreaState) (place : ℕ) → IsWhole x → HasBadGate x place → ⊥
gates x place whole bad = no_bad_gate x whole.1 whole.2 (λ unread. let wrong : Closed ≡ Unreadable = sym whole.0 ∙ unread in absurd (cc)) place bad

-- and it ends behind a gate
ends : (x : AreaState) (place : ℕ) → IsWhole x → LacksGate x place → ⊥
ends x place whole bad = let wrong : Closed ≡ Missing = sym whole.0 ∙ bad.0 in absurd (cc)

pair : (x y : AreaState) (part : Part) (place : ℕ) → OneCounts x y → IsWhole x → IsWhole y → IsBadPair x y part place → ⊥
pair x y part place (inl on) wx wy (inl none) = let wrong : true ≡ false = sym on ∙ none.0 in absurd (cc)
pair x y part place (inr on) wx wy (inl none) = let wrong : true ≡ false = sym on ∙ none.1 in absurd (cc)
pair x y part place one wx wy (inr (inl (_, inl main))) = ends x place wx main.1
pair x y part place one wx wy (inr (inl (_, inr spare))) = ends y place wy spare.2
pair x y part place one wx wy (inr (inr (_, _, _, inl main))) = gates x place wx main.1
pair x y part place one wx wy (inr (inr (_, _, _, inr spare))) = gates y place wy spare.2

-- two disks that stand for a log hold no bad journal
no_bad_store : (log : List Rec) (a b : List ℕ) (part : Part) (place : ℕ) → StandIn log a b → IsBadStore (as_loaded true a) (Some (as_loaded false b)) part place → ⊥
no_bad_store log a b part place s (inl (inl main)) = held_headed (as_loaded true a) s.holds.main s.holds.holds main.1.1
no_bad_store log a b part place s (inl (inr spare)) = held_headed (as_loaded false b) s.holds.spare s.holds.spare_holds spare.2.1
no_bad_store log a b part place s (inr held) =
    let x = one_held (as_loaded true a) s.holds.main held.0 s.holds.holds held.2 in
    let y = one_held (as_loaded false b) s.holds.spare held.1 s.holds.spare_holds held.3 in
    pair held.0 held.1 part place (subst (λ (z : AreaState). OneCounts z held.1) x (subst (OneCounts s.holds.main) y s.holds.counted)) (subst IsWhole x s.holds.whole) (subst IsWhole y s.holds.spare_whole) held.4

-- and neither is too long
not_too_long : (log : List Rec) (a b : List ℕ) (part : Part) (len : ℕ) → StandIn log a b → IsTooLong (as_loaded true a) (Some (as_loaded false b)) part len → ⊥
not_too_long log a b part len s (inl main) = omega (arith, main.1.0, s.short.0)
not_too_long log a b part len s (inr spare) = omega (arith, spare.2.0, s.short.1)

of_calls : (log : List Rec) (a b : List ℕ) (fault : OpenFault) → StandIn log a b → FailsBy a b fault → IsOfCalls fault
of_calls log a b ReadFault s f = tt
of_calls log a b SyncFault s f = tt
of_calls log a b (BadJournal place) s f = no_bad_store log a b f.1 place s f.2
of_calls log a b (TooLong len) s f = not_too_long log a b f.0 len s f.1
of_calls log a b NoMemory s f = tt

-- so that only a call of a disk or want of memory keeps them from being read
pub stood_of_calls : (a b : List ℕ) (logs : List (List Rec)) (fault : OpenFault) → StandFor a b logs → FailsBy a b fault → IsOfCalls fault
stood_of_calls a b [] fault s f = absurd s
stood_of_calls a b (log ∷ logs) fault (inl here) f = of_calls log a b fault here f
stood_of_calls a b (log ∷ logs) fault (inr there) f = stood_of_calls a b logs fault there f
