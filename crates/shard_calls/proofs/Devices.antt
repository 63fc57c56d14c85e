-- Which calls of the disks a call of a shard makes, by what its parts make.
use Rattle.std.proofs.Common.{◌≡◌, ◌∙◌, ℕ, ◌+◌, ◌-◌, ◌^◌, min, Bool, true, false, ◌&&◌, List, [], ◌++◌, Result, Ok, Err, refl, sym, ap, subst, append-nil, inr}
use Rattle.leaf_edges.specs.Disks.{Op}
use Rattle.record_codec.specs.declared.records.Rec.{Rec}
use Rattle.record_log.specs.LogStates.{LogState, in_use, counted, uncounted}
use Rattle.record_log.specs.Opening.{AddsAll, AddsFront, OpenDoes, open_calls}
use Rattle.record_log.specs.declared.fault.OpenFault.{OpenFault}
use Rattle.log_replay.specs.declared.replay.Replay.{Replay}
use Rattle.record_codec.specs.declared.records.Rec.TheVariants.{Boot}
use Rattle.shard_machine.specs.Steps.{Held}
use Rattle.shard_calls.specs.Adding.{AddsCalls}
use Rattle.shard_calls.specs.DeviceCalls.{DidNothing, DidThese, AppendsFront, AppendsAtMost, LoadsFront, CallDoes, OpeningOf}
use Rattle.shard_calls.specs.Memories.{MemoryParts, at}
use Rattle.shard_calls.specs.Shards.{Keeps, KeepsIf, IsReread}
use Rattle.shard_calls.proofs.Loading.{is-next, opening-number, streams-small}

did-these : {D : Type 0} (done : D → List Op) (old new : LogState D) (front : List Op) → new.on_spare ≡ old.on_spare → uncounted new ≡ uncounted old → done (counted new) ≡ done (counted old) ++ front → DidThese done old new front
did-these done old new front disk one calls = (
  subst (λ (b : Bool). done (in_use b new.main new.spare) ≡ done (counted old) ++ front) disk calls,
  ap done (subst (λ (b : Bool). in_use b new.spare new.main ≡ uncounted old) disk one),
)

-- what adding a record makes is a front of its append
pub appends-front : {D : Type 0} (done : D → List Op) (old new : LogState D) (r : Rec) → new.on_spare ≡ old.on_spare → uncounted new ≡ uncounted old → AddsCalls done old new r → AppendsFront done old new r
appends-front done old new r disk one c = (c.0, c.1, c.2, did-these done old new c.0 disk one c.3)

adds-front : {D : Type 0} (seen : D → List ℕ) (unsynced : D → Bool) (done : D → List Op) (counts : Bool) (old new : D) → AddsAll seen unsynced done counts old new → AddsFront seen unsynced done counts old new
adds-front seen unsynced done counts old new all = (open_calls counts (seen old) (unsynced old), [], sym (append-nil (open_calls counts (seen old) (unsynced old))), all)

-- what an opening makes is a front of its calls, whatever it answers
pub opens-front : {D T : Type 0} (seen : D → List ℕ) (unsynced : D → Bool) (done : D → List Op) (main spare main' spare' : D) (result : Result T OpenFault) → OpenDoes seen unsynced done main spare main' spare' result → AddsFront seen unsynced done true main main' × AddsFront seen unsynced done false spare spare'
opens-front seen unsynced done main spare main' spare' (Ok value) d = (adds-front seen unsynced done true main main' d.0, adds-front seen unsynced done false spare spare' d.1)
opens-front seen unsynced done main spare main' spare' (Err fault) d = d

-- what a load made, and then what was appended
pub call-does : {D : Type 0} (seen : D → List ℕ) (unsynced : D → Bool) (done : D → List Op) (ready : Bool) (old loaded new : LogState D) → (ready ≡ true → loaded ≡ old) → LoadsFront seen unsynced done old loaded → AppendsAtMost done loaded new → CallDoes seen unsynced done ready old new
call-does seen unsynced done true old loaded new same loads appends = subst (λ (l : LogState _). AppendsAtMost done l new) (same refl) appends
call-does seen unsynced done false old loaded new same loads appends = (loaded, loads, appends)

pub nothing-here : {D : Type 0} (done : D → List Op) (l : LogState D) → DidNothing done l l
nothing-here done l = (refl, refl)

-- a shard that is loaded is ready
pub kept-ready : {D : Type 0} (m : MemoryParts) (l : LogState D) (h : Held) → Keeps (at m l) h → h.loaded ≡ true → (m.loaded && l.is_open) ≡ true
kept-ready m l h keeps on = by m.loaded refl
  where
    by : (b : Bool) → m.loaded ≡ b → (m.loaded && l.is_open) ≡ true
    by true is = ap (λ (b : Bool). b && l.is_open) is ∙ (subst (λ (b : Bool). KeepsIf b (at m l) h) is keeps.parts).1.0
    by false is = absurd (let wrong : true ≡ false = sym on ∙ keeps.loaded ∙ is in cc)

-- the opening that a load adds is the log's next one
pub opening-of : {D : Type 0} (images : D → List ℕ → Type 0) (done : D → List Op) (m : MemoryParts) (l l' : LogState D) (streams : Replay) (h : Held) (before settled : List Rec) (keeps : Keeps (at m l) h) (re : IsReread images l streams h before settled) (n : ℕ) → n ≡ min (streams.boot + 1) (2 ^ 64 - 1) → AppendsFront done l l' (Boot n) → OpeningOf done l l' h
opening-of images done m l l' streams h before settled keeps re n is front =
    let number = opening-number streams.boot n (streams-small images (λ _. 0) (λ _ _ _. ⊥) m m l l' streams h before settled keeps re n) is in
    inr (settled, re.is_settled, subst (AppendsFront done l l') (is-next images (λ _. 0) (λ _ _ _. ⊥) m m l l' streams h before settled keeps re n number) front)
