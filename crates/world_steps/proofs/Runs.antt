-- The events of what nodes do are a run.
use Rattle.std.proofs.Common.{◌≡◌, ℕ, zero, suc, Bool, true, false, List, [], ◌∷◌, ◌++◌, Option, Some, None, refl, sym, ap, subst, inl, inr}
use Rattle.js_wire.specs.declared.packet.Packet.{Packet}
use Rattle.run_soundness.specs.Worlds.{World, Event, Happens, Run, Links}
use Rattle.world_steps.specs.declared.event.Event.{Event as Order}
use Rattle.world_steps.specs.declared.outcome.StepOutcome.{StepOutcome}
use Rattle.world_steps.specs.declared.job.Job.{Job}
use Rattle.world_steps.specs.Links.{Site, Net, channel_of, arriving}
use Rattle.world_steps.specs.Routes.{Moments}
use Rattle.world_steps.specs.Works.{Working, due_then, Works, WorksInPart, Fails}
use Rattle.world_steps.specs.Tasks.{Task, Work, CarryOne, Turn, Arrives, ArrivesInPart, Turns, Does, DoesInPart, DoesAll, DoesSome, link_event, come_to, due_by, without_frame, receiver}
use Rattle.world_steps.specs.Steps.{Steps, StepsInPart, tasks_of, with_ordered}
use Rattle.world_steps.specs.Settling.{Settles, SettlesInPart, round_tasks, round_moments, next_lane}

-- one run after another
pub runs-on : (a b c : World) (es fs : List Event) → Run a es b → Run b fs c → Run a (es ++ fs) c
runs-on a b c [] fs first rest = subst (λ (w : World). Run w fs c) first rest
runs-on a b c (e ∷ es) fs first rest = (first.0, first.1, runs-on first.0 b c es fs first.2 rest)

works-run : (m : Moments) (at : List ℕ) (w : World) (sites : List Site) (jobs : List Job) (es : List Event) (end : Working) → Works m at w sites jobs es end → Run w es end.world
works-run m at w sites jobs [] end h = ap (λ (x : Working). x.world) h
works-run m at w sites [] (e ∷ es) end h = absurd h
works-run m at w sites (j ∷ js) (e ∷ es) end h = (
  h.1,
  subst (λ (x : Event). Happens w x h.1) (sym h.2) h.4,
  works-run m at h.1 (due_then m h.1 at j.call h.0 sites js).sites (due_then m h.1 at j.call h.0 sites js).jobs es end h.5,
)

fails-run : (at : List ℕ) (w : World) (jobs : List Job) (es : List Event) (last : World) → Fails at w jobs es last → Run w es last
fails-run at w jobs [] last h = h
fails-run at w [] (e ∷ es) last h = absurd h
fails-run at w (j ∷ js) (e ∷ es) last h =
    subst (λ (fs : List Event). Run w (e ∷ fs) last) (sym h.1) (last, subst (λ (x : Event). Happens w x last) (sym h.2) h.4, refl)

part-runs : (m : Moments) (at : List ℕ) (old : Net) (jobs : List Job) (es : List Event) (last : World) → WorksInPart m at old jobs es last → Run old.world es last
part-runs m at old jobs es last h = subst (λ (fs : List Event). Run old.world fs last) (sym h.events)
    (runs-on old.world h.mid.world last h.made h.failed (works-run m at old.world old.sites jobs h.made h.mid h.works) (fails-run at h.mid.world h.mid.due.jobs h.failed last h.fails))

none-runs : (w v : World) (es : List Event) → es ≡ [] → v ≡ w → Run w es v
none-runs w v es none same = subst (λ (fs : List Event). Run w fs v) (sym none) same

arrives-run : (m : Moments) (net : Net) (at : List ℕ) (p : Option Packet) (es : List Event) (new : Net) → Arrives m net at p es new → Run net.world es new.world
arrives-run m net at None es new h = none-runs net.world new.world es h.0 (ap (λ (x : Net). x.world) h.1)
arrives-run m net at (Some p) es new h = works-run m at net.world (due_by m net at p).sites (due_by m net at p).jobs es _ h

arrives-part-run : (m : Moments) (net : Net) (at : List ℕ) (p : Option Packet) (es : List Event) (last : World) → ArrivesInPart m net at p es last → Run net.world es last
arrives-part-run m net at None es last h = none-runs net.world last es h.0 h.1
arrives-part-run m net at (Some p) es last h = part-runs m at (come_to m net at p) (due_by m net at p).jobs es last h

links-happen : (leaf : List ℕ) (up : Bool) (old new : World) → Links old leaf up new → Happens old (link_event leaf up) new
links-happen leaf true old new h = h
links-happen leaf false old new h = h

turns-run : (leaf : List ℕ) (up : Bool) (old : Net) (es : List Event) (new : Net) → Turns leaf up old es new → Run old.world es new.world
turns-run leaf up old es new h = subst (λ (fs : List Event). Run old.world fs new.world) (sym h.event) (new.world, links-happen leaf up old.world new.world h.links, refl)

does-run : (t : Task) (old : Net) (es : List Event) (new : Net) → Does t old es new → Run old.world es new.world
does-run (Work m at jobs) old es new h = works-run m at old.world old.sites jobs es _ h
does-run (CarryOne m leaf direction) old es new h =
    arrives-run m (without_frame old leaf direction) (receiver old.sites leaf direction) (arriving (channel_of old.sites leaf direction)) es new h
does-run (Turn leaf up) old es new h = turns-run leaf up old es new h

part-does-run : (t : Task) (old : Net) (es : List Event) (last : World) → DoesInPart t old es last → Run old.world es last
part-does-run (Work m at jobs) old es last h = part-runs m at old jobs es last h
part-does-run (CarryOne m leaf direction) old es last h =
    arrives-part-run m (without_frame old leaf direction) (receiver old.sites leaf direction) (arriving (channel_of old.sites leaf direction)) es last h
part-does-run (Turn leaf up) old es last h = none-runs old.world last es h.0 h.1

pub all-run : (ts : List Task) (old : Net) (es : List Event) (new : Net) → DoesAll ts old es new → Run old.world es new.world
all-run [] old es new h = none-runs old.world new.world es h.0 (ap (λ (x : Net). x.world) h.1)
all-run (t ∷ ts) old es new h = subst (λ (fs : List Event). Run old.world fs new.world) (sym h.3)
    (runs-on old.world h.2.world new.world h.0 h.1 (does-run t old h.0 h.2 h.4) (all-run ts h.2 h.1 new h.5))

pub some-run : (ts : List Task) (old : Net) (es : List Event) (last : World) → DoesSome ts old es last → Run old.world es last
some-run [] old es last h = none-runs old.world last es h.0 h.1
some-run (t ∷ ts) old es last h = elim h [
  | inl none ↦ none-runs old.world last es none.0 none.1
  | inr more ↦ (elim more [
    | inl part ↦ part-does-run t old es last part
    | inr x ↦ subst (λ (fs : List Event). Run old.world fs last) (sym x.3)
        (runs-on old.world x.2.world last x.0 x.1 (does-run t old x.0 x.2 x.4) (some-run ts x.2 x.1 last x.5))
  ])
]

pub steps-run : (m : Moments) (o : Order) (old new : Net) (es : List Event) (out : StepOutcome) → Steps m o old es out new → Run old.world es new.world
steps-run m o old new es out h = all-run (tasks_of m old o) (with_ordered o old) es new h.does

pub parts-run : (m : Moments) (o : Order) (old : Net) (last : World) (es : List Event) → StepsInPart m o old es last → Run old.world es last
parts-run m o old last es h = some-run (tasks_of m old o) (with_ordered o old) es last h

pub settling-runs : (n : ℕ) (m end : Moments) (old new : Net) (es : List Event) → Settles n m old es end new → Run old.world es new.world
settling-runs zero m end old new es h = none-runs old.world new.world es h.1 (ap (λ (x : Net). x.world) h.3)
settling-runs (suc n) m end old new es h = subst (λ (fs : List Event). Run old.world fs new.world) (sym h.4)
    (runs-on old.world h.3.world new.world h.1 h.2 (all-run (round_tasks m old.sites (next_lane old)) old h.1 h.3 h.5)
    (settling-runs n (round_moments m (next_lane old)) end h.3 new h.2 h.6))

pub settling-parts-run : (n : ℕ) (m : Moments) (old : Net) (last : World) (es : List Event) → SettlesInPart n m old es last → Run old.world es last
settling-parts-run zero m old last es h = some-run (round_tasks m old.sites (next_lane old)) old es last h
settling-parts-run (suc n) m old last es h = subst (λ (fs : List Event). Run old.world fs last) (sym h.4)
    (runs-on old.world h.3.world last h.1 h.2 (all-run (round_tasks m old.sites (next_lane old)) old h.1 h.3 h.5)
    (settling-parts-run n (round_moments m (next_lane old)) h.3 last h.2 h.6))
