-- How far a copy has come never falls.
use Rattle.std.proofs.Common.{◌≡◌, ℕ, ◌-◌, ◌≤◌, max, List, ◌++◌, Option, Some, None, refl, sym, ap, ◌∙◌, subst, arith, inl}
use Rattle.std.specs.Prelude.{Contains}
use Rattle.std.proofs.lemmas.List.Elements.{Contains-append_left}
use Rattle.nats_text.specs.declared.message.Start.{Start}
use Rattle.nats_text.specs.declared.message.Start.TheVariants.{Seq, Time}
use Rattle.nats_text.specs.declared.origin.Origin.{Origin}
use Rattle.stream_fold.specs.declared.config.Config.{Config}
use Rattle.stream_fold.specs.declared.config.Copies.{Copies}
use Rattle.stream_fold.specs.declared.config.Copies.TheVariants.{Nothing, Mirror, Sources}
use Rattle.stream_fold.specs.declared.entry.BoundTo.{BoundTo}
use Rattle.stream_fold.specs.Copying.{bound, origin_named, copy_start, configured, start_by, marks, mark, mark_or, last_mark, IsRightStart, SourceHolds}
use Rattle.stream_fold.specs.Fits.{AllFit}
use Rattle.stream_fold.specs.Histories.{History, either}
use Rattle.stream_fold.specs.RowLists.{Rises}
use Rattle.shard_machine.specs.Logs.{Made, made}
use Rattle.run_soundness.specs.Below.{Laws}
use Rattle.run_soundness.specs.Laws.{NeverBack, NoLess}
use Rattle.run_soundness.specs.Soundness.{Holds, HoldsNothing, HoldsBound, HoldsBy}
use Rattle.run_soundness.specs.Worlds.{World, Event, Run, IsEmpty}
use Rattle.run_soundness.proofs.Entries.{bound-append, marks-append, marks-empty, last-in, mark-top, mark-above, start-is}
use Rattle.run_soundness.proofs.Histories.{GoesOn, last-on}
use Rattle.run_soundness.proofs.Invariant.{Inv}
use Rattle.run_soundness.proofs.Lasting.{run-grows}
use Rattle.run_soundness.proofs.Runs.{Inv-empty, Inv-run}
use Rattle.run_soundness.proofs.Wanting.{mirror-origin}

-- ---- where a copy starts never falls

bound-on : (i : ℕ) (h k : History) (g : GoesOn h k) → bound i k.entries ≡ either (bound i h.entries) (bound i g.rest)
bound-on i h k g = ap (bound i) g.entries ∙ bound-append i h.entries g.rest

-- a right start is at least the configured one
right-configured : (origin : History) (from : Start) (start : ℕ) → IsRightStart origin from start → configured from ≤ max 1 start
right-configured origin (Seq n) start q = omega arith
right-configured origin (Time moment) start q = omega arith

start-grows : (from : Start) (a b c : Option BoundTo) → c ≡ either a b → ((to : BoundTo) → c ≡ Some to → configured from ≤ max 1 to.start) → start_by a from ≤ start_by c from
start-grows from (Some to) b c e f = subst (λ (x : Option BoundTo). start_by (Some to) from ≤ start_by x from) (sym e) (omega arith)
start-grows from None None c e f = subst (λ (x : Option BoundTo). configured from ≤ start_by x from) (sym e) (omega arith)
start-grows from None (Some to) c e f = subst (λ (x : Option BoundTo). configured from ≤ start_by x from) (sym e) (f to e)

-- the start of a bound copy is at least the configured one
bound-right : (w : World) (n : List ℕ) (k : History) (i : ℕ) (want : Origin) → HoldsBy w n k i want (bound i k.entries) → (to : BoundTo) → bound i k.entries ≡ Some to → configured want.start ≤ max 1 to.start
bound-right w n k i want q to e =
    let b : HoldsBound w n k i want to = subst (λ (x : Option BoundTo). HoldsBy w n k i want x) e q in
    right-configured b.origin.history want.start to.start b.right

-- ---- marks never fall

marks-on : (i : ℕ) (h k : History) (g : GoesOn h k) → marks i k.entries ≡ marks i h.entries ++ marks i g.rest
marks-on i h k g = ap (marks i) g.entries ∙ marks-append i h.entries g.rest

from-start : (i : ℕ) (k : History) (o : Option ℕ) → last_mark i k.entries ≡ o → Rises (copy_start i k) (marks i k.entries) → copy_start i k - 1 ≤ mark i k
from-start i k None e r = let q : mark i k ≡ copy_start i k - 1 = ap (λ (o : Option ℕ). mark_or o (copy_start i k - 1)) e in omega arith
from-start i k (Some x) e r =
    let q : mark i k ≡ x = ap (λ (o : Option ℕ). mark_or o (copy_start i k - 1)) e in
    let p = mark-above (copy_start i k) (marks i k.entries) x r (last-in i k.entries x e) in omega arith

mark-grows : (i : ℕ) (h k : History) (g : GoesOn h k) (o : Option ℕ) → last_mark i h.entries ≡ o → copy_start i h ≤ copy_start i k → Rises (copy_start i k) (marks i k.entries) → mark i h ≤ mark i k
mark-grows i h k g None e le r =
    let q : mark i h ≡ copy_start i h - 1 = ap (λ (o : Option ℕ). mark_or o (copy_start i h - 1)) e in
    let p = from-start i k (last_mark i k.entries) refl r in omega arith
mark-grows i h k g (Some x) e le r =
    let q : mark i h ≡ x = ap (λ (o : Option ℕ). mark_or o (copy_start i h - 1)) e in
    let here : Contains (marks i k.entries) x = subst (λ (l : List ℕ). Contains l x) (sym (marks-on i h k g)) (Contains-append_left (marks i h.entries) (marks i g.rest) x (last-in i h.entries x e)) in
    let p = mark-top i k x r here in omega arith

rises-by : (w : World) (n : List ℕ) (k : History) (i : ℕ) (want : Origin) (os : List Origin) → k.config.copies ≡ Sources os → (b : Option BoundTo) → HoldsBy w n k i want b → Rises (copy_start i k) (marks i k.entries)
rises-by w n k i want os is None q =
    let none : HoldsNothing (Sources os) k i = subst (λ (c : Copies). HoldsNothing c k i) is q in
    subst (λ (l : List ℕ). Rises (copy_start i k) l) (sym (marks-empty i k.entries none)) tt
rises-by w n k i want os is (Some to) q =
    let sh : SourceHolds want q.origin.history k i = subst (λ (c : Copies). Holds c want q.origin.history k i) is q.holds in sh.rise

-- ---- each copy

copies-grow : (w : World) (n : List ℕ) (h k : History) (i : ℕ) (want : Origin) (c : Copies) → h.config.copies ≡ c → (g : GoesOn h k) → AllFit h → AllFit k → origin_named i c ≡ Some want → HoldsBy w n k i want (bound i k.entries) → NoLess c i want h k
copies-grow w n h k i want Nothing is g fh fk o q = tt
copies-grow w n h k i want (Mirror x) is g fh fk o q =
    let z : i ≡ 0 = (mirror-origin x want i o).1 in
    let st : start_by (bound i h.entries) want.start ≤ start_by (bound i k.entries) want.start = start-grows want.start (bound i h.entries) (bound i g.rest) (bound i k.entries) (bound-on i h k g) (bound-right w n k i want q) in
    let st0 : start_by (bound 0 h.entries) want.start ≤ start_by (bound 0 k.entries) want.start = subst (λ j. start_by (bound j h.entries) want.start ≤ start_by (bound j k.entries) want.start) z st in
    let le = last-on h k g in omega arith
copies-grow w n h k i want (Sources os) is g fh fk o q =
    let kc : k.config.copies ≡ Sources os = ap (λ (c : Config). c.copies) g.config ∙ is in
    let st : start_by (bound i h.entries) want.start ≤ start_by (bound i k.entries) want.start = start-grows want.start (bound i h.entries) (bound i g.rest) (bound i k.entries) (bound-on i h k g) (bound-right w n k i want q) in
    let sh : copy_start i h ≡ start_by (bound i h.entries) want.start = start-is i h want fh (subst (λ (c : Copies). origin_named i c ≡ Some want) (sym is) o) in
    let sk : copy_start i k ≡ start_by (bound i k.entries) want.start = start-is i k want fk (subst (λ (c : Copies). origin_named i c ≡ Some want) (sym kc) o) in
    mark-grows i h k g (last_mark i h.entries) refl (omega arith) (rises-by w n k i want os kc (bound i k.entries) q)

-- No copy of any stream ever goes back.
pub points-never-back : Laws → (first w v : World) (before after : List Event) → IsEmpty first → Run first before w → Run w after v →
    (node : List ℕ) (k : ℕ) (name : List ℕ) (incarnation : ℕ) (m : Made) → made (w.shard node k).log name incarnation ≡ Some m → NeverBack m (v.shard node k).log name incarnation
points-never-back laws first w v before after e r s node k name incarnation m q =
    let iw : Inv w = Inv-run laws first before w (Inv-empty first e) r in
    let iv : Inv v = Inv-run laws w after v iw s in
    let l = (run-grows laws w after v iw s node k).mades name incarnation m q in
    let g : GoesOn m.history l.0.history = l.2.history in
    record {
      later = l.0;
      there = l.1;
      rest = g.rest;
      goes_on = g.entries;
      points = λ index want o.
          (let o' : origin_named index l.0.history.config.copies ≡ Some want = subst (λ (c : Config). origin_named index c.copies ≡ Some want) (sym g.config) o in
          copies-grow v node m.history l.0.history index want m.history.config.copies refl g ((iw.shards node k).logs.each name incarnation m q).fit ((iv.shards node k).logs.each name incarnation l.0 l.1).fit o
          ((iv.logs node k (v.shard node k).log (inl refl) name incarnation l.0 l.1).holds index want o'));
    }
