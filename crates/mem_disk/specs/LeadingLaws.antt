-- The laws of what a disk in memory keeps from call to call.
use Rattle.std.proofs.Common.{◌≡◌, ◌+◌, ◌<◌, ◌≤◌, List, [], ◌∷◌, ◌++◌, Option, Some, None, ◌⊎◌, inl, inr, refl, sym, ap, ◌∙◌, arith, append_assoc, append-nil}
use Rattle.std.specs.Prelude.{IsSome, is_some}
use Rattle.leaf_edges.specs.Disks.{Op, wrote, cut_to, synced}
use Rattle.mem_disk.specs.MemDisks.{DiskState}
use Rattle.mem_disk.specs.Leading.{burns, GoesOn, StopsBehind, LeadsTo}

pub burns-append : (a b : List Op) → burns (a ++ b) ≡ burns a + burns b
burns-append [] b = omega arith
burns-append (wrote place bytes ∷ a) b = omega (arith, burns-append a b)
burns-append (cut_to len ∷ a) b = burns-append a b
burns-append (synced ∷ a) b = omega (arith, burns-append a b)

is_there : {A : Type 0} (o : Option A) (a : A) → o ≡ Some a → IsSome o
is_there o a is = ap is_some is

not_both : {A : Type 0} (o : Option A) (a : A) → o ≡ Some a → o ≡ None → ⊥
not_both o a some none = cc

stays : (d : DiskState) → GoesOn [] d d
stays d = record { stopped = refl; tried = refl; fuse = omega arith; left = λ lit. omega (arith, lit); idle = λ is. refl; quiet = λ runs none. refl; last = λ same below. refl }

-- no call leads from a disk to itself
pub leads_here : (d : DiskState) → LeadsTo d d
leads_here d = record {
  first = refl;
  failing = refl;
  fate = refl;
  ops = [];
  done = sym (append-nil d.past.done);
  calls = omega arith;
  faults = omega arith;
  way = inl (stays d);
  sound = λ sound. sound;
}

module _ (a b : List Op) (one two three : DiskState) (failing : two.failing ≡ one.failing) (fate : two.fuse_fate ≡ one.fuse_fate) (early : one.fault_count ≤ two.fault_count) (late : two.fault_count ≤ three.fault_count) where
  on_on : GoesOn a one two → GoesOn b two three → GoesOn (a ++ b) one three
  on_on here there = record {
    stopped = there.stopped ∙ here.stopped;
    tried = there.tried ∙ here.tried;
    fuse = omega (arith, here.fuse, there.fuse, burns-append a b);
    left = λ lit.
        let before : burns a < one.fuse = here.left lit in
        let after : burns b < two.fuse = there.left (λ none. absurd (omega (arith, before, none, here.fuse))) in
        omega (arith, before, after, here.fuse, burns-append a b);
    idle = λ is. ap (λ (l : List Op). l ++ b) (here.idle is) ∙ there.idle (ap is_some here.stopped ∙ is);
    quiet = λ runs none. there.quiet (here.stopped ∙ runs) (failing ∙ none) ∙ here.quiet runs none;
    last = λ same below.
        let first : two.fault_count ≡ one.fault_count = omega (arith, same, early, late) in
        let then : three.fault_count ≡ two.fault_count = omega (arith, same, early, late) in
        there.last then below ∙ here.last first (omega (arith, below, late));
  }

  on_stop : GoesOn a one two → StopsBehind b two three → StopsBehind (a ++ b) one three
  on_stop here there = record {
    running = sym here.stopped ∙ there.running;
    fuse = omega (arith, here.fuse, there.fuse, burns-append a b);
    stopped = there.stopped ∙ ap (λ fate. Some fate) fate;
    burnt = there.burnt;
    at = there.at;
    tried = there.tried;
    rose = (omega (arith, early, late), omega (arith, early, there.rose.1));
    only = λ one_more below. there.only (omega (arith, one_more, below, early, there.rose.1)) below;
  }

  stop_on : StopsBehind a one two → GoesOn b two three → StopsBehind (a ++ b) one three
  stop_on here there =
      let still : b ≡ [] = there.idle (is_there two.stopped one.fuse_fate here.stopped) in
      let none : burns b ≡ 0 = ap burns still in
      record {
        running = here.running;
        fuse = omega (arith, here.fuse, none, burns-append a b);
        stopped = there.stopped ∙ here.stopped;
        burnt = omega (arith, there.fuse, here.burnt);
        at = here.at;
        tried = there.tried ∙ here.tried;
        rose = (omega (arith, early, late), omega (arith, late, here.rose.1));
        only = λ one_more below.
            let then : three.fault_count ≡ two.fault_count = omega (arith, one_more, below, late, here.rose.1) in
            there.last then below ∙ here.only (sym then ∙ one_more) (omega (arith, below, late));
      }

  on_from : GoesOn a one two → GoesOn b two three ⊎ StopsBehind b two three → GoesOn (a ++ b) one three ⊎ StopsBehind (a ++ b) one three
  on_from here (inl there) = inl (on_on here there)
  on_from here (inr there) = inr (on_stop here there)

  stop_from : StopsBehind a one two → GoesOn b two three ⊎ StopsBehind b two three → GoesOn (a ++ b) one three ⊎ StopsBehind (a ++ b) one three
  stop_from here (inl there) = inr (stop_on here there)
  stop_from here (inr there) = absurd (not_both two.stopped one.fuse_fate here.stopped there.running)

  goes : GoesOn a one two ⊎ StopsBehind a one two → GoesOn b two three ⊎ StopsBehind b two three → GoesOn (a ++ b) one three ⊎ StopsBehind (a ++ b) one three
  goes (inl here) there = on_from here there
  goes (inr here) there = stop_from here there

-- calls after calls lead on
pub leads_on : (one two three : DiskState) → LeadsTo one two → LeadsTo two three → LeadsTo one three
leads_on one two three here there = record {
  first = there.first ∙ here.first;
  failing = there.failing ∙ here.failing;
  fate = there.fate ∙ here.fate;
  ops = here.ops ++ there.ops;
  done = there.done ∙ ap (λ (l : List Op). l ++ there.ops) here.done ∙ append_assoc one.past.done here.ops there.ops;
  calls = omega (arith, here.calls, there.calls);
  faults = omega (arith, here.faults, there.faults);
  way = goes here.ops there.ops one two three here.failing here.fate here.faults there.faults here.way there.way;
  sound = λ sound. there.sound (here.sound sound);
}
