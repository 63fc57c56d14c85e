use Rattle.std.proofs.Common.{◌≡◌}
use Rattle.std.specs.Vec.Iter.{into_iter_items}
use Rattle.interest_list.specs.Changes.{first_refusal, after_all}
use Rattle.interest_list.proofs.kept.make.Given as goal

-- what the changes that are left lead to is what all of them lead to
abbrev pub invariant-loop-change : goal.invariant-loop-change
invariant-loop-change l = record {
  refused : first_refusal (into_iter_items l.change-iterator) l.subs.items ≡ first_refusal l.fn.changes l.initial.subs.items;
  changed : after_all (into_iter_items l.change-iterator) (record { subs = l.subs.items; told_to = l.told_to.items })
      ≡ after_all l.fn.changes (record { subs = l.initial.subs.items; told_to = l.initial.told_to.items });
}
