use Rattle.std.proofs.Common.{ℕ, Option, sym, ◌∙◌, subst, subst₂}
use Rattle.told_pairs.specs.declared.pair.Pair.{Pair}
use Rattle.told_pairs.specs.Tellings.{Pairs}
use Rattle.told_pairs.specs.Wants.{Becomes, IsOf, raised}
use Rattle.told_pairs.proofs.Covering.{noted_covered}
use Rattle.told_pairs.proofs.Standing.{becomes_tell, of_raised}
use Rattle.told_pairs.proofs.pairs.ToldPairs.add.Goals as goal

pub invariant_of-self-2 : goal.invariant_of-self-2
invariant_of-self-2 c =
    let old = c.self.inside.wants.entries in
    let new = c.raise.new.wants.entries in
    noted_covered old new c.in_ok-pair.pair (becomes_tell c.in_ok-pair.pair c.holding.result (raised c.args.sub.now.weight) old new c.in_ok-raise.ensures.ok)
    c.self.inside.links.entries c.self.inside.changes.pairs.items c.note.new.changes.pairs.items c.self.inside.changes.base c.note.new.changes.base c.note.ensures c.self.invariant

pub returns-clause-ok : goal.returns-clause-ok
returns-clause-ok c = λ subs h short.
    of_raised c.args.sub.now subs c.self.inside.wants.entries c.raise.new.wants.entries (sym c.crosses.ensures ∙ c.if-not-crosses.false) c.requires short
    (subst₂ (λ (k : Pair) (held : Option ℕ). Becomes k held (raised c.args.sub.now.weight) c.self.inside.wants.entries c.raise.new.wants.entries) c.in_ok-pair.ensures c.holding.ensures c.in_ok-raise.ensures.ok)
    (subst (λ (v : Pairs). IsOf subs v.wants) (sym c.self.view_is) h)
