use Rattle.std.proofs.Common.{ℕ, Option, ◌∷◌, sym, ◌∙◌, subst, subst₂}
use Rattle.told_pairs.specs.declared.pair.Pair.{Pair}
use Rattle.told_pairs.specs.Tellings.{Pairs}
use Rattle.told_pairs.specs.Wants.{Becomes, IsOf, lowered}
use Rattle.told_pairs.proofs.Covering.{noted_covered}
use Rattle.told_pairs.proofs.Standing.{becomes_tell, tidied_tell, of_lowered, of_tidied}
use Rattle.told_pairs.proofs.pairs.ToldPairs.remove.Goals as goal

pub invariant_of-self : goal.invariant_of-self
invariant_of-self c =
    let old = c.self.inside.wants.entries in
    let mid = c.lower.new.wants.entries in
    let new = c.tidy.new.wants.entries in
    let k = c.into_pair-pair.result in
    noted_covered old new k (λ l p other. tidied_tell mid new c.tidy.ensures l p ∙ becomes_tell k c.holding-link.result (lowered c.args.sub.weight) old mid c.lower.ensures l p other)
    c.self.inside.links.entries c.self.inside.changes.pairs.items c.note.new.changes.pairs.items c.self.inside.changes.base c.note.new.changes.base c.note.ensures c.self.invariant

pub returns-then-crosses-clause-wants : goal.returns-then-crosses-clause-wants
returns-then-crosses-clause-wants c = λ subs h.
    let old = c.self.inside.wants.entries in
    let mid = c.lower.new.wants.entries in
    of_tidied subs mid c.tidy.new.wants.entries c.tidy.ensures
    (of_lowered c.args.sub subs old mid (sym c.crosses.ensures ∙ c.if-crosses.true)
    (subst₂ (λ (k : Pair) (held : Option ℕ). Becomes k held (lowered c.args.sub.weight) old mid) c.into_pair-pair.ensures c.holding-link.ensures c.lower.ensures)
    (subst (λ (v : Pairs). IsOf (c.args.sub ∷ subs) v.wants) (sym c.self.view_is) h))
