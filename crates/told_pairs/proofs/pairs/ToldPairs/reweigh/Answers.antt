use Rattle.std.proofs.Common.{ℕ, Option, ◌∷◌, sym, ◌∙◌, subst, subst₂}
use Rattle.told_pairs.specs.declared.pair.Pair.{Pair}
use Rattle.told_pairs.specs.Tellings.{Pairs}
use Rattle.told_pairs.specs.Wants.{Becomes, HasWeight, IsOf, reweighed}
use Rattle.told_pairs.proofs.Covering.{noted_covered}
use Rattle.told_pairs.proofs.Standing.{of_reweighed}
use Rattle.told_pairs.proofs.pairs.ToldPairs.reweigh.Goals as goal

pub returns-then-crosses-clause-wants : goal.returns-then-crosses-clause-wants
returns-then-crosses-clause-wants c = λ subs h short.
    let old = c.self.inside.wants.entries in
    let new = c.reweigh.new.wants.entries in
    of_reweighed c.args.sub c.args.weight subs old new (sym c.crosses.ensures ∙ c.if-crosses.true) c.requires short
    (subst₂ (λ (k : Pair) (held : Option ℕ). HasWeight k held old → Becomes k held (reweighed c.args.sub.weight c.args.weight) old new) c.into_pair-pair.ensures c.holding-link.ensures c.reweigh.ensures.becomes)
    (subst (λ (v : Pairs). IsOf (c.args.sub ∷ subs) v.wants) (sym c.self.view_is) h)

pub invariant_of-self : goal.invariant_of-self
invariant_of-self c =
    noted_covered c.self.inside.wants.entries c.reweigh.new.wants.entries c.into_pair-pair.result c.reweigh.ensures.others
    c.self.inside.links.entries c.self.inside.changes.pairs.items c.note.new.changes.pairs.items c.self.inside.changes.base c.note.new.changes.base c.note.ensures c.self.invariant
