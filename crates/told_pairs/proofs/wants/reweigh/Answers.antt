use Rattle.std.proofs.Common.{sym}
use Rattle.told_pairs.specs.Wants.{reweighed}
use Rattle.told_pairs.proofs.Weights.{other_same, written, write_becomes, weight_there, share_of_weight}
use Rattle.told_pairs.proofs.wants.reweigh.Goals as goal

pub returns-in-Some-clause-becomes : goal.returns-in-Some-clause-becomes
returns-in-Some-clause-becomes c = λ h.
    let new = c.reweigh_want.new.want in
    write_becomes c.args.pair.now c.args.link (reweighed c.args.before c.args.weight) c.in-Some.want.now new c.args.wants.now (c.get_mut.follows.lender new) (sym c.in-Some.ensures.value) (c.get_mut.follows.holds new)
    (c.reweigh_want.ensures (share_of_weight c.args.pair.now c.args.link c.in-Some.want.now c.args.wants.now.entries (sym c.in-Some.ensures.value) h))

pub returns-in_default-clause-becomes : goal.returns-in_default-clause-becomes
returns-in_default-clause-becomes c = λ h. absurd (weight_there c.args.pair.now c.args.link c.args.wants.now.entries (sym c.in_default.ensures.value) h)

pub returns-in-Some-clause-others : goal.returns-in-Some-clause-others
returns-in-Some-clause-others c = λ l p other.
    let new = c.reweigh_want.new.want in
    other_same c.args.pair.now new c.args.wants.now.entries (c.get_mut.follows.lender new).entries (written c.args.pair.now c.in-Some.want.now new c.args.wants.now (c.get_mut.follows.lender new) (sym c.in-Some.ensures.value) (c.get_mut.follows.holds new)) l p other
