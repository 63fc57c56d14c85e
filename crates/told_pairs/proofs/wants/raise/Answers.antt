use Rattle.std.proofs.Common.{sym}
use Rattle.told_pairs.specs.Wants.{raised}
use Rattle.told_pairs.proofs.Weights.{write_becomes, write_same, on_ok, on_err}
use Rattle.told_pairs.proofs.wants.raise.Goals as goal

pub returns-in-Some-clause-ok : goal.returns-in-Some-clause-ok
returns-in-Some-clause-ok c =
    let new = c.raise_want.new.want in
    on_ok c.raise_want.result (λ a. write_becomes c.args.pair.now c.args.link (raised c.args.weight) c.in-Some.want.now new c.args.wants.now (c.get_mut.follows.lender new) (sym c.in-Some.ensures.value) (c.get_mut.follows.holds new) a) c.raise_want.ensures.ok

pub returns-in-Some-clause-err : goal.returns-in-Some-clause-err
returns-in-Some-clause-err c =
    let new = c.raise_want.new.want in
    on_err c.raise_want.result (λ same. write_same c.args.pair.now c.in-Some.want.now new c.args.wants.now (c.get_mut.follows.lender new) (sym c.in-Some.ensures.value) (c.get_mut.follows.holds new) same) c.raise_want.ensures.err
