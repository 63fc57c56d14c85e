use Rattle.std.proofs.Common.{◌≡◌, ◌<◌, ◌^◌, drop, sym, ap, ◌∙◌, arith}
use Rattle.stream_fold.specs.Histories.{size_of}
use Rattle.stream_fold.proofs.rows.Rows.drop_excess.Goals as goal

pub invariant_of-self : goal.invariant_of-self
invariant_of-self c =
    let sum : c.excess_of-excess.new.total ≡ size_of c.drop_front.new.items.items = c.excess_of-excess.ensures.total ∙ ap size_of (ap (drop c.excess_of-excess.result) c.deref.ensures.value ∙ sym c.drop_front.ensures) in
    let few : c.excess_of-excess.new.total < 2 ^ 64 = c.excess_of-excess.ensures.bound in
    record { sum = sum; fits = omega (arith, sum, few) }
