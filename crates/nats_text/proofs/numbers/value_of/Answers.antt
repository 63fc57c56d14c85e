use Rattle.std.proofs.Common.{sym, ◌∙◌, drop, slice_index_or, ◌+◌}
use Rattle.nats_text.specs.Numbers.{number_after}
use Rattle.std.proofs.lemmas.List.{at_drop_more}
use Rattle.nats_text.proofs.Digits.{too_large}
use Rattle.nats_text.proofs.numbers.value_of.Goals as goal

pub returns-then-next-clause-value : goal.returns-then-next-clause-value
returns-then-next-clause-value c =
    let n = c.loop-digit.value in
    let k = c.loop-digit.digit-index in
    let bs = c.args.digits.now in
    let split = at_drop_more (number_after n) bs k 0 c.loop-digit-test.true in
    sym (too_large n (slice_index_or bs k 0) (drop (k + 1) bs) c.if-next.true) ∙ (sym split ∙ c.loop-digit.invariant.0)
