use Rattle.std.proofs.Common.{◌∷◌, [], ◌++◌, sym, ap, length}
use Rattle.lock_rows.proofs.Writing.{written_snoc}
use Rattle.lock_rows.proofs.book.write.Goals as goal

pub give-requires-clause-stands : goal.give-requires-clause-stands
give-requires-clause-stands g c =
    let seen = c.take-held.result.turn.seen in
    rw (c.write-step.ensures, c.value-2.ensures.value, c.value.ensures.value, c.take-held.ensures.value) (sym (written_snoc seen c.write-step.result))

pub returns-clause-own : goal.returns-clause-own
returns-clause-own g c =
    let seen = c.take-held.result.turn.seen in
    (length seen, c.write-step.result, rw c.give.ensures.own (ap (λ l. l ++ (length seen, c.write-step.result) ∷ []) c.take-held.ensures.own))
