use Rattle.std.proofs.Common.{ℕ, ◌+◌, List, ◌∷◌, drop, subst, ap, ◌∙◌, arith}
use Rattle.std.specs.Prelude.{Option, Ok}
use Rattle.gate_journal.specs.Walks.{ReadsRecord}
use Rattle.gate_journal.proofs.Reading.{gate_read}
use Rattle.gate_journal.proofs.walk.next_body.Goals as goal

pub returns-in-Some-clause-answer : goal.returns-in-Some-clause-answer
returns-in-Some-clause-answer g c = λ tells.
    let seen = g.D.Disk.seen in
    let rest = drop (c.args.place + 1) (seen c.fill.new.disk) in
    let gate = gate_read (seen c.args.disk.now) (seen c.fill.new.disk) c.fill.new.buf c.args.place (c.fill.ensures.looks tells).same.content (omega (arith, c.requires.len tells, c.requires.place, c.if-place-len.false)) (c.in_ok-fill.ensures.bytes tells) c.if-gate-ne-OPEN.false in
    let r = subst (λ (o : Option (List ℕ)). ReadsRecord rest (Ok o)) c.in-Some.is (c.in_ok-body.ensures.answer tells) in
    (r.0, gate ∙ ap (λ (l : List ℕ). 1 ∷ l) r.1, r.2)

pub returns-in-None-clause-answer : goal.returns-in-None-clause-answer
returns-in-None-clause-answer g c = λ tells.
    let seen = g.D.Disk.seen in
    let rest = drop (c.args.place + 1) (seen c.fill.new.disk) in
    let gate = gate_read (seen c.args.disk.now) (seen c.fill.new.disk) c.fill.new.buf c.args.place (c.fill.ensures.looks tells).same.content (omega (arith, c.requires.len tells, c.requires.place, c.if-place-len.false)) (c.in_ok-fill.ensures.bytes tells) c.if-gate-ne-OPEN.false in
    (rest, gate, subst (λ (o : Option (List ℕ)). ReadsRecord rest (Ok o)) c.in-None.is (c.in_ok-body.ensures.answer tells))
