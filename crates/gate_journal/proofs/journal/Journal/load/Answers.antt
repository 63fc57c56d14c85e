use Rattle.std.proofs.Common.{subst}
use Rattle.std.specs.Prelude.{Option, Ok}
use Rattle.gate_journal.specs.Areas.{AreaState}
use Rattle.gate_journal.specs.Journals.{ReadsArea}
use Rattle.gate_journal.proofs.Endings.{load_of}
use Rattle.gate_journal.proofs.journal.Journal.load.Goals as goal

pub returns-in-Some-clause-answer : goal.returns-in-Some-clause-answer
returns-in-Some-clause-answer g c = λ tells.
    let s = g.D.Disk.seen c.args.disk.now in
    load_of s c.in-Some.area c.of_area.result (subst (λ (o : Option AreaState). ReadsArea s (Ok o)) c.in-Some.is (c.in_ok-area.ensures.answer tells)) c.of_area.ensures.answer
