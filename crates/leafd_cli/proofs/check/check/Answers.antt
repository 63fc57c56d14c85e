use Rattle.std.proofs.Common.{refl, sym, subst, inl}
use Rattle.leafd_cli.specs.Outcome.{CountsRead}
use Rattle.leafd_cli.proofs.Checks.{text_checked}
use Rattle.leafd_cli.proofs.Commands.{kept_taken}
use Rattle.leafd_cli.proofs.check.check.Goals as goal

pub returns-in-Ok-true-clause-report : goal.returns-in-Ok-true-clause-report
returns-in-Ok-true-clause-report g c =
    text_checked g.F.Files.tells (g.F.Files.text_of c.args.files.now c.args.name.now) _ _ _ _ _ _ c.text.result (cc) c.new-text.ensures.items c.deref.ensures.value c.text.ensures.text c.check_text.ensures.report

pub returns-in-Ok-true-clause-read : goal.returns-in-Ok-true-clause-read
returns-in-Ok-true-clause-read g c =
    subst (λ now. CountsRead (g.F.Files.faults c.args.files.now) now c.check_text.result) (sym c.in-Ok-true.ensures.cause) (c.check_text.ensures.read _)

pub returns-in-Err-Failed-clause-report : goal.returns-in-Err-Failed-clause-report
returns-in-Err-Failed-clause-report g c = record { text = g.F.Files.text_of c.args.files.now c.args.name.now; is_file = λ _. refl; written = kept_taken _ }

pub returns-clause-report : goal.returns-clause-report
returns-clause-report g c = record { text = g.F.Files.text_of c.args.files.now c.args.name.now; is_file = λ _. refl; written = inl (kept_taken _) }
