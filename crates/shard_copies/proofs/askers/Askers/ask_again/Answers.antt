use Rattle.std.proofs.Common.{◌≡◌, ℕ, List, [], ◌∷◌, length, refl, sym, ap, ◌∙◌, subst, arith}
use Rattle.std.specs.Prelude.{OnOk}
use Rattle.stream_fold.specs.Facts.{facts}
use Rattle.shard_machine.specs.Views.{Copy}
use Rattle.shard_copies.specs.Asked.{Asks}
use Rattle.shard_copies.proofs.Deciding.{found-past, found-read, copy-is, no-copy}
use Rattle.shard_copies.proofs.askers.Askers.ask_again.Goals as goal

pub returns-then-index-all-clause-asks : goal.returns-then-index-all-clause-asks
returns-then-index-all-clause-asks c = λ v h copy shows stands is_so.
    absurd (no-copy c.args.name.now (facts h) c.origins-all.result.now c.args.index copy (c.origins-all.ensures h stands) (found-past c.origins-all.result.now c.args.index (omega arith)) is_so)

pub returns-clause-asks : goal.returns-clause-asks
returns-clause-asks c = λ v h copy shows stands is_so.
    let want = c.index-all-index.result in
    let same = copy-is c.args.name.now (facts h) c.origins-all.result.now c.args.index want copy (c.origins-all.ensures h stands) (found-read c.origins-all.result.now c.args.index want (omega arith) c.index-all-index.is) is_so in
    subst (λ (x : Copy). OnOk c.ask_one.result (Asks c.args.asking.now c.ask_one.new.asking v c.args.now (x ∷ []))) same (c.ask_one.ensures.asks v h shows stands)
