use Rattle.std.proofs.Common.{ap, sym, subst, ◌∙◌, rules, arith}
use Rattle.std.specs.Prelude.{Err}
use Rattle.std.proofs.lemmas.Result.{err_from_is_err_and}
use Rattle.leafd_cli.specs.Folders.{contents}
use Rattle.leafd_cli.specs.Inspections.{Pushes, Reports}
use Rattle.leafd_cli.proofs.Handing.{keeps_on}
use Rattle.leafd_cli.proofs.Pushing.{fault_reported, shards_shown}
use Rattle.leafd_cli.proofs.inspect.report_of.Goals as goal

pub returns-in_err-push_shard-clause-report : goal.returns-in_err-push_shard-clause-report
returns-in_err-push_shard-clause-report g c =
    let F = g.F.Files in
    let seen = g.F.D.Disk.seen in
    let inv = c.loop-shard.invariant in
    let first = contents F.place seen c.args.files.now in
    let now = contents F.place seen c.loop-shard.files in
    let p = err_from_is_err_and c.from_residual.result c.from_residual.ensures.1 in
    subst (Reports F.tells first c.args.dir.now) (sym (p.1 ∙ ap Err p.2))
    (fault_reported F.tells first now c.args.dir.now c.loop-shard.report.items c.push_shard.new.report.items c.loop-shard.shard c.in_err-push_shard.field-0.0 (λ tells. (inv.kept tells).bytes) (omega (arith, c.loop-shard-test.true)) inv.shown
    (subst (Pushes F.tells now c.args.dir.now c.loop-shard.shard c.loop-shard.report.items c.push_shard.new.report.items) c.in_err-push_shard.was c.push_shard.ensures.text))

pub loop-shard-preserved : goal.loop-shard-preserved
loop-shard-preserved g c =
    let F = g.F.Files in
    let seen = g.F.D.Disk.seen in
    let inv = c.loop-shard.invariant in
    let pushed = c.in_ok-push_shard.ensures.text in
    record {
      within = search rules;
      shown = λ tells. shards_shown (contents F.place seen c.args.files.now) (contents F.place seen c.loop-shard.files) c.args.dir.now c.loop-shard.report.items pushed.0 c.push_shard.new.report.items c.loop-shard.shard _ (omega arith) (inv.kept tells).bytes (inv.shown tells) pushed.1 (pushed.2 tells);
      kept = λ tells. keeps_on F.place F.is_out seen c.args.files.now c.loop-shard.files c.push_shard.new.files (inv.kept tells) (c.push_shard.ensures.kept tells);
      leads = g.met.F.Files.leads_on c.args.files.now c.loop-shard.files c.push_shard.new.files inv.leads c.push_shard.ensures.leads;
      faults = search rules;
      disk_faults = search rules;
    }
