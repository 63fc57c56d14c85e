use Rattle.std.proofs.Common.{length}
use Rattle.std.proofs.lemmas.Result.{err_from_is_err_and}
use Rattle.gate_journal.proofs.Moments.{after_sync, first_refused}
use Rattle.gate_journal.proofs.device.write_and_sync.Goals as goal

pub returns-in_err-write_at-clause-calls : goal.returns-in_err-write_at-clause-calls
returns-in_err-write_at-clause-calls g c = λ tells.
    first_refused g.D.Disk.done g.D.Disk.failed c.args.disk.now c.write_at.new.self _ _ c.in_err-write_at.field-0.0 c.write_at.result c.from_residual.result c.in_err-write_at.was
    (err_from_is_err_and c.from_residual.result c.from_residual.ensures.1) (c.write_at.ensures.notes tells)

pub returns-in_err-sync-clause-any_moment : goal.returns-in_err-sync-clause-any_moment
returns-in_err-sync-clause-any_moment g c = λ tells.
    after_sync g.D.Disk.moment g.D.Disk.left_since g.D.Disk.images (λ d f. g.met.D.Disk.only_now d f tells) c.args.place (length c.args.bytes.now) c.args.disk.now c.write_at.new.self c.sync.new.self
    (c.write_at.ensures.time tells) (c.write_at.ensures.crash tells) (c.sync.ensures.time tells) (c.sync.ensures.crash tells)

pub returns-clause-any_moment : goal.returns-clause-any_moment
returns-clause-any_moment g c = λ tells.
    after_sync g.D.Disk.moment g.D.Disk.left_since g.D.Disk.images (λ d f. g.met.D.Disk.only_now d f tells) c.args.place (length c.args.bytes.now) c.args.disk.now c.write_at.new.self c.sync.new.self
    (c.write_at.ensures.time tells) (c.write_at.ensures.crash tells) (c.sync.ensures.time tells) (c.sync.ensures.crash tells)
