use Rattle.record_log.proofs.Readable.{stood_of_calls}
use Rattle.record_log.proofs.Reopening.{opened_moments}
use Rattle.record_log.proofs.logs.RecordLog.open.Goals as goal

pub returns-in-Ok-clause-any_moment : goal.returns-in-Ok-clause-any_moment
returns-in-Ok-clause-any_moment g c = λ t u logs tells le le' since.
    let disk = g.D.Disk in
    let a = c.load_disks in
    opened_moments disk.moment disk.left_since disk.seen disk.images (λ d. g.met.D.Disk.seen_is_image d tells) (λ d s x. g.met.D.Disk.counts_now d s x tells) c.args.main c.args.spare a.new.main a.new.spare (a.ensures.main tells) (a.ensures.spare tells) t u logs le le' since

pub returns-in-Err-clause-any_moment : goal.returns-in-Err-clause-any_moment
returns-in-Err-clause-any_moment g c = λ t u logs tells le le' since.
    let disk = g.D.Disk in
    let a = c.load_disks in
    opened_moments disk.moment disk.left_since disk.seen disk.images (λ d. g.met.D.Disk.seen_is_image d tells) (λ d s x. g.met.D.Disk.counts_now d s x tells) c.args.main c.args.spare a.new.main a.new.spare (a.ensures.main tells) (a.ensures.spare tells) t u logs le le' since

pub returns-in-Err-clause-stood : goal.returns-in-Err-clause-stood
returns-in-Err-clause-stood g c = λ logs tells each.
    let disk = g.D.Disk in
    let main = c.args.main in
    let spare = c.args.spare in
    stood_of_calls (disk.seen main) (disk.seen spare) logs c.in-Err.fault (each (disk.seen main) (disk.seen spare) (g.met.D.Disk.seen_is_image main tells) (g.met.D.Disk.seen_is_image spare tells)) (c.in-Err.ensures.fault tells)
