use Rattle.std.proofs.Common.{◌≤◌, subst}
use Rattle.record_log.specs.LogStates.{LogState}
use Rattle.record_log.specs.Standing.{EachStandsFor, SinceStandFor}
use Rattle.record_log.specs.Opening.{FailsBy, IsOfCalls}
use Rattle.record_log.proofs.Readable.{stood_of_calls}
use Rattle.record_log.proofs.Reopening.{reopened_moments, reopened_now, still_formatted, serves_formatted}
use Rattle.record_log.proofs.logs.RecordLog.reopen.Goals as goal

pub returns-in-Ok-clause-any_moment : goal.returns-in-Ok-clause-any_moment
returns-in-Ok-clause-any_moment g c = λ t u logs tells.
    let disk = g.D.Disk in
    let i = c.self.inside in
    let a = c.load_disks in
    subst (λ (l : LogState g.row.D.Denot). t ≤ disk.moment l.main → u ≤ disk.moment l.spare → SinceStandFor disk.left_since t u l.main l.spare logs → SinceStandFor disk.left_since t u a.new.main a.new.spare logs) c.self.view_is
    (λ le le' since. reopened_moments disk.moment disk.left_since disk.seen disk.images (λ d. g.met.D.Disk.seen_is_image d tells) i.main i.spare a.new.main a.new.spare (serves_formatted disk.tells disk.images i.on_spare i.main i.spare i.journal c.self.invariant tells) (a.ensures.main tells) (a.ensures.spare tells) t u logs le le' since)

pub returns-in-Ok-clause-now : goal.returns-in-Ok-clause-now
returns-in-Ok-clause-now g c = λ logs tells.
    let disk = g.D.Disk in
    let i = c.self.inside in
    let a = c.load_disks in
    subst (λ (l : LogState g.row.D.Denot). EachStandsFor disk.images l.main l.spare logs → EachStandsFor disk.images a.new.main a.new.spare logs) c.self.view_is (λ stand. reopened_now disk.moment disk.left_since disk.seen disk.images (λ d. g.met.D.Disk.seen_is_image d tells) (λ d s x. g.met.D.Disk.counts_now d s x tells) (λ d x. g.met.D.Disk.only_now d x tells) i.main i.spare a.new.main a.new.spare (serves_formatted disk.tells disk.images i.on_spare i.main i.spare i.journal c.self.invariant tells) (a.ensures.main tells) (a.ensures.spare tells) logs stand)

pub returns-in-Err-clause-any_moment : goal.returns-in-Err-clause-any_moment
returns-in-Err-clause-any_moment g c = λ t u logs tells.
    let disk = g.D.Disk in
    let i = c.self.inside in
    let a = c.load_disks in
    subst (λ (l : LogState g.row.D.Denot). t ≤ disk.moment l.main → u ≤ disk.moment l.spare → SinceStandFor disk.left_since t u l.main l.spare logs → SinceStandFor disk.left_since t u a.new.main a.new.spare logs) c.self.view_is
    (λ le le' since. reopened_moments disk.moment disk.left_since disk.seen disk.images (λ d. g.met.D.Disk.seen_is_image d tells) i.main i.spare a.new.main a.new.spare (serves_formatted disk.tells disk.images i.on_spare i.main i.spare i.journal c.self.invariant tells) (a.ensures.main tells) (a.ensures.spare tells) t u logs le le' since)

pub returns-in-Err-clause-now : goal.returns-in-Err-clause-now
returns-in-Err-clause-now g c = λ logs tells.
    let disk = g.D.Disk in
    let i = c.self.inside in
    let a = c.load_disks in
    subst (λ (l : LogState g.row.D.Denot). EachStandsFor disk.images l.main l.spare logs → EachStandsFor disk.images a.new.main a.new.spare logs) c.self.view_is (λ stand. reopened_now disk.moment disk.left_since disk.seen disk.images (λ d. g.met.D.Disk.seen_is_image d tells) (λ d s x. g.met.D.Disk.counts_now d s x tells) (λ d x. g.met.D.Disk.only_now d x tells) i.main i.spare a.new.main a.new.spare (serves_formatted disk.tells disk.images i.on_spare i.main i.spare i.journal c.self.invariant tells) (a.ensures.main tells) (a.ensures.spare tells) logs stand)

pub returns-in-Err-clause-fault : goal.returns-in-Err-clause-fault
returns-in-Err-clause-fault g c = λ tells.
    let disk = g.D.Disk in
    subst (λ (l : LogState g.row.D.Denot). FailsBy (disk.seen l.main) (disk.seen l.spare) c.in-Err.fault) c.self.view_is (c.in-Err.ensures.fault tells)

pub returns-in-Err-clause-stood : goal.returns-in-Err-clause-stood
returns-in-Err-clause-stood g c = λ logs tells.
    let disk = g.D.Disk in
    let i = c.self.inside in
    subst (λ (l : LogState g.row.D.Denot). EachStandsFor disk.images l.main l.spare logs → IsOfCalls c.in-Err.fault) c.self.view_is
    (λ each. stood_of_calls (disk.seen i.main) (disk.seen i.spare) logs c.in-Err.fault (each (disk.seen i.main) (disk.seen i.spare) (g.met.D.Disk.seen_is_image i.main tells) (g.met.D.Disk.seen_is_image i.spare tells)) (c.in-Err.ensures.fault tells))

pub invariant_of-self-in-Err : goal.invariant_of-self-in-Err
invariant_of-self-in-Err g c = λ tells.
    let disk = g.D.Disk in
    let i = c.self.inside in
    let a = c.load_disks in
    still_formatted disk.moment disk.left_since disk.seen disk.images (λ d. g.met.D.Disk.seen_is_image d tells) (λ d s x. g.met.D.Disk.counts_now d s x tells) (λ d x. g.met.D.Disk.only_now d x tells) i.main i.spare a.new.main a.new.spare (serves_formatted disk.tells disk.images i.on_spare i.main i.spare i.journal c.self.invariant tells) (a.ensures.main tells) (a.ensures.spare tells)
