use Rattle.std.proofs.Common.{◌≡◌, ◌≤◌, ◌∙◌, true, false, [], ◌∷◌, ◌++◌, ap, subst}
use Rattle.std.specs.Prelude.{Option, Some, Result, Ok, Err, OnOk, OnErr, None}
use Rattle.gate_journal.specs.Journals.{JournalState, Stands, with_body}
use Rattle.gate_journal.specs.declared.fault.AppendFault.{AppendFault}
use Rattle.gate_journal.specs.declared.fault.AppendFault.TheVariants.{NoMemory}
use Rattle.record_codec.specs.Reading.{reading}
use Rattle.shard_machine.specs.Legal.{MayFollow}
use Rattle.record_log.specs.LogStates.{LogState, in_use}
use Rattle.record_log.specs.Standing.{EachStandsFor, SinceStandFor, SinceStandOrTorn, IsTornFormat, IsUntorn}
use Rattle.record_log.specs.Serving.{Serves}
use Rattle.record_log.proofs.Growing.{log_of-push}
use Rattle.record_log.proofs.Running.{moments, moments_but, stand_now, stands_after, log_of_journal, stay_formatted}
use Rattle.record_log.proofs.logs.RecordLog.append.Goals as goal

pub returns-in-Ok-clause-any_moment : goal.returns-in-Ok-clause-any_moment
returns-in-Ok-clause-any_moment g c = λ t u log it logs tells.
    let disk = g.D.Disk in
    let i = c.self.inside in
    let a = c.append_in_use-appended in
    let j = c.unwrap-journal.result in
    let is : i.journal ≡ Some j = cc in
    let served = subst (λ (o : Option JournalState). Serves disk.tells disk.images i.main i.spare i.on_spare o) is c.self.invariant tells in
    subst (λ (l : LogState g.row.D.Denot). t ≤ disk.moment l.main → u ≤ disk.moment l.spare → EachStandsFor disk.images l.main l.spare (log ∷ []) → reading c.args.body.now ≡ Ok it → MayFollow log it → SinceStandFor disk.left_since t u l.main l.spare logs
    → SinceStandFor disk.left_since t u a.new.main a.new.spare ((log ++ it ∷ []) ∷ logs)) c.self.view_is
    (λ le le' stand spells may since. moments disk.moment disk.left_since disk.seen disk.images (λ d. g.met.D.Disk.seen_is_image d tells) (λ d s x. g.met.D.Disk.counts_now d s x tells) (λ d x. g.met.D.Disk.only_now d x tells) j.generation served.bodies c.args.body.now log it spells may i.on_spare i.main i.spare a.new.main a.new.spare served.stands.each served.other (a.ensures.any_moment served.bodies tells served.stands) a.ensures.one stand t u logs le le' since)

pub returns-in-Ok-clause-now : goal.returns-in-Ok-clause-now
returns-in-Ok-clause-now g c = λ log it tells.
    let disk = g.D.Disk in
    let i = c.self.inside in
    let a = c.append_in_use-appended in
    let j = c.unwrap-journal.result in
    let is : i.journal ≡ Some j = cc in
    let served = subst (λ (o : Option JournalState). Serves disk.tells disk.images i.main i.spare i.on_spare o) is c.self.invariant tells in
    subst (λ (l : LogState g.row.D.Denot). EachStandsFor disk.images l.main l.spare (log ∷ []) → reading c.args.body.now ≡ Ok it → MayFollow log it → EachStandsFor disk.images a.new.main a.new.spare ((log ++ it ∷ []) ∷ log ∷ [])) c.self.view_is
    (λ stand spells may. stand_now disk.moment disk.left_since disk.seen disk.images (λ d. g.met.D.Disk.seen_is_image d tells) (λ d s x. g.met.D.Disk.counts_now d s x tells) (λ d x. g.met.D.Disk.only_now d x tells) j.generation served.bodies c.args.body.now log it spells may i.on_spare i.main i.spare a.new.main a.new.spare served.stands.each served.other (a.ensures.any_moment served.bodies tells served.stands) a.ensures.one stand)

pub returns-in-Err-NoMemory-clause-any_moment : goal.returns-in-Err-NoMemory-clause-any_moment
returns-in-Err-NoMemory-clause-any_moment g c = λ t u log it logs tells.
    let disk = g.D.Disk in
    let i = c.self.inside in
    let a = c.append_in_use-appended in
    let j = c.unwrap-journal.result in
    let is : i.journal ≡ Some j = cc in
    let served = subst (λ (o : Option JournalState). Serves disk.tells disk.images i.main i.spare i.on_spare o) is c.self.invariant tells in
    subst (λ (l : LogState g.row.D.Denot). t ≤ disk.moment l.main → u ≤ disk.moment l.spare → EachStandsFor disk.images l.main l.spare (log ∷ []) → reading c.args.body.now ≡ Ok it → MayFollow log it → SinceStandFor disk.left_since t u l.main l.spare logs
    → SinceStandFor disk.left_since t u a.new.main a.new.spare ((log ++ it ∷ []) ∷ logs)) c.self.view_is
    (λ le le' stand spells may since. moments disk.moment disk.left_since disk.seen disk.images (λ d. g.met.D.Disk.seen_is_image d tells) (λ d s x. g.met.D.Disk.counts_now d s x tells) (λ d x. g.met.D.Disk.only_now d x tells) j.generation served.bodies c.args.body.now log it spells may i.on_spare i.main i.spare a.new.main a.new.spare served.stands.each served.other (a.ensures.any_moment served.bodies tells served.stands) a.ensures.one stand t u logs le le' since)

pub returns-in-Err-NoMemory-clause-now : goal.returns-in-Err-NoMemory-clause-now
returns-in-Err-NoMemory-clause-now g c = λ log it tells.
    let disk = g.D.Disk in
    let i = c.self.inside in
    let a = c.append_in_use-appended in
    let j = c.unwrap-journal.result in
    let is : i.journal ≡ Some j = cc in
    let served = subst (λ (o : Option JournalState). Serves disk.tells disk.images i.main i.spare i.on_spare o) is c.self.invariant tells in
    subst (λ (l : LogState g.row.D.Denot). EachStandsFor disk.images l.main l.spare (log ∷ []) → reading c.args.body.now ≡ Ok it → MayFollow log it → EachStandsFor disk.images a.new.main a.new.spare ((log ++ it ∷ []) ∷ log ∷ [])) c.self.view_is
    (λ stand spells may. stand_now disk.moment disk.left_since disk.seen disk.images (λ d. g.met.D.Disk.seen_is_image d tells) (λ d s x. g.met.D.Disk.counts_now d s x tells) (λ d x. g.met.D.Disk.only_now d x tells) j.generation served.bodies c.args.body.now log it spells may i.on_spare i.main i.spare a.new.main a.new.spare served.stands.each served.other (a.ensures.any_moment served.bodies tells served.stands) a.ensures.one stand)

pub returns-in-Err-DiskFault-clause-any_moment : goal.returns-in-Err-DiskFault-clause-any_moment
returns-in-Err-DiskFault-clause-any_moment g c = λ t u log it logs tells.
    let disk = g.D.Disk in
    let i = c.self.inside in
    let a = c.append_in_use-appended in
    let j = c.unwrap-journal.result in
    let is : i.journal ≡ Some j = cc in
    let served = subst (λ (o : Option JournalState). Serves disk.tells disk.images i.main i.spare i.on_spare o) is c.self.invariant tells in
    subst (λ (l : LogState g.row.D.Denot). t ≤ disk.moment l.main → u ≤ disk.moment l.spare → EachStandsFor disk.images l.main l.spare (log ∷ []) → reading c.args.body.now ≡ Ok it → MayFollow log it → SinceStandFor disk.left_since t u l.main l.spare logs
    → SinceStandFor disk.left_since t u a.new.main a.new.spare ((log ++ it ∷ []) ∷ logs)) c.self.view_is
    (λ le le' stand spells may since. moments disk.moment disk.left_since disk.seen disk.images (λ d. g.met.D.Disk.seen_is_image d tells) (λ d s x. g.met.D.Disk.counts_now d s x tells) (λ d x. g.met.D.Disk.only_now d x tells) j.generation served.bodies c.args.body.now log it spells may i.on_spare i.main i.spare a.new.main a.new.spare served.stands.each served.other (a.ensures.any_moment served.bodies tells served.stands) a.ensures.one stand t u logs le le' since)

pub returns-in-Err-DiskFault-clause-now : goal.returns-in-Err-DiskFault-clause-now
returns-in-Err-DiskFault-clause-now g c = λ log it tells.
    let disk = g.D.Disk in
    let i = c.self.inside in
    let a = c.append_in_use-appended in
    let j = c.unwrap-journal.result in
    let is : i.journal ≡ Some j = cc in
    let served = subst (λ (o : Option JournalState). Serves disk.tells disk.images i.main i.spare i.on_spare o) is c.self.invariant tells in
    subst (λ (l : LogState g.row.D.Denot). EachStandsFor disk.images l.main l.spare (log ∷ []) → reading c.args.body.now ≡ Ok it → MayFollow log it → EachStandsFor disk.images a.new.main a.new.spare ((log ++ it ∷ []) ∷ log ∷ [])) c.self.view_is
    (λ stand spells may. stand_now disk.moment disk.left_since disk.seen disk.images (λ d. g.met.D.Disk.seen_is_image d tells) (λ d s x. g.met.D.Disk.counts_now d s x tells) (λ d x. g.met.D.Disk.only_now d x tells) j.generation served.bodies c.args.body.now log it spells may i.on_spare i.main i.spare a.new.main a.new.spare served.stands.each served.other (a.ensures.any_moment served.bodies tells served.stands) a.ensures.one stand)

pub returns-in-Ok-clause-ok : goal.returns-in-Ok-clause-ok
returns-in-Ok-clause-ok g c = λ log it tells.
    let disk = g.D.Disk in
    let i = c.self.inside in
    let a = c.append_in_use-appended in
    let j = c.unwrap-journal.result in
    let is : i.journal ≡ Some j = cc in
    let served = subst (λ (o : Option JournalState). Serves disk.tells disk.images i.main i.spare i.on_spare o) is c.self.invariant tells in
    let longer = served.bodies ++ c.args.body.now ∷ [] in
    let grew = subst (λ (r : Result Unit AppendFault). OnOk r (a.new.journal ≡ with_body j c.args.body.now)) c.in-Ok.is a.ensures.grows in
    let stood = subst (λ (r : Result Unit AppendFault). OnOk r (Stands disk.images (in_use i.on_spare a.new.main a.new.spare) a.new.journal longer)) c.in-Ok.is (a.ensures.ok served.bodies tells served.stands) in
    let stands = subst (λ (k : JournalState). Stands disk.images (in_use i.on_spare a.new.main a.new.spare) k longer) grew stood in
    subst (λ (l : LogState g.row.D.Denot). EachStandsFor disk.images l.main l.spare (log ∷ []) → reading c.args.body.now ≡ Ok it → MayFollow log it → EachStandsFor disk.images a.new.main a.new.spare ((log ++ it ∷ []) ∷ [])) c.self.view_is
    (λ stand spells may. stands_after disk.moment disk.left_since disk.seen disk.images (λ d. g.met.D.Disk.seen_is_image d tells) (λ d s x. g.met.D.Disk.counts_now d s x tells) (λ d x. g.met.D.Disk.only_now d x tells) j.generation served.bodies i.on_spare i.main i.spare a.new.main a.new.spare served.stands.each served.other a.ensures.one longer (log ++ it ∷ [])
    (log_of-push log served.bodies it c.args.body.now (log_of_journal disk.moment disk.left_since disk.seen disk.images (λ d. g.met.D.Disk.seen_is_image d tells) (λ d s x. g.met.D.Disk.counts_now d s x tells) (λ d x. g.met.D.Disk.only_now d x tells) j.generation served.bodies i.on_spare i.main i.spare served.stands.each served.other log stand) spells may)
    (λ x now. (stands.each x now, stands.short x now)) log stand)

pub returns-in-Err-NoMemory-clause-memory : goal.returns-in-Err-NoMemory-clause-memory
returns-in-Err-NoMemory-clause-memory g c = λ log tells stood _.
    let disk = g.D.Disk in
    let i = c.self.inside in
    let a = c.append_in_use-appended in
    let j = c.unwrap-journal.result in
    let is : i.journal ≡ Some j = cc in
    let served = subst (λ (o : Option JournalState). Serves disk.tells disk.images i.main i.spare i.on_spare o) is c.self.invariant tells in
    let kind : c.in-Err-NoMemory.field-0 ≡ NoMemory = rw c.in-Err-NoMemory.is at c.in-Err-NoMemory.field-0-is in
    let none : a.result ≡ Err NoMemory = c.in-Err-NoMemory.is ∙ ap (λ (e : AppendFault). Err e) kind in
    let same = subst (λ (r : Result Unit AppendFault). OnErr r (a.new.journal ≡ j)) none a.ensures.journal in
    let stands = subst (λ (k : JournalState). Stands disk.images (in_use i.on_spare a.new.main a.new.spare) k served.bodies) same (a.ensures.memory served.bodies tells served.stands none) in
    subst (λ (l : LogState g.row.D.Denot). EachStandsFor disk.images l.main l.spare (log ∷ []) → EachStandsFor disk.images a.new.main a.new.spare (log ∷ [])) c.self.view_is
    (λ stand. stands_after disk.moment disk.left_since disk.seen disk.images (λ d. g.met.D.Disk.seen_is_image d tells) (λ d s x. g.met.D.Disk.counts_now d s x tells) (λ d x. g.met.D.Disk.only_now d x tells) j.generation served.bodies i.on_spare i.main i.spare a.new.main a.new.spare served.stands.each served.other a.ensures.one served.bodies log
    (log_of_journal disk.moment disk.left_since disk.seen disk.images (λ d. g.met.D.Disk.seen_is_image d tells) (λ d s x. g.met.D.Disk.counts_now d s x tells) (λ d x. g.met.D.Disk.only_now d x tells) j.generation served.bodies i.on_spare i.main i.spare served.stands.each served.other log stand)
    (λ x now. (stands.each x now, stands.short x now)) log stand) stood

pub invariant_of-self-in-DiskFault-1 : goal.invariant_of-self-in-DiskFault-1
invariant_of-self-in-DiskFault-1 g c =
    let disk = g.D.Disk in
    let i = c.self.inside in
    let a = c.append_in_use-appended in
    let j = c.unwrap-journal.result in
    let is : i.journal ≡ Some j = cc in
    let gone : None ≡ c.take.new.self = cc in
    subst (λ (o : Option JournalState). Serves disk.tells disk.images a.new.main a.new.spare i.on_spare o) gone
    (λ tells.
    let served = subst (λ (o : Option JournalState). Serves disk.tells disk.images i.main i.spare i.on_spare o) is c.self.invariant tells in
    stay_formatted disk.moment disk.left_since disk.seen disk.images (λ d. g.met.D.Disk.seen_is_image d tells) (λ d s x. g.met.D.Disk.counts_now d s x tells) (λ d x. g.met.D.Disk.only_now d x tells) j.generation served.bodies i.on_spare i.main i.spare a.new.main a.new.spare c.args.body.now served.other (a.ensures.any_moment served.bodies tells served.stands) a.ensures.one)

pub returns-in-Ok-clause-since_opened : goal.returns-in-Ok-clause-since_opened
returns-in-Ok-clause-since_opened g c = λ t u main spare log it logs tells.
    let disk = g.D.Disk in
    let i = c.self.inside in
    let a = c.append_in_use-appended in
    let j = c.unwrap-journal.result in
    let is : i.journal ≡ Some j = cc in
    let served = subst (λ (o : Option JournalState). Serves disk.tells disk.images i.main i.spare i.on_spare o) is c.self.invariant tells in
    subst (λ (l : LogState g.row.D.Denot). t ≤ disk.moment l.main → u ≤ disk.moment l.spare → EachStandsFor disk.images l.main l.spare (log ∷ []) → reading c.args.body.now ≡ Ok it → MayFollow log it → IsUntorn disk.seen disk.images true main l.main → IsUntorn disk.seen disk.images false spare l.spare
    → SinceStandOrTorn disk.seen disk.images disk.left_since t u main spare logs l.main l.spare → SinceStandOrTorn disk.seen disk.images disk.left_since t u main spare ((log ++ it ∷ []) ∷ logs) a.new.main a.new.spare) c.self.view_is
    (λ le le' stand spells may untorn untorn' since. moments_but disk.moment disk.left_since disk.seen disk.images (λ d. g.met.D.Disk.seen_is_image d tells) (λ d s x. g.met.D.Disk.counts_now d s x tells) (λ d x. g.met.D.Disk.only_now d x tells) j.generation served.bodies c.args.body.now log it spells may (IsTornFormat disk.seen disk.images true main) (IsTornFormat disk.seen disk.images false spare) i.on_spare i.main i.spare a.new.main a.new.spare served.stands.each served.other (a.ensures.any_moment served.bodies tells served.stands) a.ensures.one stand untorn untorn' t u logs le le' since)

pub returns-in-Err-NoMemory-clause-since_opened : goal.returns-in-Err-NoMemory-clause-since_opened
returns-in-Err-NoMemory-clause-since_opened g c = λ t u main spare log it logs tells.
    let disk = g.D.Disk in
    let i = c.self.inside in
    let a = c.append_in_use-appended in
    let j = c.unwrap-journal.result in
    let is : i.journal ≡ Some j = cc in
    let served = subst (λ (o : Option JournalState). Serves disk.tells disk.images i.main i.spare i.on_spare o) is c.self.invariant tells in
    subst (λ (l : LogState g.row.D.Denot). t ≤ disk.moment l.main → u ≤ disk.moment l.spare → EachStandsFor disk.images l.main l.spare (log ∷ []) → reading c.args.body.now ≡ Ok it → MayFollow log it → IsUntorn disk.seen disk.images true main l.main → IsUntorn disk.seen disk.images false spare l.spare
    → SinceStandOrTorn disk.seen disk.images disk.left_since t u main spare logs l.main l.spare → SinceStandOrTorn disk.seen disk.images disk.left_since t u main spare ((log ++ it ∷ []) ∷ logs) a.new.main a.new.spare) c.self.view_is
    (λ le le' stand spells may untorn untorn' since. moments_but disk.moment disk.left_since disk.seen disk.images (λ d. g.met.D.Disk.seen_is_image d tells) (λ d s x. g.met.D.Disk.counts_now d s x tells) (λ d x. g.met.D.Disk.only_now d x tells) j.generation served.bodies c.args.body.now log it spells may (IsTornFormat disk.seen disk.images true main) (IsTornFormat disk.seen disk.images false spare) i.on_spare i.main i.spare a.new.main a.new.spare served.stands.each served.other (a.ensures.any_moment served.bodies tells served.stands) a.ensures.one stand untorn untorn' t u logs le le' since)

pub returns-in-Err-DiskFault-clause-since_opened : goal.returns-in-Err-DiskFault-clause-since_opened
returns-in-Err-DiskFault-clause-since_opened g c = λ t u main spare log it logs tells.
    let disk = g.D.Disk in
    let i = c.self.inside in
    let a = c.append_in_use-appended in
    let j = c.unwrap-journal.result in
    let is : i.journal ≡ Some j = cc in
    let served = subst (λ (o : Option JournalState). Serves disk.tells disk.images i.main i.spare i.on_spare o) is c.self.invariant tells in
    subst (λ (l : LogState g.row.D.Denot). t ≤ disk.moment l.main → u ≤ disk.moment l.spare → EachStandsFor disk.images l.main l.spare (log ∷ []) → reading c.args.body.now ≡ Ok it → MayFollow log it → IsUntorn disk.seen disk.images true main l.main → IsUntorn disk.seen disk.images false spare l.spare
    → SinceStandOrTorn disk.seen disk.images disk.left_since t u main spare logs l.main l.spare → SinceStandOrTorn disk.seen disk.images disk.left_since t u main spare ((log ++ it ∷ []) ∷ logs) a.new.main a.new.spare) c.self.view_is
    (λ le le' stand spells may untorn untorn' since. moments_but disk.moment disk.left_since disk.seen disk.images (λ d. g.met.D.Disk.seen_is_image d tells) (λ d s x. g.met.D.Disk.counts_now d s x tells) (λ d x. g.met.D.Disk.only_now d x tells) j.generation served.bodies c.args.body.now log it spells may (IsTornFormat disk.seen disk.images true main) (IsTornFormat disk.seen disk.images false spare) i.on_spare i.main i.spare a.new.main a.new.spare served.stands.each served.other (a.ensures.any_moment served.bodies tells served.stands) a.ensures.one stand untorn untorn' t u logs le le' since)
