use Rattle.std.proofs.Common.{rules, ◌==◌, not}
use Rattle.stream_fold.specs.declared.entry.Numbered.{Numbered}
use Rattle.stream_fold.specs.Histories.{is_purged, is_expired}
use Rattle.stream_fold.proofs.Newest.{subjects-push, subjects-all, subjects-filter}
use Rattle.stream_fold.proofs.parts.change.Goals as goal

pub returns-in-Put-clause-held : goal.returns-in-Put-clause-held
returns-in-Put-clause-held c =
    let p = c.args.parts.now in
    let row : Numbered = record { seq = c.in-Put.seq; message = c.in-Put.message } in
    let all = subjects-push p.config.max_per_subject row p.rows.rows c.requires.settled.newest in
    rw (c.in-Put.is, all) c.put.ensures.held

pub returns-in-Del-clause-held : goal.returns-in-Del-clause-held
returns-in-Del-clause-held c =
    let p = c.args.parts.now in
    let all = subjects-filter p.config.max_per_subject (λ (row : Numbered). not (row.seq == c.in-Del.seq)) p.rows.rows c.requires.settled.newest in
    rw (c.in-Del.is, all) (search rules)

pub returns-in-Purge-clause-held : goal.returns-in-Purge-clause-held
returns-in-Purge-clause-held c =
    let p = c.args.parts.now in
    let all = subjects-filter p.config.max_per_subject (λ row. not (is_purged c.in-Purge.pattern c.in-Purge.below row)) p.rows.rows c.requires.settled.newest in
    rw (c.in-Purge.is, all) (search rules)

pub returns-in-Expire-clause-held : goal.returns-in-Expire-clause-held
returns-in-Expire-clause-held c =
    let p = c.args.parts.now in
    let all = subjects-filter p.config.max_per_subject (λ row. not (is_expired p.config.max_age c.in-Expire.now row)) p.rows.rows c.requires.settled.newest in
    rw (c.in-Expire.is, all) (search rules)

pub returns-in-Bind-clause-held : goal.returns-in-Bind-clause-held
returns-in-Bind-clause-held c =
    let p = c.args.parts.now in
    let all = subjects-all p.config.max_per_subject p.rows.rows c.requires.settled.newest in
    rw (c.in-Bind.is, all) (search rules)
