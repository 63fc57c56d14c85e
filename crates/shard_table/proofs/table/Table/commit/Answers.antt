use Rattle.std.proofs.Common.{◌≡◌, ℕ, List, [], ◌∷◌, ◌++◌, true, false, Option, Some, None, refl, sym, ap, ◌∙◌, subst}
use Rattle.std.specs.Option.{option_copied}
use Rattle.shard_table.specs.declared.answered.Prepared.TheVariants.{Writes, Stores, Binds, Makes, Takes}
use Rattle.shard_table.proofs.CommitSteps.{may-commit}
use Rattle.shard_table.proofs.table.Table.commit.Goals as goal

pub commit_write-requires : goal.commit_write-requires
commit_write-requires c =
    let v = c.requires.0 in
    let e = c.requires.1 in
    (v, e, c.args.call.now, may-commit c.args.self.now c.args.prepared (Writes c.in-Writes.entry c.in-Writes.outcome) v c.args.call.now e c.in-Writes.is c.requires.2 c.requires.3 c.requires.4)

pub returns-in-Writes : goal.returns-in-Writes
returns-in-Writes c = λ v e ready follows h.
    let done = c.commit_write.ensures v e c.args.call.now (may-commit c.args.self.now c.args.prepared (Writes c.in-Writes.entry c.in-Writes.outcome) v c.args.call.now e c.in-Writes.is ready follows h) in
    (done.replies, done.becomes)

pub commit_store-requires : goal.commit_store-requires
commit_store-requires c =
    let v = c.requires.0 in
    let e = c.requires.1 in
    (v, e, may-commit c.args.self.now c.args.prepared (Stores c.in-Stores.entry c.in-Stores.decision) v c.args.call.now e c.in-Stores.is c.requires.2 c.requires.3 c.requires.4)

pub returns-in-Stores : goal.returns-in-Stores
returns-in-Stores c = λ v e ready follows h.
    let done = c.commit_store.ensures v e (may-commit c.args.self.now c.args.prepared (Stores c.in-Stores.entry c.in-Stores.decision) v c.args.call.now e c.in-Stores.is ready follows h) in
    (done.replies, done.becomes)

pub commit_bind-requires : goal.commit_bind-requires
commit_bind-requires c =
    let v = c.requires.0 in
    let e = c.requires.1 in
    (v, e, may-commit c.args.self.now c.args.prepared (Binds c.in-Binds.entry c.in-Binds.decision c.in-Binds.notices) v c.args.call.now e c.in-Binds.is c.requires.2 c.requires.3 c.requires.4)

pub returns-in-Binds : goal.returns-in-Binds
returns-in-Binds c = λ v e ready follows h.
    let done = c.commit_bind.ensures v e (may-commit c.args.self.now c.args.prepared (Binds c.in-Binds.entry c.in-Binds.decision c.in-Binds.notices) v c.args.call.now e c.in-Binds.is ready follows h) in
    (done.replies, done.becomes)

pub commit_make-requires : goal.commit_make-requires
commit_make-requires c =
    let v = c.requires.0 in
    let e = c.requires.1 in
    (v, e, c.args.call.now, may-commit c.args.self.now c.args.prepared (Makes c.in-Makes.stream c.in-Makes.asking) v c.args.call.now e c.in-Makes.is c.requires.2 c.requires.3 c.requires.4)

pub returns-in-Makes : goal.returns-in-Makes
returns-in-Makes c = λ v e ready follows h.
    let done = c.commit_make.ensures v e c.args.call.now (may-commit c.args.self.now c.args.prepared (Makes c.in-Makes.stream c.in-Makes.asking) v c.args.call.now e c.in-Makes.is ready follows h) in
    (done.replies, done.becomes)

pub returns-in-Takes : goal.returns-in-Takes
returns-in-Takes c = λ v e ready follows h.
    let done = c.commit_take.ensures v e c.args.call.now (may-commit c.args.self.now c.args.prepared (Takes c.in-Takes.name c.in-Takes.removal) v c.args.call.now e c.in-Takes.is ready follows h) in
    (done.replies, done.becomes)
