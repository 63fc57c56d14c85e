use Rattle.std.proofs.Common.{◌++◌, ◌∷◌, Ok, false, refl, sym, ap, subst, inl, arith}
use Rattle.record_log.specs.Standing.{SinceStandFor, SinceStandOrTorn}
use Rattle.shard_calls.specs.FirstLoads.{opened_log, opened_logs}
use Rattle.shard_calls.proofs.Devices.{opens-front}
use Rattle.shard_calls.proofs.FirstOpenings.{apart-more, not-torn, since-more, within-left, within-opened}
use Rattle.shard_calls.proofs.opening.load_log.Goals as goal

pub returns-in-Ok-open_first-clause-loaded : goal.returns-in-Ok-open_first-clause-loaded
returns-in-Ok-open_first-clause-loaded g c v holds =
    let was = c.in-Ok.ensures.opened in
    let then = c.in-Ok-open_first.ensures.keeps v was.log holds was.legal was.replayed was.end in
    record {
      log = was.log;
      legal = was.legal;
      room = then.0;
      keeps = then.1;
      stood = was.stood;
      stands = λ tells. c.in-Ok-open_first.ensures.stands v.node was.log tells was.legal was.replayed was.end (was.stands tells);
      among = was.among;
    }

pub returns-in-Ok-open_first-clause-any_moment : goal.returns-in-Ok-open_first-clause-any_moment
returns-in-Ok-open_first-clause-any_moment g c t u logs tells some some' le le' since =
    let was = c.in-Ok.ensures.opened in
    let later = c.in-Ok.ensures.later tells in
    let mid = not-torn g.D.Disk.seen g.D.Disk.images g.D.Disk.left_since t u c.args.main c.args.spare c.in-Ok.log.main c.in-Ok.log.spare logs some some' (c.in-Ok.ensures.any_moment t u logs tells le le' since) in
    let one = was.among tells logs (λ a b left right. since a b (g.met.D.Disk.counts_now c.args.main t a tells le left) (g.met.D.Disk.counts_now c.args.spare u b tells le' right)) in
    since-more g.D.Disk.left_since t u _ _ (opened_log was.log ∷ logs) (logs ++ opened_logs logs) (within-opened was.log logs one)
    (c.in-Ok-open_first.ensures.any_moment t u was.log logs tells (omega (arith, le, later.0)) (omega (arith, le', later.1)) was.legal was.replayed was.end (was.stands tells) mid)

pub returns-in-Ok-open_first-clause-calls : goal.returns-in-Ok-open_first-clause-calls
returns-in-Ok-open_first-clause-calls g c tells = record {
  read = c.in-Ok.log;
  added = c.open_first.new.log;
  opens = opens-front {T = Unit} g.D.Disk.seen g.D.Disk.unsynced g.D.Disk.done c.args.main c.args.spare c.in-Ok.log.main c.in-Ok.log.spare (Ok tt) (c.in-Ok.ensures.calls tells);
  appends = c.in-Ok-open_first.ensures.calls tells;
  main_is = refl;
  spare_is = refl;
}

pub returns-in-Err-open_first-clause-any_moment : goal.returns-in-Err-open_first-clause-any_moment
returns-in-Err-open_first-clause-any_moment g c t u logs tells some some' le le' since =
    let was = c.in-Ok.ensures.opened in
    let later = c.in-Ok.ensures.later tells in
    let mid = not-torn g.D.Disk.seen g.D.Disk.images g.D.Disk.left_since t u c.args.main c.args.spare c.in-Ok.log.main c.in-Ok.log.spare logs some some' (c.in-Ok.ensures.any_moment t u logs tells le le' since) in
    let one = was.among tells logs (λ a b left right. since a b (g.met.D.Disk.counts_now c.args.main t a tells le left) (g.met.D.Disk.counts_now c.args.spare u b tells le' right)) in
    subst (λ (q : g.row.D.Denot × g.row.D.Denot). SinceStandFor g.D.Disk.left_since t u q.0 q.1 (logs ++ opened_logs logs)) (sym c.close-main.ensures)
    (since-more g.D.Disk.left_since t u _ _ (opened_log was.log ∷ logs) (logs ++ opened_logs logs) (within-opened was.log logs one)
    (c.in-Err-open_first.ensures.any_moment t u was.log logs tells (omega (arith, le, later.0)) (omega (arith, le', later.1)) was.legal was.replayed was.end (was.stands tells) mid))

pub returns-in-Err-open_first-clause-calls : goal.returns-in-Err-open_first-clause-calls
returns-in-Err-open_first-clause-calls g c tells = record {
  read = c.in-Ok.log;
  added = c.open_first.new.log;
  opens = opens-front {T = Unit} g.D.Disk.seen g.D.Disk.unsynced g.D.Disk.done c.args.main c.args.spare c.in-Ok.log.main c.in-Ok.log.spare (Ok tt) (c.in-Ok.ensures.calls tells);
  appends = c.in-Err-open_first.ensures.calls tells;
  main_is = ap (λ (q : g.row.D.Denot × g.row.D.Denot). q.0) (sym c.close-main.ensures);
  spare_is = ap (λ (q : g.row.D.Denot × g.row.D.Denot). q.1) (sym c.close-main.ensures);
}

pub returns-in-Err-clause-any_moment : goal.returns-in-Err-clause-any_moment
returns-in-Err-clause-any_moment g c t u logs tells some some' le le' since =
    since-more g.D.Disk.left_since t u c.in-Err.failed.1 c.in-Err.failed.2 logs (logs ++ opened_logs logs) (within-left logs (opened_logs logs))
    (not-torn g.D.Disk.seen g.D.Disk.images g.D.Disk.left_since t u c.args.main c.args.spare c.in-Err.failed.1 c.in-Err.failed.2 logs some some' (c.in-Err.ensures.any_moment t u logs tells le le' since))

pub returns-in-Err-clause-calls : goal.returns-in-Err-clause-calls
returns-in-Err-clause-calls g c tells = record {
  read = record { main = c.in-Err.failed.1; spare = c.in-Err.failed.2; on_spare = false; is_open = false; end = 0; faults = 0 };
  added = record { main = c.in-Err.failed.1; spare = c.in-Err.failed.2; on_spare = false; is_open = false; end = 0; faults = 0 };
  opens = c.in-Err.ensures.calls tells;
  appends = inl (refl, refl);
  main_is = refl;
  spare_is = refl;
}

pub returns-in-Ok-open_first-clause-from_empty : goal.returns-in-Ok-open_first-clause-from_empty
returns-in-Ok-open_first-clause-from_empty g c t u logs tells le le' since =
    let was = c.in-Ok.ensures.opened in
    let later = c.in-Ok.ensures.later tells in
    let mid = c.in-Ok.ensures.any_moment t u logs tells le le' since in
    let untorn = was.untorn tells in
    let one = was.among tells logs (λ a b left right. since a b (g.met.D.Disk.counts_now c.args.main t a tells le left) (g.met.D.Disk.counts_now c.args.spare u b tells le' right)) in
    apart-more g.D.Disk.seen g.D.Disk.images g.D.Disk.left_since t u c.args.main c.args.spare _ _ (opened_log was.log ∷ logs) (logs ++ opened_logs logs) (within-opened was.log logs one)
    (c.in-Ok-open_first.ensures.since_opened t u c.args.main c.args.spare was.log logs tells (omega (arith, le, later.0)) (omega (arith, le', later.1)) was.legal was.replayed was.end (was.stands tells) untorn.0 untorn.1 mid)

pub returns-in-Err-open_first-clause-from_empty : goal.returns-in-Err-open_first-clause-from_empty
returns-in-Err-open_first-clause-from_empty g c t u logs tells le le' since =
    let was = c.in-Ok.ensures.opened in
    let later = c.in-Ok.ensures.later tells in
    let mid = c.in-Ok.ensures.any_moment t u logs tells le le' since in
    let untorn = was.untorn tells in
    let one = was.among tells logs (λ a b left right. since a b (g.met.D.Disk.counts_now c.args.main t a tells le left) (g.met.D.Disk.counts_now c.args.spare u b tells le' right)) in
    subst (λ (q : g.row.D.Denot × g.row.D.Denot). SinceStandOrTorn g.D.Disk.seen g.D.Disk.images g.D.Disk.left_since t u c.args.main c.args.spare (logs ++ opened_logs logs) q.0 q.1) (sym c.close-main.ensures)
    (apart-more g.D.Disk.seen g.D.Disk.images g.D.Disk.left_since t u c.args.main c.args.spare _ _ (opened_log was.log ∷ logs) (logs ++ opened_logs logs) (within-opened was.log logs one)
    (c.in-Err-open_first.ensures.since_opened t u c.args.main c.args.spare was.log logs tells (omega (arith, le, later.0)) (omega (arith, le', later.1)) was.legal was.replayed was.end (was.stands tells) untorn.0 untorn.1 mid))

pub returns-in-Err-clause-from_empty : goal.returns-in-Err-clause-from_empty
returns-in-Err-clause-from_empty g c t u logs tells le le' since =
    apart-more g.D.Disk.seen g.D.Disk.images g.D.Disk.left_since t u c.args.main c.args.spare c.in-Err.failed.1 c.in-Err.failed.2 logs (logs ++ opened_logs logs) (within-left logs (opened_logs logs))
    (c.in-Err.ensures.any_moment t u logs tells le le' since)
