use Rattle.std.proofs.Common.{rules, true, false}
use Rattle.std.proofs.lemmas.Result.{err_from_is_err_and}
use Rattle.record_log.specs.Stores.{OneCounts}
use Rattle.record_log.proofs.AreaFaults.{spare_fault, both_read}
use Rattle.record_log.proofs.read.read_areas.Goals as goal

pub returns-in_err-second : goal.returns-in_err-second
returns-in_err-second c =
    let a = c.args.main.now in
    let b = c.args.spare.now in
    let one : OneCounts a b = search rules in
    let gates = c.in_ok-find_gates.ensures in
    let p = err_from_is_err_and c.from_residual-in_err-second.result c.from_residual-in_err-second.ensures.1 in
    rw p.1 (rw p.2 (spare_fault a b c.in_ok-first.first c.in_err-second.field-0.0 one gates.0 gates.1 c.in_ok-first.ensures c.in_err-second.ensures))

pub returns-then-is_newer : goal.returns-then-is_newer
returns-then-is_newer c =
    let a = c.args.main.now in
    let b = c.args.spare.now in
    let one : OneCounts a b = search rules in
    let gates = c.in_ok-find_gates.ensures in
    both_read a b c.in_ok-first.first c.in_ok-second.second one gates.0 gates.1 c.in_ok-first.ensures c.in_ok-second.ensures true c.if-is_newer.ensures

pub returns-else-is_newer : goal.returns-else-is_newer
returns-else-is_newer c =
    let a = c.args.main.now in
    let b = c.args.spare.now in
    let one : OneCounts a b = search rules in
    let gates = c.in_ok-find_gates.ensures in
    both_read a b c.in_ok-first.first c.in_ok-second.second one gates.0 gates.1 c.in_ok-first.ensures c.in_ok-second.ensures false c.if-is_newer.ensures
