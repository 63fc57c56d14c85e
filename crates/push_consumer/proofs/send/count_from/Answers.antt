use Rattle.std.proofs.Common.{◌≡◌, ◌+◌, Some, None, length, sym, ◌∙◌, ap, arith}
use Rattle.stream_fold.specs.Publishing.{next_match}
use Rattle.push_consumer.specs.Sends.{rows_from}
use Rattle.push_consumer.proofs.Counting.{sum_of}
use Rattle.push_consumer.proofs.Finding.{next-least, next_kept, rows_next, rows_none}
use Rattle.push_consumer.proofs.send.count_from.Goals as goal

pub overflow_add-count : goal.overflow_add-count
overflow_add-count c =
    let next : next_match c.loop-seq.from c.args.filters.now c.args.state.now.held.rows ≡ Some c.in-Some.seq = sym c.next_match.ensures ∙ c.in-Some.is in
    let least = next-least c.loop-seq.from c.in-Some.seq c.args.filters.now c.args.state.now.held.rows next in
    let sum = sum_of c.checked_add.result _ (c.in-Some.seq + 1) c.in_ok-from.from c.checked_add.ensures c.in_ok-from.ensures.ok_part in
    omega (arith, least, sum.0, c.loop-seq.invariant.below)

pub loop-seq-smaller : goal.loop-seq-smaller
loop-seq-smaller c =
    let next : next_match c.loop-seq.from c.args.filters.now c.args.state.now.held.rows ≡ Some c.in-Some.seq = sym c.next_match.ensures ∙ c.in-Some.is in
    let kept = next_kept c.loop-seq.from c.in-Some.seq c.args.filters.now c.args.state.now.held.rows next in
    let rows = rows_next c.loop-seq.from c.in-Some.seq c.args.filters.now c.args.state.now.held.rows kept.0 next kept.1 in
    let sum = sum_of c.checked_add.result _ (c.in-Some.seq + 1) c.in_ok-from.from c.checked_add.ensures c.in_ok-from.ensures.ok_part in
    omega (arith, ap length rows, ap (λ n. length (rows_from n c.args.filters.now c.args.state.now.held.rows)) sum.1)

pub loop-seq-preserved : goal.loop-seq-preserved
loop-seq-preserved c =
    let next : next_match c.loop-seq.from c.args.filters.now c.args.state.now.held.rows ≡ Some c.in-Some.seq = sym c.next_match.ensures ∙ c.in-Some.is in
    let kept = next_kept c.loop-seq.from c.in-Some.seq c.args.filters.now c.args.state.now.held.rows next in
    let least = next-least c.loop-seq.from c.in-Some.seq c.args.filters.now c.args.state.now.held.rows next in
    let rows = rows_next c.loop-seq.from c.in-Some.seq c.args.filters.now c.args.state.now.held.rows kept.0 next kept.1 in
    let sum = sum_of c.checked_add.result _ (c.in-Some.seq + 1) c.in_ok-from.from c.checked_add.ensures c.in_ok-from.ensures.ok_part in
    record {
      all = omega (arith, ap length rows, ap (λ n. length (rows_from n c.args.filters.now c.args.state.now.held.rows)) sum.1, c.loop-seq.invariant.all);
      below = omega (arith, least, sum.1, c.loop-seq.invariant.below);
    }

pub returns : goal.returns
returns c =
    let none : next_match c.loop-seq.from c.args.filters.now c.args.state.now.held.rows ≡ None = sym c.next_match.ensures ∙ c.in_default.is in
    omega (arith, ap length (rows_none c.loop-seq.from c.args.filters.now c.args.state.now.held.rows none), c.loop-seq.invariant.all)
