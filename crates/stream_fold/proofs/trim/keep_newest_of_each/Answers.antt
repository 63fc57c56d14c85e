use Rattle.std.proofs.Common.{◌≡◌, ◌+◌, ◌<◌, true, false, length, drop, sym, ap, ◌∙◌, arith}
use Rattle.std.specs.Prelude.{nat_le, count_by}
use Rattle.stream_fold.specs.Histories.{has_subject_of}
use Rattle.stream_fold.proofs.Trims.{removes, leaves, rest_from}
use Rattle.stream_fold.proofs.trim.keep_newest_of_each.Goals as goal

pub loop-place-preserved-then-has_later : goal.loop-place-preserved-then-has_later
loop-place-preserved-then-has_later c =
    let i = c.loop-place.invariant in
    let rows = c.loop-place.rows.items in
    let place = c.loop-place.place in
    let row = c.index.result.now in
    let long : place < length rows = omega (arith, ap length c.deref.ensures.value, c.deref.ensures.len, c.len.ensures) in
    let behind = rest_from c.deref.result.now rows (place + 1) c.deref.ensures.value in
    let goes : nat_le c.args.most (count_by (has_subject_of row) (drop (place + 1) rows)) ≡ true = ap (λ r. nat_le c.args.most (count_by (has_subject_of row) r)) (sym behind) ∙ (sym c.has_later.ensures ∙ c.if-has_later.true) in
    record {
      rows = removes c.args.most rows c.remove.new.self.items _ place row long c.index.ensures c.remove.ensures.items goes i.rows;
      within = omega (arith, c.remove.ensures.len, c.len.ensures);
    }

pub loop-place-preserved : goal.loop-place-preserved
loop-place-preserved c =
    let i = c.loop-place.invariant in
    let rows = c.loop-place.rows.items in
    let place = c.loop-place.place in
    let row = c.index.result.now in
    let long : place < length rows = omega (arith, ap length c.deref.ensures.value, c.deref.ensures.len, c.len.ensures) in
    let behind = rest_from c.deref.result.now rows (place + 1) c.deref.ensures.value in
    let stays : nat_le c.args.most (count_by (has_subject_of row) (drop (place + 1) rows)) ≡ false = ap (λ r. nat_le c.args.most (count_by (has_subject_of row) r)) (sym behind) ∙ (sym c.has_later.ensures ∙ c.if-has_later.false) in
    record {
      rows = leaves c.args.most rows _ place row long c.index.ensures stays i.rows;
      within = omega (arith, c.len.ensures);
    }
