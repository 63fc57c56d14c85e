use Rattle.std.proofs.Common.{◌+◌, sym, ◌∙◌, arith}
use Rattle.indexed_rows.proofs.Walks.{entry_ge, nothing_last, nothing_past, match_found, match_skip, match_none}
use Rattle.indexed_rows.proofs.index.next_match.Goals as goal

pub returns-in_default : goal.returns-in_default
returns-in_default c =
    let items = c.args.index.now.messages.items in
    sym (match_none c.args.from c.args.filters.now items (nothing_last c.args.from items (sym c.last.ensures ∙ c.in_default.is)))

pub returns-then-is_taken : goal.returns-then-is_taken
returns-then-is_taken c =
    sym (match_found c.loop-seq.next c.args.filters.now c.args.index.now.messages.items (c.in-Some-next_from.seq, c.in-Some-next_from.message.now) (sym c.in-Some-next_from.ensures) (sym c.is_taken.ensures ∙ c.if-is_taken.true)) ∙ c.loop-seq.invariant

pub returns-then-last-seq : goal.returns-then-last-seq
returns-then-last-seq c =
    let items = c.args.index.now.messages.items in
    let seq = c.in-Some-next_from.seq in
    sym (match_none (seq + 1) c.args.filters.now items (nothing_past 0 c.in-Some.last seq items c.requires.rises (sym c.last.ensures ∙ c.in-Some.is) c.if-last-seq.true))
    ∙ (match_skip 0 c.loop-seq.next c.args.filters.now items (seq, c.in-Some-next_from.message.now) c.requires.rises (sym c.in-Some-next_from.ensures) (sym c.is_taken.ensures ∙ c.if-is_taken.false) ∙ c.loop-seq.invariant)

pub loop-seq-smaller : goal.loop-seq-smaller
loop-seq-smaller c =
    let ge = entry_ge c.loop-seq.next c.args.index.now.messages.items (c.in-Some-next_from.seq, c.in-Some-next_from.message.now) (sym c.in-Some-next_from.ensures) in
    let less = c.if-last-seq.false in
    omega (arith, ge, less)

pub loop-seq-preserved : goal.loop-seq-preserved
loop-seq-preserved c =
    match_skip 0 c.loop-seq.next c.args.filters.now c.args.index.now.messages.items (c.in-Some-next_from.seq, c.in-Some-next_from.message.now) c.requires.rises (sym c.in-Some-next_from.ensures) (sym c.is_taken.ensures ∙ c.if-is_taken.false) ∙ c.loop-seq.invariant

pub returns : goal.returns
returns c = sym (match_none c.loop-seq.next c.args.filters.now c.args.index.now.messages.items (sym c.in_default-next_from.ensures)) ∙ c.loop-seq.invariant
