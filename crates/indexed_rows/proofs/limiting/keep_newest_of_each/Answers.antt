use Rattle.std.proofs.Common.{◌≡◌, ◌≤◌, List, ℕ, refl, sym, subst, ◌∙◌, arith}
use Rattle.nats_text.specs.declared.message.Message.{Message}
use Rattle.stream_fold.specs.Histories.{newest_of_each}
use Rattle.indexed_rows.specs.Indexes.{rows_of, has_at_most}
use Rattle.indexed_rows.proofs.Keeping.{keep_walked, newest_ends, newest_done}
use Rattle.indexed_rows.proofs.Walks.{pass_none, pass_to, each_left, number_ge, bounded, none_at_all}
use Rattle.indexed_rows.proofs.limiting.keep_newest_of_each.Goals as goal

pub returns-in_default-clause-rows : goal.returns-in_default-clause-rows
returns-in_default-clause-rows c =
    subst (λ (es : List (ℕ × Message)). rows_of es ≡ newest_of_each c.args.most (rows_of es)) (sym (none_at_all c.args.index.now.messages.items (sym c.last.ensures ∙ c.in_default.is))) refl

pub loop-seq-init : goal.loop-seq-init
loop-seq-init c = record {
  indexed = c.requires;
  rest = refl;
  pass = pass_none (has_at_most c.args.most (rows_of c.args.index.now.messages.items)) (rows_of c.args.index.now.messages.items);
  bound = bounded c.in-Some.last c.args.index.now.messages.items c.requires.rises (sym c.last.ensures ∙ c.in-Some.is);
  ready = refl;
}

pub keep_at-requires-clause-earlier : goal.keep_at-requires-clause-earlier
keep_at-requires-clause-earlier c = pass_to (has_at_most c.args.most (rows_of c.loop-seq.index.messages.items)) c.loop-seq.next c.in-Some-number_from.seq c.loop-seq.index.messages.items c.loop-seq.invariant.indexed.rises (sym c.number_from.ensures ∙ c.in-Some-number_from.is) c.loop-seq.invariant.pass

pub loop-seq-smaller : goal.loop-seq-smaller
loop-seq-smaller c =
    let ge = number_ge c.loop-seq.next c.in-Some-number_from.seq c.loop-seq.index.messages.items (sym c.number_from.ensures ∙ c.in-Some-number_from.is) in
    let lt = c.if-last-seq.false in
    omega (arith, ge, lt)

pub loop-seq-preserved : goal.loop-seq-preserved
loop-seq-preserved c = record {
  indexed = c.keep_at.ensures.indexed;
  rest = c.keep_at.ensures.stay ∙ c.loop-seq.invariant.rest;
  pass = keep_walked c.args.most c.loop-seq.next c.in-Some-number_from.seq c.loop-seq.index.messages.items c.keep_at.new.index.messages.items c.loop-seq.invariant.indexed.rises (sym c.number_from.ensures ∙ c.in-Some-number_from.is) c.loop-seq.invariant.pass c.keep_at.ensures.fewer c.keep_at.ensures.passes;
  bound = each_left (λ row. row.seq ≤ c.in-Some.last) c.in-Some-number_from.seq (rows_of c.loop-seq.index.messages.items) (rows_of c.keep_at.new.index.messages.items) c.keep_at.ensures.fewer c.loop-seq.invariant.bound;
  ready = c.keep_at.ensures.ready ∙ c.loop-seq.invariant.ready;
}

pub returns-then-last-seq-clause-rows : goal.returns-then-last-seq-clause-rows
returns-then-last-seq-clause-rows c =
    newest_done c.args.most c.in-Some-number_from.seq c.in-Some.last (rows_of c.keep_at.new.index.messages.items)
    (keep_walked c.args.most c.loop-seq.next c.in-Some-number_from.seq c.loop-seq.index.messages.items c.keep_at.new.index.messages.items c.loop-seq.invariant.indexed.rises (sym c.number_from.ensures ∙ c.in-Some-number_from.is) c.loop-seq.invariant.pass c.keep_at.ensures.fewer c.keep_at.ensures.passes)
    (each_left (λ row. row.seq ≤ c.in-Some.last) c.in-Some-number_from.seq (rows_of c.loop-seq.index.messages.items) (rows_of c.keep_at.new.index.messages.items) c.keep_at.ensures.fewer c.loop-seq.invariant.bound)
    c.if-last-seq.true
    ∙ (c.keep_at.ensures.stay ∙ c.loop-seq.invariant.rest)

pub returns-clause-rows : goal.returns-clause-rows
returns-clause-rows c = newest_ends c.args.most c.loop-seq.next c.loop-seq.index.messages.items (sym c.number_from.ensures ∙ c.in_default-number_from.is) c.loop-seq.invariant.pass ∙ c.loop-seq.invariant.rest
