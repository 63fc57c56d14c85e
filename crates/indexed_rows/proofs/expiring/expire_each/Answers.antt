use Rattle.std.proofs.Common.{◌≡◌, ◌≤◌, List, ℕ, not, refl, sym, subst, ◌∙◌, arith}
use Rattle.std.specs.Prelude.{filter}
use Rattle.nats_text.specs.declared.message.Message.{Message}
use Rattle.stream_fold.specs.Histories.{is_expired}
use Rattle.indexed_rows.specs.Indexes.{rows_of}
use Rattle.indexed_rows.proofs.Walks.{pass_none, walked, each_left, number_ge, walk_done, walk_ends, bounded, none_at_all}
use Rattle.indexed_rows.proofs.expiring.expire_each.Goals as goal

pub returns-in_default-clause-rows : goal.returns-in_default-clause-rows
returns-in_default-clause-rows c =
    subst (λ (es : List (ℕ × Message)). rows_of es ≡ filter (λ row. not (is_expired c.args.max_age c.args.now row)) (rows_of es)) (sym (none_at_all c.args.index.now.messages.items (sym c.last.ensures ∙ c.in_default.is))) refl

pub loop-seq-init : goal.loop-seq-init
loop-seq-init c = record {
  indexed = c.requires;
  rest = refl;
  pass = pass_none (λ row. not (is_expired c.args.max_age c.args.now row)) (rows_of c.args.index.now.messages.items);
  bound = bounded c.in-Some.last c.args.index.now.messages.items c.requires.rises (sym c.last.ensures ∙ c.in-Some.is);
  ready = refl;
}

pub loop-seq-smaller : goal.loop-seq-smaller
loop-seq-smaller c =
    let ge = number_ge c.loop-seq.next c.in-Some-number_from.seq c.loop-seq.index.messages.items (sym c.number_from.ensures ∙ c.in-Some-number_from.is) in
    let lt = c.if-last-seq.false in
    omega (arith, ge, lt)

pub loop-seq-preserved : goal.loop-seq-preserved
loop-seq-preserved c = record {
  indexed = c.expire_at.ensures.indexed;
  rest = c.expire_at.ensures.stay ∙ c.loop-seq.invariant.rest;
  pass = walked (λ row. not (is_expired c.args.max_age c.args.now row)) c.loop-seq.next c.in-Some-number_from.seq c.loop-seq.index.messages.items c.expire_at.new.index.messages.items c.loop-seq.invariant.indexed.rises (sym c.number_from.ensures ∙ c.in-Some-number_from.is) c.loop-seq.invariant.pass c.expire_at.ensures.fewer c.expire_at.ensures.passes;
  bound = each_left (λ row. row.seq ≤ c.in-Some.last) c.in-Some-number_from.seq (rows_of c.loop-seq.index.messages.items) (rows_of c.expire_at.new.index.messages.items) c.expire_at.ensures.fewer c.loop-seq.invariant.bound;
  ready = c.expire_at.ensures.ready ∙ c.loop-seq.invariant.ready;
}

pub returns-then-last-seq-clause-rows : goal.returns-then-last-seq-clause-rows
returns-then-last-seq-clause-rows c =
    walk_done (λ row. not (is_expired c.args.max_age c.args.now row)) c.in-Some-number_from.seq c.in-Some.last (rows_of c.expire_at.new.index.messages.items) (walked (λ row. not (is_expired c.args.max_age c.args.now row)) c.loop-seq.next c.in-Some-number_from.seq c.loop-seq.index.messages.items c.expire_at.new.index.messages.items c.loop-seq.invariant.indexed.rises (sym c.number_from.ensures ∙ c.in-Some-number_from.is) c.loop-seq.invariant.pass c.expire_at.ensures.fewer c.expire_at.ensures.passes) (each_left (λ row. row.seq ≤ c.in-Some.last) c.in-Some-number_from.seq (rows_of c.loop-seq.index.messages.items) (rows_of c.expire_at.new.index.messages.items) c.expire_at.ensures.fewer c.loop-seq.invariant.bound) c.if-last-seq.true
    ∙ (c.expire_at.ensures.stay ∙ c.loop-seq.invariant.rest)

pub returns-clause-rows : goal.returns-clause-rows
returns-clause-rows c =
    walk_ends (λ row. not (is_expired c.args.max_age c.args.now row)) c.loop-seq.next c.loop-seq.index.messages.items (sym c.number_from.ensures ∙ c.in_default-number_from.is) c.loop-seq.invariant.pass ∙ c.loop-seq.invariant.rest
