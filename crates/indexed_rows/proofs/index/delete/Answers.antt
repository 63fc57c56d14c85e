use Rattle.std.proofs.Common.{◌≡◌, ℕ, ◌-◌, not, eqb, List, Some, sym, ap, subst, ◌∙◌, arith}
use Rattle.std.specs.Prelude.{filter}
use Rattle.std.specs.Map.{keys_of}
use Rattle.nats_text.specs.declared.message.Message.{Message}
use Rattle.stream_fold.specs.declared.entry.Numbered.{Numbered}
use Rattle.stream_fold.specs.Histories.{message_at}
use Rattle.stream_fold.specs.RowLists.{IsTotal, Rises, seqs}
use Rattle.indexed_rows.specs.Indexes.{rows_of, numbers_of, listed, ready_in, IsInOrder}
use Rattle.indexed_rows.proofs.Changes.{both_change, ready_room, absent_item}
use Rattle.indexed_rows.proofs.Listed.{rises_filter}
use Rattle.indexed_rows.proofs.RowLemmas.{message_at-items, seqs-items, rows_of-without, size-gone, total-gone, numbers-gone, order-filter}
use Rattle.indexed_rows.proofs.index.delete.Goals as goal

pub returns-in_default-clause-indexed : goal.returns-in_default-clause-indexed
returns-in_default-clause-indexed c =
    let i = c.args.index.now in
    let stay : c.remove.new.self.items ≡ c.args.index.now.messages.items = c.remove.ensures.items ∙ absent_item c.args.seq c.args.index.now.messages.items (sym c.remove.ensures.value ∙ c.in_default.is) in
    record {
      rises = subst (λ (es : List (ℕ × Message)). Rises 0 (keys_of es)) (sym stay) c.requires.rises;
      total = subst (λ (es : List (ℕ × Message)). IsTotal i.total (rows_of es)) (sym stay) c.requires.total;
      subjects = λ q. c.requires.subjects q ∙ ap (λ (es : List (ℕ × Message)). numbers_of q (rows_of es)) (sym stay);
      ready = ready_room (ready_in i.coming) i.messages.has_room c.remove.new.self.has_room i.subjects c.remove.ensures.room c.requires.ready;
      order = λ on. subst (λ (es : List (ℕ × Message)). IsInOrder i.latest (rows_of es)) (sym stay) (c.requires.order on);
    }

pub returns-in_default-clause-rows : goal.returns-in_default-clause-rows
returns-in_default-clause-rows c = ap (λ (es : List (ℕ × Message)). rows_of es) c.remove.ensures.items ∙ rows_of-without c.args.seq c.args.index.now.messages.items

pub overflow_sub-index : goal.overflow_sub-index
overflow_sub-index c =
    let items = c.args.index.now.messages.items in
    let rises : Rises 0 (seqs (rows_of items)) = subst (λ (ns : List ℕ). Rises 0 ns) (sym (seqs-items items)) c.requires.rises in
    let at : message_at c.args.seq (rows_of items) ≡ Some c.in-Some.message = sym (message_at-items c.args.seq items) ∙ (sym c.remove.ensures.value ∙ c.in-Some.is) in
    omega (arith, c.size.ensures, size-gone c.args.seq 0 (rows_of items) c.in-Some.message rises at, c.requires.total.sum)

pub returns-clause-indexed : goal.returns-clause-indexed
returns-clause-indexed c =
    let i = c.args.index.now in
    let items = c.args.index.now.messages.items in
    let rows : List Numbered = rows_of items in
    let m : Message = c.in-Some.message in
    let rises : Rises 0 (seqs rows) = subst (λ (ns : List ℕ). Rises 0 ns) (sym (seqs-items items)) c.requires.rises in
    let at : message_at c.args.seq rows ≡ Some m = sym (message_at-items c.args.seq items) ∙ (sym c.remove.ensures.value ∙ c.in-Some.is) in
    let left : rows_of c.remove.new.self.items ≡ filter (λ (r : Numbered). not (eqb r.seq c.args.seq)) rows = ap (λ (es : List (ℕ × Message)). rows_of es) c.remove.ensures.items ∙ rows_of-without c.args.seq items in
    let gone = size-gone c.args.seq 0 rows m rises at in
    record {
      rises = subst (λ (es : List (ℕ × Message)). Rises 0 (keys_of es)) (sym c.remove.ensures.items) (rises_filter (λ e. not (eqb e.0 c.args.seq)) 0 items c.requires.rises);
      total = subst (λ (rs : List Numbered). IsTotal (i.total - c.size.result) rs) (sym left) (total-gone c.args.seq i.total (i.total - c.size.result) rows m rises at c.requires.total (omega (arith, c.size.ensures, gone, c.requires.total.sum, c.requires.total.fits)));
      subjects = λ q. both_change (λ (ns : List ℕ). filter (λ k. not (eqb k c.args.seq)) ns) c.bytes-subject.result.now m.subject q (listed q c.unlist_number.new.subjects) (listed q i.subjects) (numbers_of q rows) (numbers_of q (rows_of c.remove.new.self.items)) c.bytes-subject.ensures.value (c.requires.subjects q) (c.unlist_number.ensures.listed q) (ap (λ (rs : List Numbered). numbers_of q rs) left ∙ numbers-gone c.args.seq 0 rows m rises at q);
      ready = c.unlist_number.ensures.ready c.remove.new.self.has_room (ready_room (ready_in i.coming) i.messages.has_room c.remove.new.self.has_room i.subjects c.remove.ensures.room c.requires.ready);
      order = λ on. subst (λ (rs : List Numbered). IsInOrder i.latest rs) (sym left) (order-filter (λ r. not (eqb r.seq c.args.seq)) i.latest rows (c.requires.order on));
    }

pub returns-clause-rows : goal.returns-clause-rows
returns-clause-rows c = ap (λ (es : List (ℕ × Message)). rows_of es) c.remove.ensures.items ∙ rows_of-without c.args.seq c.args.index.now.messages.items
