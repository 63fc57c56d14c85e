use Rattle.std.proofs.Common.{◌≡◌, ℕ, ◌+◌, ◌++◌, ◌∷◌, [], List, sym, ap, subst, ◌∙◌, arith}
use Rattle.std.specs.Map.{keys_of}
use Rattle.nats_text.specs.declared.message.Message.{Message}
use Rattle.stream_fold.specs.declared.entry.Numbered.{Numbered}
use Rattle.stream_fold.specs.RowLists.{IsTotal, Rises}
use Rattle.indexed_rows.specs.Indexes.{rows_of, numbers_of, listed, IsInOrder}
use Rattle.indexed_rows.proofs.Changes.{both_change}
use Rattle.indexed_rows.proofs.RowLemmas.{seqs-items, rows_of-push, rises-numbers, rises-items, total-push, numbers-push, order-push}
use Rattle.indexed_rows.proofs.index.push.Goals as goal

pub list_number-requires-clause-above : goal.list_number-requires-clause-above
list_number-requires-clause-above c =
    let items = c.args.index.now.messages.items in
    subst (λ (ns : List ℕ). Rises 0 (ns ++ c.args.row.seq ∷ [])) (sym (c.requires.indexed.subjects c.bytes.result.now))
    (rises-numbers 0 c.args.row.seq c.bytes.result.now (rows_of items) c.requires.above (subst (λ (ns : List ℕ). Rises 0 ns) (sym (seqs-items items)) c.requires.indexed.rises) (omega arith))

pub push-requires-clause-above : goal.push-requires-clause-above
push-requires-clause-above c = rises-items 0 c.args.row.seq c.args.row.message c.args.index.now.messages.items c.requires.above c.requires.indexed.rises (omega arith)

pub returns-clause-indexed : goal.returns-clause-indexed
returns-clause-indexed c =
    let items = c.args.index.now.messages.items in
    let row : Numbered = c.args.row in
    let rows : List Numbered = rows_of items in
    let grown : rows_of c.push.new.self.items ≡ rows ++ row ∷ [] = ap (λ (es : List (ℕ × Message)). rows_of es) c.push.ensures ∙ rows_of-push items row.seq row.message in
    record {
      rises = subst (λ (es : List (ℕ × Message)). Rises 0 (keys_of es)) (sym c.push.ensures) (rises-items 0 row.seq row.message items c.requires.above c.requires.indexed.rises (omega arith));
      total = subst (λ (rs : List Numbered). IsTotal (c.args.index.now.total + c.size.result) rs) (sym grown) (total-push c.args.index.now.total (c.args.index.now.total + c.size.result) rows row c.requires.indexed.total c.requires.total (omega (arith, c.size.ensures, c.requires.total)));
      subjects = λ q. both_change (λ (ns : List ℕ). ns ++ row.seq ∷ []) c.bytes.result.now row.message.subject q (listed q c.list_number.new.subjects) (listed q c.args.index.now.subjects) (numbers_of q rows) (numbers_of q (rows_of c.push.new.self.items)) c.bytes.ensures.value (c.requires.indexed.subjects q) (c.list_number.ensures q) (ap (λ (rs : List Numbered). numbers_of q rs) grown ∙ numbers-push q rows row);
      ready = tt;
      order = λ on. subst (λ (rs : List Numbered). IsInOrder row.message.time rs) (sym grown) (order-push rows row (c.is_in_order-index.ensures on));
    }
