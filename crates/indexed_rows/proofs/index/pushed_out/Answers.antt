use Rattle.std.proofs.Common.{◌≡◌, ℕ, List, true, cond, not, eqb, leb, Option, None, sym, ap, ◌∙◌}
use Rattle.std.specs.Prelude.{find, filter, slice_get, count_by, ◌&&◌}
use Rattle.std.specs.Option.{option_map}
use Rattle.stream_fold.specs.declared.entry.Numbered.{Numbered}
use Rattle.stream_fold.specs.Counting.{pushed_out}
use Rattle.indexed_rows.specs.Indexes.{rows_of, is_of}
use Rattle.indexed_rows.proofs.RowLemmas.{find-filter, first_message, none_there}
use Rattle.indexed_rows.proofs.index.pushed_out.Goals as goal

pushed : (most : ℕ) (s : List ℕ) (rows : List Numbered) → (not (eqb most 0) && leb most (count_by (is_of s) rows)) ≡ true → slice_get (filter (is_of s) rows) 0 ≡ pushed_out most s rows
pushed most s rows h = sym (ap (λ b. cond b (find (is_of s) rows) None) h ∙ find-filter (is_of s) rows)

pub returns-in-Some : goal.returns-in-Some
returns-in-Some c =
    let items = c.args.index.now.messages.items in
    let s = c.args.subject.now in
    c.get.ensures ∙ (first_message c.in-Some.seq s items c.requires.rises (sym c.first_of.ensures ∙ c.in-Some.is) ∙ ap (λ (o : Option Numbered). option_map (λ (r : Numbered). r.message) o) (pushed c.args.most s (rows_of items) (sym c.is_full_of.ensures ∙ c.if-not-is_full_of.false)))

pub returns-in-None : goal.returns-in-None
returns-in-None c =
    let items = c.args.index.now.messages.items in
    let s = c.args.subject.now in
    sym (none_there (slice_get (filter (is_of s) (rows_of items)) 0) (sym c.first_of.ensures ∙ c.in-None.is)) ∙ ap (λ (o : Option Numbered). option_map (λ (r : Numbered). r.message) o) (pushed c.args.most s (rows_of items) (sym c.is_full_of.ensures ∙ c.if-not-is_full_of.false))
