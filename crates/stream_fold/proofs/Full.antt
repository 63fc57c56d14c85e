-- The counts that a new message would leave.
use Rattle.std.proofs.Common.{◌≡◌, ℕ, ◌+◌, ◌≤◌, Bool, true, false, cond, eqb, leb, not, ◌&&◌, List, [], ◌∷◌, ◌++◌, None, Some, refl, sym, ap, ◌∙◌, subst, arith}
use Rattle.std.specs.Prelude.{count_by, find}
use Rattle.std.specs.Str.{bytes_eq}
use Rattle.std.proofs.lemmas.Bool.{eqb-false, leb-true, leb-false}
use Rattle.std.proofs.lemmas.Option.{none-some, same_Some}
use Rattle.nats_text.specs.Sizes.{size}
use Rattle.nats_text.specs.declared.message.Message.{Message}
use Rattle.stream_fold.specs.declared.config.Config.{Config}
use Rattle.stream_fold.specs.declared.entry.Numbered.{Numbered}
use Rattle.stream_fold.specs.Histories.{newest_of_each, size_of}
use Rattle.stream_fold.specs.Publishing.{rows_with}
use Rattle.stream_fold.specs.Parts.{AreNewest}
use Rattle.stream_fold.specs.Counting.{pushed_out}
use Rattle.stream_fold.proofs.Totals.{size_of-cons}
use Rattle.stream_fold.proofs.Newest.{count_by-first, newest-push, newest-replaces, Replaces}

-- what is found is among the rows
found-step : (r out : Numbered) (rs : List Numbered) (p : Numbered → Bool) (b : Bool) → cond b (Some r) (find p rs) ≡ Some out → (find p rs ≡ Some out → size out.message ≤ size_of rs) → size out.message ≤ size_of (r ∷ rs)
found-step r out rs p true e ih = omega (arith, size_of-cons r rs, ap (λ (row : Numbered). size row.message) (same_Some r out e))
found-step r out rs p false e ih = omega (arith, size_of-cons r rs, ih e)

pub found_size : (p : Numbered → Bool) (rows : List Numbered) (out : Numbered) → find p rows ≡ Some out → size out.message ≤ size_of rows
found_size p [] out e = absurd (none-some out e)
found_size p (r ∷ rs) out e = found-step r out rs p (p r) e (found_size p rs out)

none-step : (r : Numbered) (rs : List Numbered) (p : Numbered → Bool) (b : Bool) → p r ≡ b → cond b (Some r) (find p rs) ≡ None → (find p rs ≡ None → count_by p rs ≡ 0) → count_by p (r ∷ rs) ≡ 0
none-step r rs p true q e ih = absurd (none-some r (sym e))
none-step r rs p false q e ih = omega (arith, count_by-first p false r rs q, ih e)

none_found : (p : Numbered → Bool) (rows : List Numbered) → find p rows ≡ None → count_by p rows ≡ 0
none_found p [] e = refl
none_found p (r ∷ rs) e = none-step r rs p (p r) refl e (none_found p rs)

module _ (c : Config) (m : Message) (rows : List Numbered) (last : ℕ) where
  some-by : (out : Numbered) (b d : Bool) → eqb c.max_per_subject 0 ≡ b → leb c.max_per_subject (count_by (λ (row : Numbered). bytes_eq row.message.subject m.subject) rows) ≡ d → ((c.max_per_subject ≡ 0 → ⊥) → AreNewest c.max_per_subject rows) → cond (not b && d) (find (λ (row : Numbered). bytes_eq row.message.subject m.subject) rows) None ≡ Some out → Replaces rows out (record { seq = last + 1; message = m }) (rows_with c m rows last)
  some-by out true true z l h e = absurd (none-some out e)
  some-by out true false z l h e = absurd (none-some out e)
  some-by out false false z l h e = absurd (none-some out e)
  some-by out false true z l h e =
      let ne : c.max_per_subject ≡ 0 → ⊥ = eqb-false c.max_per_subject 0 z in
      subst (Replaces rows out (record { seq = last + 1; message = m }))
      (sym (ap (λ t. cond t (rows ++ (record { seq = last + 1; message = m }) ∷ []) (newest_of_each c.max_per_subject (rows ++ (record { seq = last + 1; message = m }) ∷ []))) z))
      (newest-replaces c.max_per_subject (record { seq = last + 1; message = m }) out rows (omega (arith, ne)) (h ne) (leb-true c.max_per_subject _ l) e)

  none-by : (b d : Bool) → eqb c.max_per_subject 0 ≡ b → leb c.max_per_subject (count_by (λ (row : Numbered). bytes_eq row.message.subject m.subject) rows) ≡ d → ((c.max_per_subject ≡ 0 → ⊥) → AreNewest c.max_per_subject rows) → cond (not b && d) (find (λ (row : Numbered). bytes_eq row.message.subject m.subject) rows) None ≡ None → rows_with c m rows last ≡ rows ++ (record { seq = last + 1; message = m }) ∷ []
  none-by true d z l h e = ap (λ t. cond t (rows ++ (record { seq = last + 1; message = m }) ∷ []) (newest_of_each c.max_per_subject (rows ++ (record { seq = last + 1; message = m }) ∷ []))) z
  none-by false true z l h e =
      let ne : c.max_per_subject ≡ 0 → ⊥ = eqb-false c.max_per_subject 0 z in
      absurd (omega (arith, ne, leb-true c.max_per_subject _ l, none_found (λ (row : Numbered). bytes_eq row.message.subject m.subject) rows e))
  none-by false false z l h e =
      let ne : c.max_per_subject ≡ 0 → ⊥ = eqb-false c.max_per_subject 0 z in
      ap (λ t. cond t (rows ++ (record { seq = last + 1; message = m }) ∷ []) (newest_of_each c.max_per_subject (rows ++ (record { seq = last + 1; message = m }) ∷ []))) z
      ∙ newest-push c.max_per_subject (record { seq = last + 1; message = m }) rows (omega (arith, ne)) (h ne) (leb-false c.max_per_subject _ l)

  -- a row that is pushed out is replaced
  pub pushed_some : (out : Numbered) → ((c.max_per_subject ≡ 0 → ⊥) → AreNewest c.max_per_subject rows) → pushed_out c.max_per_subject m.subject rows ≡ Some out → Replaces rows out (record { seq = last + 1; message = m }) (rows_with c m rows last)
  pushed_some out h e = some-by out (eqb c.max_per_subject 0) (leb c.max_per_subject (count_by (λ (row : Numbered). bytes_eq row.message.subject m.subject) rows)) refl refl h e

  pub pushed_none : ((c.max_per_subject ≡ 0 → ⊥) → AreNewest c.max_per_subject rows) → pushed_out c.max_per_subject m.subject rows ≡ None → rows_with c m rows last ≡ rows ++ (record { seq = last + 1; message = m }) ∷ []
  pushed_none h e = none-by (eqb c.max_per_subject 0) (leb c.max_per_subject (count_by (λ (row : Numbered). bytes_eq row.message.subject m.subject) rows)) refl refl h e

some-size : (b : Bool) (p : Numbered → Bool) (rows : List Numbered) (out : Numbered) → cond b (find p rows) None ≡ Some out → size out.message ≤ size_of rows
some-size true p rows out e = found_size p rows out e
some-size false p rows out e = absurd (none-some out e)

pub pushed_size : (most : ℕ) (subject : List ℕ) (rows : List Numbered) (out : Numbered) → pushed_out most subject rows ≡ Some out → size out.message ≤ size_of rows
pushed_size most subject rows out e = some-size (not (eqb most 0) && leb most (count_by (λ (row : Numbered). bytes_eq row.message.subject subject) rows)) (λ (row : Numbered). bytes_eq row.message.subject subject) rows out e
