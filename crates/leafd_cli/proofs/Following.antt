-- Rows that a copy takes one after another.
use Rattle.std.proofs.Common.{◌≡◌, ℕ, suc, ◌^◌, ◌<◌, ◌≤◌, List, [], ◌∷◌, ◌++◌, map, Bool, true, false, cond, ltb, Option, None, Some, refl, sym, subst, arith, append_assoc, append-nil}
use Rattle.std.proofs.lemmas.Bool.{ltb-true}
use Rattle.stream_fold.specs.declared.entry.Entry.{Entry}
use Rattle.stream_fold.specs.declared.entry.Entry.TheVariants.{Bind}
use Rattle.stream_fold.specs.declared.entry.BoundTo.{BoundTo}
use Rattle.stream_fold.specs.declared.entry.Numbered.{Numbered}
use Rattle.stream_fold.specs.Histories.{last, kept}
use Rattle.stream_fold.specs.Copying.{bound}
use Rattle.stream_fold.proofs.Folds.{last-push}
use Rattle.stream_fold.proofs.KeptRows.{EachRow, EachRow-weaker, Rises, seqs, kept-rises, kept-below}
use Rattle.leafd_cli.specs.Logs.{StreamLog, history_of}
use Rattle.leafd_cli.specs.Plain.{copied_entry, rows_past, bound_log, fed_rows}
use Rattle.leafd_cli.specs.Keeping.{IsNumbered, CanFollow}
use Rattle.leafd_cli.proofs.Numbers.{numbered-push}

-- the rows past a number that are above another one too
above_first : (n : ℕ) (rows : List Numbered) → Rises (suc n) (seqs rows) → EachRow (λ r. n < r.seq) rows
above_first n [] h = tt
above_first n (r ∷ rows) h = (omega (arith, h.0), EachRow-weaker (λ x. r.seq < x.seq) (λ x. n < x.seq) (λ x q. omega (arith, q, h.0)) rows (above_first r.seq rows h.1))

weaker_rises : (a b : ℕ) (rows : List Numbered) → a ≤ b → Rises b (seqs rows) → Rises a (seqs rows)
weaker_rises a b [] le h = tt
weaker_rises a b (r ∷ rows) le h = (omega (arith, h.0), h.1)

-- each row past `low` is above `from`
follow : (low from b : ℕ) (rows : List Numbered) → Rises b (seqs rows) → EachRow (λ r. low < r.seq → from < r.seq) rows → EachRow (λ r. r.seq < 2 ^ 63) rows → CanFollow from (rows_past low rows)
follow low from b [] rise above small = tt
follow low from b (r ∷ rows) rise above small =
    let P : Bool → Type 0 = λ x. ltb low r.seq ≡ x → CanFollow from (cond x (r ∷ rows_past low rows) (rows_past low rows)) in
    let go : (x : Bool) → P x = λ x. elim x as P [
      | true ↦ (λ t.
          let over = above_first r.seq rows rise.1 in
          (above.0 (ltb-true low r.seq t), small.0, follow low r.seq (suc r.seq) rows rise.1 (EachRow-weaker (λ y. r.seq < y.seq) (λ y. low < y.seq → r.seq < y.seq) (λ y q k. q) rows over) small.1))
      | false ↦ (λ f. follow low from (suc r.seq) rows rise.1 above.1 small.1)
    ] in
    go (ltb low r.seq) refl

pub can_follow : (low : ℕ) (o : StreamLog) → IsNumbered o → CanFollow low (rows_past low (kept (history_of o)))
can_follow low o n =
    let below = kept-below (history_of o) in
    let small = EachRow-weaker (λ r. r.seq ≤ last o.entries) (λ r. r.seq < 2 ^ 63) (λ r q. omega (arith, q, n.below)) (kept (history_of o)) below in
    let above = EachRow-weaker (λ r. r.seq ≤ last o.entries) (λ r. low < r.seq → low < r.seq) (λ r q k. k) (kept (history_of o)) below in
    follow low low 0 (kept (history_of o)) (kept-rises (history_of o) n.rising) above small

-- a log that takes rows that may follow stays numbered
numbered-rows : (rows : List Numbered) (s : StreamLog) → IsNumbered s → CanFollow (last s.entries) rows → IsNumbered (record s { entries = s.entries ++ map copied_entry rows })
numbered-rows [] s n can = let P : List Entry → Type 0 = λ es. IsNumbered (record s { entries = es }) in subst P (sym (append-nil s.entries)) n
numbered-rows (r ∷ rows) s n can =
    let e : Entry = copied_entry r in
    let t : StreamLog = record s { entries = s.entries ++ e ∷ [] } in
    let m : IsNumbered t = numbered-push s e n (record { above = can.0; below = can.1; same = refl }) in
    let end : last t.entries ≡ r.seq = omega (arith, last-push s.entries e, can.0) in
    let C : ℕ → Type 0 = λ low. CanFollow low rows in
    let P : List Entry → Type 0 = λ es. IsNumbered (record s { entries = es }) in
    subst P (append_assoc s.entries (e ∷ []) (map copied_entry rows)) (numbered-rows rows t m (subst C (sym end) can.2))

bound_numbered : (b : Option BoundTo) (s : StreamLog) → IsNumbered s → IsNumbered (record s { entries = bound_log b s.entries })
bound_numbered None s n = numbered-push s (Bind 0 1 1) n (record { above = tt; below = omega arith; same = refl })
bound_numbered (Some to) s n = n

last-bound : (b : Option BoundTo) (s : StreamLog) → last (bound_log b s.entries) ≡ last s.entries
last-bound None s = omega (arith, last-push s.entries (Bind 0 1 1))
last-bound (Some to) s = refl

pub numbered-fed : (s o : StreamLog) → IsNumbered s → IsNumbered o → IsNumbered (fed_rows (rows_past (last s.entries) (kept (history_of o))) s)
numbered-fed s o n m =
    let b = bound 0 s.entries in
    let t : StreamLog = record s { entries = bound_log b s.entries } in
    let low : last t.entries ≡ last s.entries = last-bound b s in
    let rows = rows_past (last s.entries) (kept (history_of o)) in
    let C : ℕ → Type 0 = λ x. CanFollow x rows in
    numbered-rows rows t (bound_numbered b s n) (subst C (sym low) (can_follow (last s.entries) o m))

-- the others may follow the row
pub copied_on : (s : StreamLog) (row : Numbered) (rows : List Numbered) → CanFollow (last s.entries) (row ∷ rows) → CanFollow (last (s.entries ++ copied_entry row ∷ [])) rows
copied_on s row rows can =
    let C : ℕ → Type 0 = λ low. CanFollow low rows in
    let end : last (s.entries ++ copied_entry row ∷ []) ≡ row.seq = omega (arith, last-push s.entries (copied_entry row), can.0) in
    subst C (sym end) can.2

-- a Bind leaves the last number
pub bound_on : (s : StreamLog) (rows : List Numbered) → CanFollow (last s.entries) rows → CanFollow (last (s.entries ++ Bind 0 1 1 ∷ [])) rows
bound_on s rows can =
    let C : ℕ → Type 0 = λ low. CanFollow low rows in
    let end : last (s.entries ++ Bind 0 1 1 ∷ []) ≡ last s.entries = omega (arith, last-push s.entries (Bind 0 1 1)) in
    subst C (sym end) can
