-- The rows past a number, which are a back of the rows where the numbers rise.
use Rattle.std.proofs.Common.{◌≡◌, ℕ, zero, suc, ◌<◌, ◌≤◌, List, [], ◌∷◌, length, drop, get_or, true, false, cond, ltb, leb, Some, refl, sym, ap, ◌∙◌, arith}
use Rattle.std.specs.List.Sorted.{IsNonDecreasingBy}
use Rattle.std.proofs.lemmas.Bool.{leb-true, leb-false, lt-ltb, le-ltb}
use Rattle.nats_text.specs.declared.origin.Origin.{Origin}
use Rattle.stream_fold.specs.declared.entry.Numbered.{Numbered}
use Rattle.stream_fold.specs.Histories.{kept}
use Rattle.stream_fold.proofs.KeptRows.{Rises, seqs, kept-rises}
use Rattle.leafd_cli.specs.Logs.{StreamLog, history_of}
use Rattle.leafd_cli.specs.Legal.{origin_among}
use Rattle.leafd_cli.specs.Plain.{rows_past}
use Rattle.leafd_cli.specs.Keeping.{AllNumbered}
use Rattle.leafd_cli.proofs.Steps.{origin_numbered}

rises_at : (low : ℕ) (rows : List Numbered) (k : ℕ) (d : Numbered) → Rises low (seqs rows) → k < length rows → low ≤ (get_or rows k d).seq
rises_at low [] k d rise h = absurd (omega (arith, h))
rises_at low (r ∷ rows) zero d rise h = rise.0
rises_at low (r ∷ rows) (suc k) d rise h = omega (arith, rises_at (suc r.seq) rows k d rise.1 (omega (arith, h)), rise.0)

never_falls : (low : ℕ) (rows : List Numbered) → Rises low (seqs rows) → IsNonDecreasingBy (λ (r : Numbered). r.seq) rows
never_falls low [] rise i j d le h = absurd (omega (arith, h))
never_falls low (r ∷ rows) rise zero zero d le h = omega arith
never_falls low (r ∷ rows) rise zero (suc j) d le h = omega (arith, rises_at (suc r.seq) rows j d rise.1 (omega (arith, h)))
never_falls low (r ∷ rows) rise (suc i) zero d le h = absurd (omega (arith, le))
never_falls low (r ∷ rows) rise (suc i) (suc j) d le h = never_falls (suc r.seq) rows rise.1 i j d (omega (arith, le)) (omega (arith, h))

-- the numbers of what an origin keeps never fall
pub origin_rows : (want : Origin) (streams : List StreamLog) (o : StreamLog) → AllNumbered streams → origin_among want streams ≡ Some o → IsNonDecreasingBy (λ (r : Numbered). r.seq) (kept (history_of o))
origin_rows want streams o n e = never_falls 0 (kept (history_of o)) (kept-rises (history_of o) (origin_numbered want.node want.stream streams o n e).rising)

-- the rows from a place on are those past a number, where those before it are not past it and those from it on are
pub past_from : (number : ℕ) (rows : List Numbered) (i : ℕ) → ((k : ℕ) (d : Numbered) → k < i → leb (get_or rows k d).seq number ≡ true) → ((k : ℕ) (d : Numbered) → i ≤ k → k < length rows → leb (get_or rows k d).seq number ≡ false) → drop i rows ≡ rows_past number rows
past_from number [] zero before behind = refl
past_from number [] (suc i) before behind = refl
past_from number (r ∷ rows) zero before behind =
    let over : ltb number r.seq ≡ true = lt-ltb number r.seq (omega (arith, leb-false r.seq number (behind 0 r (omega arith) (omega arith)))) in
    let rest : rows ≡ rows_past number rows = past_from number rows zero (λ k d h. absurd (omega (arith, h))) (λ k d le h. behind (suc k) d (omega arith) (omega (arith, h))) in
    ap (λ xs. r ∷ xs) rest ∙ sym (ap (λ b. cond b (r ∷ rows_past number rows) (rows_past number rows)) over)
past_from number (r ∷ rows) (suc i) before behind =
    let under : ltb number r.seq ≡ false = le-ltb number r.seq (leb-true r.seq number (before 0 r (omega arith))) in
    let rest : drop i rows ≡ rows_past number rows = past_from number rows i (λ k d h. before (suc k) d (omega (arith, h))) (λ k d le h. behind (suc k) d (omega (arith, le)) (omega (arith, h))) in
    rest ∙ sym (ap (λ b. cond b (r ∷ rows_past number rows) (rows_past number rows)) under)
