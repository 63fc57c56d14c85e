-- The place that a reading gives is that of the first bad line.
use Rattle.std.proofs.Common.{◌≡◌, ◌⊎◌, inl, inr, ℕ, ◌+◌, ◌≤◌, suc, List, [], ◌∷◌, ◌++◌, length, take, drop, Bool, true, false, not, cond, eqb, Option, None, Some, Result, Ok, Err, refl, sym, ap, ◌∙◌, subst, append_assoc, arith, length-append}
use Rattle.std.specs.List.{list_all}
use Rattle.std.specs.Option.{option_and_then}
use Rattle.std.proofs.lemmas.Bool.{and_parts, false≢true, ne_eqb}
use Rattle.std.proofs.lemmas.List.{append-nil}
use Rattle.nats_text.specs.declared.headers.Pair.{Pair}
use Rattle.nats_text.specs.Pieces.{pieces}
use Rattle.nats_text.specs.Headers.{HeaderBlock, no_headers, crlf, IsFirstBadLine, line_text, status_of, entry_of, is_end, with_front, read_entry, read_pairs, with_status, read_lines, read_block}
use Rattle.nats_text.proofs.Tokens.{pieces_first}
use Rattle.nats_text.proofs.Lines.{is_free, joined, joined-pieces, pieces_free, pieces-append}
use Rattle.nats_text.proofs.Reading.{read_pairs-more, read_lines-more, is_end-more}
use Rattle.nats_text.proofs.ReadsBlocks.{with_front-ok, read_block-ok, all_back}
use Rattle.nats_text.proofs.WritesBlocks.{read_block-block}

-- ---- lines

-- no LF stands in a text without one
no_lf : (text line rest : List ℕ) → is_free 10 text ≡ true → text ≡ line ++ 10 ∷ rest → ⊥
no_lf text line rest free e = false≢true (all_back (λ b. not (eqb b 10)) line (10 ∷ rest) (ap (is_free 10) (sym e) ∙ free))

first_of_line : (line other : List ℕ) (ls ms : List (List ℕ)) → line ∷ ls ≡ other ∷ ms → line ≡ other
first_of_line line other ls ms e = cc

-- two texts that are equal have one first line
same_line : (line rest other more : List ℕ) → is_free 10 line ≡ true → is_free 10 other ≡ true → line ++ 10 ∷ rest ≡ other ++ 10 ∷ more → line ≡ other
same_line line rest other more f g e =
    first_of_line line other (pieces 10 rest) (pieces 10 more) (sym (pieces-append 10 line rest f) ∙ (ap (pieces 10) e ∙ pieces-append 10 other more g))

take_line : (line rest : List ℕ) (k : ℕ) → take (length line + 1 + k) (line ++ 10 ∷ rest) ≡ line ++ 10 ∷ take k rest
take_line [] rest k = let e : 0 + 1 + k ≡ suc k = omega arith in ap (λ n. take n (10 ∷ rest)) e
take_line (b ∷ line) rest k =
    let e : length (b ∷ line) + 1 + k ≡ suc (length line + 1 + k) = omega arith in
    ap (λ n. take n (b ∷ (line ++ 10 ∷ rest))) e ∙ ap (λ xs. b ∷ xs) (take_line line rest k)

drop_line : (line rest : List ℕ) (k : ℕ) → drop (length line + 1 + k) (line ++ 10 ∷ rest) ≡ drop k rest
drop_line [] rest k = let e : 0 + 1 + k ≡ suc k = omega arith in ap (λ n. drop n (10 ∷ rest)) e
drop_line (b ∷ line) rest k =
    let e : length (b ∷ line) + 1 + k ≡ suc (length line + 1 + k) = omega arith in
    ap (λ n. drop n (b ∷ (line ++ 10 ∷ rest))) e ∙ drop_line line rest k

-- more behind a line
behind_line : (line front more : List ℕ) → (line ++ 10 ∷ front) ++ more ≡ line ++ 10 ∷ (front ++ more)
behind_line line front more = append_assoc line (10 ∷ front) more

filled : (line rest : List ℕ) → eqb (length (line ++ 10 ∷ rest)) 0 ≡ false
filled line rest = ne_eqb (length (line ++ 10 ∷ rest)) 0 (λ e. omega (arith, e, length-append line (10 ∷ rest)))

-- ---- the lines of the pairs

-- the first bad line, counted from the bytes that begin at a place
pub record BadLine (read : List ℕ → Type 0) (bytes : List ℕ) (k : ℕ) : Type 0 where
  pub within : k ≤ length bytes
  pub starts : (k ≡ 0) ⊎ ((front : List ℕ) × (take k bytes ≡ front ++ 10 ∷ []))
  pub before : (more : List ℕ) × read (take k bytes ++ more)
  pub never : (line rest more : List ℕ) → is_free 10 line ≡ true → drop k bytes ≡ line ++ 10 ∷ rest → read (take k bytes ++ (line ++ 10 ∷ more)) → ⊥

-- some pairs are read
abbrev ReadsPairs : ℕ → List ℕ → Type 0
ReadsPairs place bytes = (pairs : List Pair) × (read_pairs place (pieces 10 bytes) ≡ Ok pairs)

-- a line, and what is read behind it
read_line : (place : ℕ) (line rest : List ℕ) → is_free 10 line ≡ true → read_pairs place (pieces 10 (line ++ 10 ∷ rest)) ≡ read_entry place (place + length line + 1) (option_and_then entry_of (line_text line)) (pieces 10 rest) (read_pairs (place + length line + 1) (pieces 10 rest))
read_line place line rest free =
    ap (read_pairs place) (pieces-append 10 line rest free) ∙ read_pairs-more place (place + length line + 1) line (pieces 10 rest) (pieces_first 10 rest) refl

-- a bad line at the very place
bad_here : (place : ℕ) (line rest : List ℕ) → is_free 10 line ≡ true → option_and_then entry_of (line_text line) ≡ None → BadLine (ReadsPairs place) (line ++ 10 ∷ rest) 0
bad_here place line rest free bad = record {
  within = omega arith;
  starts = inl refl;
  before = (crlf, ([], refl));
  never = λ other more behind f e read.
      let same = same_line line rest other more free f e in
      let next = place + length line + 1 in
      let is = ap (λ l. read_pairs place (pieces 10 (l ++ 10 ∷ behind))) same in
      let failed : read_pairs place (pieces 10 (line ++ 10 ∷ behind)) ≡ Err place = read_line place line behind free ∙ ap (λ entry. read_entry place next entry (pieces 10 behind) (read_pairs next (pieces 10 behind))) bad in
      clash place read.0 (sym failed ∙ (is ∙ read.1));
}
  where
    clash : (place : ℕ) (pairs : List Pair) → ◌≡◌ {A = Result (List Pair) ℕ} (Err place) (Ok pairs) → ⊥
    clash place pairs e = cc

-- a line behind the empty one
bad_behind : (place : ℕ) (line rest : List ℕ) → is_free 10 line ≡ true → option_and_then entry_of (line_text line) ≡ Some None → BadLine (ReadsPairs place) (line ++ 10 ∷ rest) (length line + 1)
bad_behind place line rest free end =
    let next = place + length line + 1 in
    let k : length line + 1 ≡ length line + 1 + 0 = omega arith in
    let front : take (length line + 1) (line ++ 10 ∷ rest) ≡ line ++ 10 ∷ [] = ap (λ n. take n (line ++ 10 ∷ rest)) k ∙ take_line line rest 0 in
    let read : (behind : List ℕ) → read_pairs place (pieces 10 (line ++ 10 ∷ behind)) ≡ cond (is_end (pieces 10 behind)) (Ok []) (Err next) = λ behind. read_line place line behind free ∙ ap (λ entry. read_entry place next entry (pieces 10 behind) (read_pairs next (pieces 10 behind))) end in
    record {
      within = omega (arith, length-append line (10 ∷ rest));
      starts = inr (line, front);
      before = ([], ([], ap (λ xs. read_pairs place (pieces 10 (xs ++ []))) front ∙ (ap (λ xs. read_pairs place (pieces 10 xs)) (append-nil (line ++ 10 ∷ [])) ∙ read [])));
      never = λ other more behind f e found.
          let bytes : take (length line + 1) (line ++ 10 ∷ rest) ++ (other ++ 10 ∷ behind) ≡ line ++ 10 ∷ (other ++ 10 ∷ behind) = ap (λ xs. xs ++ (other ++ 10 ∷ behind)) front ∙ behind_line line [] (other ++ 10 ∷ behind) in
          let failed = read (other ++ 10 ∷ behind) ∙ ap (λ t. cond t (Ok []) (Err next)) (is_end-more (other ++ 10 ∷ behind) (filled other behind)) in
          clash next found.0 (sym failed ∙ (ap (λ xs. read_pairs place (pieces 10 xs)) (sym bytes) ∙ found.1));
    }
  where
    clash : (place : ℕ) (pairs : List Pair) → ◌≡◌ {A = Result (List Pair) ℕ} (Err place) (Ok pairs) → ⊥
    clash place pairs e = cc

-- a bad line behind one that reads as a reading of the rest does
bad_later : (read after : List ℕ → Type 0) (line rest : List ℕ) (k : ℕ) → ((more : List ℕ) → after more → read (line ++ 10 ∷ more)) → ((more : List ℕ) → read (line ++ 10 ∷ more) → after more) → BadLine after rest k → BadLine read (line ++ 10 ∷ rest) (length line + 1 + k)
bad_later read after line rest k onto back bad =
    let front : take (length line + 1 + k) (line ++ 10 ∷ rest) ≡ line ++ 10 ∷ take k rest = take_line line rest k in
    let bytes : (more : List ℕ) → take (length line + 1 + k) (line ++ 10 ∷ rest) ++ more ≡ line ++ 10 ∷ (take k rest ++ more) = λ more. ap (λ xs. xs ++ more) front ∙ behind_line line (take k rest) more in
    record {
      within = omega (arith, bad.within, length-append line (10 ∷ rest));
      starts = elim bad.starts [
        | inl e ↦ inr (line, front ∙ ap (λ n. line ++ 10 ∷ take n rest) e)
        | inr e ↦ inr (line ++ 10 ∷ e.0, front ∙ (ap (λ xs. line ++ 10 ∷ xs) e.1 ∙ sym (behind_line line e.0 (10 ∷ []))))
      ];
      before = (bad.before.0, subst read (sym (bytes bad.before.0)) (onto (take k rest ++ bad.before.0) bad.before.1));
      never = λ other more behind f e found.
          bad.never other more behind f (sym (drop_line line rest k) ∙ e) (back (take k rest ++ (other ++ 10 ∷ behind)) (subst read (bytes (other ++ 10 ∷ behind)) found));
    }

err_of_front : (pair : Pair) (read : Result (List Pair) ℕ) (place : ℕ) → with_front (pair ∷ []) read ≡ Err place → read ≡ Err place
err_of_front pair (Ok pairs) place h = cc
err_of_front pair (Err other) place h = cc

end_err : (t : Bool) (next place : ℕ) → ◌≡◌ {A = Result (List Pair) ℕ} (cond t (Ok []) (Err next)) (Err place) → place ≡ next
end_err true next place h = cc
end_err false next place h = cc

-- how far behind a place the first bad line is
pub record BadFrom (place : ℕ) (bytes : List ℕ) (bad : ℕ) : Type 0 where
  pub far : ℕ
  pub is : bad ≡ place + far
  pub line : BadLine (ReadsPairs place) bytes far

-- the bytes end early
bad_end : (place : ℕ) (line : List ℕ) → is_free 10 line ≡ true → BadLine (ReadsPairs place) line 0
bad_end place line free = record {
  within = omega arith;
  starts = inl refl;
  before = (crlf, ([], refl));
  never = λ other more behind f e found. no_lf line other more free e;
}

place_of_err : {A : Type 0} (place bad : ℕ) → ◌≡◌ {A = Result A ℕ} (Err place) (Err bad) → bad ≡ place
place_of_err place bad h = cc

bad_entry : (place : ℕ) (line rest : List ℕ) (lines : List (List ℕ)) (bad : ℕ) → is_free 10 line ≡ true → ((b : ℕ) → read_pairs (place + length line + 1) lines ≡ Err b → BadFrom (place + length line + 1) rest b) → (entry : Option (Option Pair)) → option_and_then entry_of (line_text line) ≡ entry → read_entry place (place + length line + 1) entry lines (read_pairs (place + length line + 1) lines) ≡ Err bad → BadFrom place (line ++ 10 ∷ rest) bad
bad_entry place line rest lines bad free later None e h =
    let is : bad ≡ place = place_of_err place bad h in
    record { far = 0; is = omega arith; line = bad_here place line rest free e }
bad_entry place line rest lines bad free later (Some None) e h =
    let is : bad ≡ place + length line + 1 = end_err (is_end lines) (place + length line + 1) bad h in
    record { far = length line + 1; is = omega arith; line = bad_behind place line rest free e }
bad_entry place line rest lines bad free later (Some (Some pair)) e h =
    let next = place + length line + 1 in
    let found = later bad (err_of_front pair (read_pairs next lines) bad h) in
    let read : (more : List ℕ) → read_pairs place (pieces 10 (line ++ 10 ∷ more)) ≡ with_front (pair ∷ []) (read_pairs next (pieces 10 more)) = λ more. read_line place line more free ∙ ap (λ entry. read_entry place next entry (pieces 10 more) (read_pairs next (pieces 10 more))) e in
    let is : bad ≡ place + length line + 1 + found.far = found.is in
    record {
      far = length line + 1 + found.far;
      is = omega arith;
      line = bad_later (ReadsPairs place) (ReadsPairs next) line rest found.far
          (λ more r. (pair ∷ r.0, read more ∙ ap (with_front (pair ∷ [])) r.1))
          (λ more r. let others = with_front-ok pair (read_pairs next (pieces 10 more)) r.0 (sym (read more) ∙ r.1) in (others.0, others.1))
          found.line;
    }

read_pairs-bad : (place : ℕ) (lines : List (List ℕ)) (bad : ℕ) → read_pairs place lines ≡ Err bad → list_all (is_free 10) lines ≡ true → BadFrom place (joined 10 lines) bad
read_pairs-bad place [] bad h free =
    let is : bad ≡ place = place_of_err place bad h in
    record { far = 0; is = omega arith; line = bad_end place [] refl }
read_pairs-bad place (line ∷ []) bad h free =
    let is : bad ≡ place = place_of_err place bad h in
    record { far = 0; is = omega arith; line = bad_end place line (and_parts (is_free 10 line) true free).0 }
read_pairs-bad place (line ∷ other ∷ lines) bad h free =
    let parts = and_parts (is_free 10 line) (list_all (is_free 10) (other ∷ lines)) free in
    bad_entry place line (joined 10 (other ∷ lines)) (other ∷ lines) bad parts.0
    (λ b g. read_pairs-bad (place + length line + 1) (other ∷ lines) b g parts.1)
    (option_and_then entry_of (line_text line)) refl h

-- ---- the block

-- some headers are read
abbrev ReadsBlock : List ℕ → Type 0
ReadsBlock bytes = (block : HeaderBlock) × (read_block bytes ≡ Ok block)

read_first : (line rest : List ℕ) → is_free 10 line ≡ true → read_block (line ++ 10 ∷ rest) ≡ with_status (option_and_then status_of (line_text line)) (read_pairs (length line + 1) (pieces 10 rest))
read_first [] rest free = ap read_lines (pieces-append 10 [] rest free) ∙ read_lines-more [] (pieces 10 rest) (pieces_first 10 rest)
read_first (b ∷ line) rest free = ap read_lines (pieces-append 10 (b ∷ line) rest free) ∙ read_lines-more (b ∷ line) (pieces 10 rest) (pieces_first 10 rest)

bad_first_end : (bytes : List ℕ) → is_free 10 bytes ≡ true → BadLine ReadsBlock bytes 0
bad_first_end bytes free = record {
  within = omega arith;
  starts = inl refl;
  before = ([], (no_headers, refl));
  never = λ other more behind f e found. no_lf bytes other more free e;
}

bad_first_here : (line rest : List ℕ) → is_free 10 line ≡ true → option_and_then status_of (line_text line) ≡ None → BadLine ReadsBlock (line ++ 10 ∷ rest) 0
bad_first_here line rest free bad = record {
  within = omega arith;
  starts = inl refl;
  before = ([], (no_headers, refl));
  never = λ other more behind f e found.
      let same = same_line line rest other more free f e in
      let failed : read_block (line ++ 10 ∷ behind) ≡ Err 0 = read_first line behind free ∙ ap (λ entry. with_status entry (read_pairs (length line + 1) (pieces 10 behind))) bad in
      clash found.0 (sym failed ∙ (ap (λ l. read_block (l ++ 10 ∷ behind)) same ∙ found.1));
}
  where
    clash : (block : HeaderBlock) → ◌≡◌ {A = Result HeaderBlock ℕ} (Err 0) (Ok block) → ⊥
    clash block e = cc

err_of_status : (status : Option (List ℕ)) (read : Result (List Pair) ℕ) (place : ℕ) → with_status (Some status) read ≡ Err place → read ≡ Err place
err_of_status status (Ok pairs) place h = cc
err_of_status status (Err other) place h = cc

ok_of_status : (status : Option (List ℕ)) (read : Result (List Pair) ℕ) (block : HeaderBlock) → with_status (Some status) read ≡ Ok block → (pairs : List Pair) × (read ≡ Ok pairs)
ok_of_status status (Ok pairs) block h = (pairs, refl)
ok_of_status status (Err other) block h = cc

bad_first : (line : List ℕ) (lines : List (List ℕ)) (bad : ℕ) → is_free 10 line ≡ true → list_all (is_free 10) lines ≡ true → (entry : Option (Option (List ℕ))) → option_and_then status_of (line_text line) ≡ entry → with_status entry (read_pairs (length line + 1) lines) ≡ Err bad → BadLine ReadsBlock (line ++ 10 ∷ joined 10 lines) bad
bad_first line lines bad free others None e h =
    subst (BadLine ReadsBlock (line ++ 10 ∷ joined 10 lines)) (sym (place_of_err 0 bad h)) (bad_first_here line (joined 10 lines) free e)
bad_first line lines bad free others (Some status) e h =
    let place = length line + 1 in
    let found = read_pairs-bad place lines bad (err_of_status status (read_pairs place lines) bad h) others in
    let read : (more : List ℕ) → read_block (line ++ 10 ∷ more) ≡ with_status (Some status) (read_pairs place (pieces 10 more)) = λ more. read_first line more free ∙ ap (λ entry. with_status entry (read_pairs place (pieces 10 more))) e in
    subst (BadLine ReadsBlock (line ++ 10 ∷ joined 10 lines)) (sym found.is)
    (bad_later ReadsBlock (ReadsPairs place) line (joined 10 lines) found.far
    (λ more r. (record { status = status; pairs = r.0 }, read more ∙ ap (with_status (Some status)) r.1))
    (λ more r. ok_of_status status (read_pairs place (pieces 10 more)) r.0 (sym (read more) ∙ r.1))
    found.line)

read_lines-bad : (lines : List (List ℕ)) (bad : ℕ) → read_lines lines ≡ Err bad → list_all (is_free 10) lines ≡ true → BadLine ReadsBlock (joined 10 lines) bad
read_lines-bad [] bad h free = subst (BadLine ReadsBlock []) (sym (place_of_err 0 bad h)) (bad_first_end [] refl)
read_lines-bad (line ∷ []) bad h free = subst (BadLine ReadsBlock line) (sym (place_of_err 0 bad h)) (bad_first_end line (and_parts (is_free 10 line) true free).0)
read_lines-bad (line ∷ other ∷ lines) bad h free =
    let parts = and_parts (is_free 10 line) (list_all (is_free 10) (other ∷ lines)) free in
    bad_first line (other ∷ lines) bad parts.0 parts.1 (option_and_then status_of (line_text line)) refl h

block_bad : (bytes : List ℕ) (bad : ℕ) → read_block bytes ≡ Err bad → BadLine ReadsBlock bytes bad
block_bad [] bad h = cc
block_bad (b ∷ bs) bad h =
    let P : List ℕ → Type 0 = λ bytes. BadLine ReadsBlock bytes bad in
    subst P (joined-pieces 10 (b ∷ bs)) (read_lines-bad (pieces 10 (b ∷ bs)) bad h (pieces_free 10 (b ∷ bs)))

pub read_block-bad : (bytes : List ℕ) (place : ℕ) → read_block bytes ≡ Err place → IsFirstBadLine bytes place
read_block-bad bytes place h =
    let bad = block_bad bytes place h in
    let front = take place bytes in
    record {
      within = bad.within;
      starts = bad.starts;
      before = (bad.before.0, bad.before.1.0, read_block-ok (front ++ bad.before.0) bad.before.1.0 bad.before.1.1);
      never = λ line rest free e found.
          let regrouped : front ++ line ++ 10 ∷ [] ++ found.0 ≡ front ++ (line ++ 10 ∷ found.0) = append_assoc (front ++ line) (10 ∷ []) found.0 ∙ append_assoc front line (10 ∷ found.0) in
          bad.never line rest found.0 free e (found.1, ap read_block (sym regrouped) ∙ read_block-block (front ++ line ++ 10 ∷ [] ++ found.0) found.1 found.2);
    }
