-- The lines of a block, one at a time.
use Rattle.std.proofs.Common.{◌≡◌, ℕ, ◌+◌, ◌-◌, List, [], ◌∷◌, ◌++◌, length, Bool, true, false, cond, eqb, Option, None, Some, Result, Ok, Err, refl, sym, ap, ◌∙◌, subst, append_assoc, arith}
use Rattle.std.proofs.lemmas.Bool.{true≢false}
use Rattle.std.specs.Borrow.{Bor}
use Rattle.std.specs.Option.{option_map, option_copied, option_and_then, is_some}
use Rattle.std.specs.Result.{IfOk, is_ok, result_err}
use Rattle.nats_text.specs.declared.headers.Pair.{Pair}
use Rattle.nats_text.specs.Pieces.{onto_first, pieces}
use Rattle.nats_text.specs.declared.fault.TextFault.{TextFault}
use Rattle.nats_text.specs.declared.fault.TextFault.TheVariants.{Bad, NoMemory}
use Rattle.nats_text.specs.Headers.{HeaderBlock, line_text, status_of, entry_of, is_end, with_front, read_entry, read_pairs, with_status, read_lines, read_block, pair_view, Reads}
use Rattle.nats_text.proofs.Tokens.{HasFirst, pieces_first}
use Rattle.nats_text.proofs.Lines.{length-cut}

-- what the lines give from a place on
pub read_pairs-more : (place next : ℕ) (line : List ℕ) (lines : List (List ℕ)) → HasFirst lines → place + length line + 1 ≡ next → read_pairs place (line ∷ lines) ≡ read_entry place next (option_and_then entry_of (line_text line)) lines (read_pairs next lines)
read_pairs-more place next line lines h e = rw (h.is, e) refl

pub read_pairs-cut : (place : ℕ) (rest line behind : List ℕ) → pieces 10 rest ≡ line ∷ pieces 10 behind → read_pairs place (pieces 10 rest) ≡ read_entry place (place + (length rest - length behind)) (option_and_then entry_of (line_text line)) (pieces 10 behind) (read_pairs (place + (length rest - length behind)) (pieces 10 behind))
read_pairs-cut place rest line behind e =
    ap (read_pairs place) e ∙ read_pairs-more place (place + (length rest - length behind)) line (pieces 10 behind) (pieces_first 10 behind) (omega (arith, length-cut 10 rest line behind e))

pub with_front-push : (front : List Pair) (pair : Pair) (read : Result (List Pair) ℕ) → with_front (front ++ pair ∷ []) read ≡ with_front front (with_front (pair ∷ []) read)
with_front-push front pair (Ok pairs) = ap (λ ps. Ok ps) (append_assoc front (pair ∷ []) pairs)
with_front-push front pair (Err place) = refl

not_end : (lines : List (List ℕ)) → HasFirst lines → is_end ([] ∷ lines) ≡ false
not_end lines h = rw h.is

filled_end : (b : ℕ) (lines : List (List ℕ)) → is_end (onto_first b lines) ≡ false
filled_end b [] = refl
filled_end b (line ∷ lines) = refl

pub is_end-more : (rest : List ℕ) → eqb (length rest) 0 ≡ false → is_end (pieces 10 rest) ≡ false
is_end-more [] h = absurd (true≢false h)
is_end-more (b ∷ bs) h =
    let P : Bool → Type 0 = λ t. is_end (cond t ([] ∷ pieces 10 bs) (onto_first b (pieces 10 bs))) ≡ false in
    let go : (t : Bool) → P t = λ t. elim t as P [ true ↦ not_end (pieces 10 bs) (pieces_first 10 bs) | false ↦ filled_end b (pieces 10 bs) ] in
    go (eqb b 10)

-- the first line, and the lines behind it
pub read_lines-more : (line : List ℕ) (lines : List (List ℕ)) → HasFirst lines → read_lines (line ∷ lines) ≡ with_status (option_and_then status_of (line_text line)) (read_pairs (length line + 1) lines)
read_lines-more line lines h = rw h.is refl

pub read_block-cut : (bytes line rest : List ℕ) → eqb (length bytes) 0 ≡ false → pieces 10 bytes ≡ line ∷ pieces 10 rest → read_block bytes ≡ with_status (option_and_then status_of (line_text line)) (read_pairs (length bytes - length rest) (pieces 10 rest))
read_block-cut [] line rest h e = absurd (true≢false h)
read_block-cut (b ∷ bs) line rest h e =
    let n : length line + 1 ≡ length (b ∷ bs) - length rest = omega (arith, length-cut 10 (b ∷ bs) line rest e) in
    ap read_lines e ∙ (read_lines-more line (pieces 10 rest) (pieces_first 10 rest) ∙ ap (λ k. with_status (option_and_then status_of (line_text line)) (read_pairs k (pieces 10 rest))) n)

-- a fault among the pairs is one of the block
pub fault_of_pairs : {T S : Type 0} (see : T → List Pair) (view : S → HeaderBlock) (fault : TextFault) (status : Option (List ℕ)) (read : Result (List Pair) ℕ) (block : Result HeaderBlock ℕ) → block ≡ with_status (Some status) read → Reads see (Err fault) read → Reads view (Err fault) block
fault_of_pairs see view (Bad place) status read block e h = e ∙ ap (with_status (Some status)) h
fault_of_pairs see view NoMemory status read block e h = tt

pub reads_ok : {T : Type 0} (r : Result T TextFault) (read : Result T ℕ) (P : T → Type 0) → Reads (λ x. x) r read → ((x : T) → read ≡ Ok x → P x) → IfOk r P
reads_ok (Ok x) read P h f = f x h
reads_ok (Err e) read P h f = tt

pub reads_only : {T : Type 0} (r : Result T TextFault) (read : Result T ℕ) (x : T) → Reads (λ y. y) r read → read ≡ Ok x → Reads (λ y. y) r (Ok x)
reads_only r read x h e = subst (λ q. Reads (λ y. y) r q) e h

pub reads_bad : {T : Type 0} (r : Result T TextFault) (read : Result T ℕ) (place : ℕ) → Reads (λ y. y) r read → r ≡ Err (Bad place) → read ≡ Err place
reads_bad {T} r read place h e = let P : Result T TextFault → Type 0 = λ q. Reads (λ y. y) q read in subst P e h

pub reads_legal : {T : Type 0} (read : Result T ℕ) (P : T → Type 0) → is_ok read ≡ true → ((x : T) → read ≡ Ok x → P x) → (x : T) × P x
reads_legal (Ok x) P h f = (x, f x refl)
reads_legal (Err place) P h f = absurd (true≢false (sym h))

-- ---- the first bad line alone

with_front-err : (front : List Pair) (read : Result (List Pair) ℕ) → result_err (with_front front read) ≡ result_err read
with_front-err front (Ok pairs) = refl
with_front-err front (Err place) = refl

pub bad_behind_pair : (place next : ℕ) (entry : Option (Bor (List ℕ) × Bor (List ℕ))) (lines : List (List ℕ)) (read : Result (List Pair) ℕ) → is_some entry ≡ true
    → result_err (read_entry place next (Some (option_map pair_view entry)) lines read) ≡ result_err read
bad_behind_pair place next None lines read h = absurd (true≢false (sym h))
bad_behind_pair place next (Some p) lines read h = with_front-err (pair_view p ∷ []) read

pub bad_behind_end : (place next : ℕ) (entry : Option (Bor (List ℕ) × Bor (List ℕ))) (lines : List (List ℕ)) (read : Result (List Pair) ℕ) → is_some entry ≡ false → is_end lines ≡ false
    → result_err (read_entry place next (Some (option_map pair_view entry)) lines read) ≡ Some next
bad_behind_end place next None lines read h more = rw more refl
bad_behind_end place next (Some p) lines read h more = absurd (true≢false h)

pub bad_behind_status : (status : Option (Option (Bor (List ℕ)))) (read : Result (List Pair) ℕ) → is_some status ≡ true → result_err (with_status (option_map option_copied status) read) ≡ result_err read
bad_behind_status None read h = absurd (true≢false (sym h))
bad_behind_status (Some status) (Ok pairs) h = refl
bad_behind_status (Some status) (Err place) h = refl
