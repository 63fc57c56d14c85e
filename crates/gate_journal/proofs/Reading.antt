-- What the reads of a load find.
use Rattle.std.proofs.Common.{◌≡◌, true, false, ℕ, ◌+◌, ◌≤◌, ◌<◌, List, [], ◌∷◌, ◌++◌, length, get_or, take, drop, refl, sym, ◌∙◌, ap, arith, append_assoc, take-append-drop, take_all}
use Rattle.std.specs.Prelude.{Bool, not}
use Rattle.std.specs.Int.{w32, w64, to_le_bytes}
use Rattle.std.proofs.lemmas.List.{drop_at, drop_more, drop-drop, get_or-drop, get_or-take, length-take-le, length-drop}
use Rattle.gate_journal.specs.Areas.{head, magic, block, blocks}
use Rattle.gate_journal.proofs.Blocks.{blocks-push}

pub not_other : (b : Bool) → not b ≡ false → true ≡ b
not_other true e = refl
not_other false e = e

-- the head in the first 17 bytes
pub head_read : (s h stamp : List ℕ) (n : ℕ) → h ≡ take 17 s → 18 ≤ length s → take 8 h ≡ magic → stamp ≡ take 8 (drop 9 h) → to_le_bytes w64 n ≡ stamp → s ≡ head (get_or h 8 0) n ++ drop 17 s
head_read s h stamp n is long begins last read =
    let size : length h ≡ 17 = rw is (length-take-le 17 s (omega (arith, long))) in
    let number : to_le_bytes w64 n ≡ drop 9 h = read ∙ last ∙ take_all 8 (drop 9 h) (omega (arith, length-drop 9 h, size)) in
    let tail : drop 8 h ≡ get_or h 8 0 ∷ to_le_bytes w64 n = drop_more h 8 0 (omega (arith, size)) ∙ ap (λ (l : List ℕ). get_or h 8 0 ∷ l) (sym number) in
    let whole : h ≡ head (get_or h 8 0) n = sym (take-append-drop 8 h) ∙ ap (λ (l : List ℕ). l ++ drop 8 h) begins ∙ ap (λ (l : List ℕ). magic ++ l) tail in
    sym (take-append-drop 17 s) ∙ ap (λ (l : List ℕ). l ++ drop 17 s) (sym is ∙ whole)

-- the length in 4 bytes, and the body after it
pub record_read : (c four body : List ℕ) (n : ℕ) → four ≡ take 4 c → to_le_bytes w32 n ≡ four → body ≡ take n (drop 4 c) → length body ≡ n → c ≡ to_le_bytes w32 (length body) ++ body ++ drop n (drop 4 c)
record_read c four body n is read same long =
    let number : to_le_bytes w32 (length body) ≡ take 4 c = ap (to_le_bytes w32) long ∙ read ∙ is in
    sym (take-append-drop 4 c) ∙ ap (λ (l : List ℕ). l ++ drop 4 c) (sym number)
    ∙ ap (λ (l : List ℕ). to_le_bytes w32 (length body) ++ l) (sym (take-append-drop n (drop 4 c)) ∙ ap (λ (l : List ℕ). l ++ drop n (drop 4 c)) (sym same))
    ∙ sym (append_assoc (to_le_bytes w32 (length body)) body (drop n (drop 4 c)))

-- the gate that was read stands before the rest
pub gate_read : (s t one : List ℕ) (place : ℕ) → t ≡ s → place < length s → one ≡ take 1 (drop place s) → get_or one 0 0 ≡ 1 → drop place s ≡ 1 ∷ drop (place + 1) t
gate_read s t one place same within is gate =
    let here : get_or s place 0 ≡ 1 = sym (get_or-drop place s 0 0 ∙ ap (λ (k : ℕ). get_or s k 0) (omega arith)) ∙ sym (get_or-take 1 (drop place s) 0 0 (omega arith)) ∙ ap (λ (l : List ℕ). get_or l 0 0) (sym is) ∙ gate in
    drop_more s place 0 within ∙ ap (λ (k : ℕ). k ∷ drop (place + 1) s) here ∙ ap (λ (l : List ℕ). 1 ∷ drop (place + 1) l) (sym same)

-- one record more stands behind the head
pub walk_on : (s t rest body : List ℕ) (bs : List (List ℕ)) (place : ℕ) → t ≡ s → drop 17 s ≡ blocks bs ++ drop place s → drop place t ≡ block body ++ rest → drop 17 s ≡ blocks (bs ++ body ∷ []) ++ drop (place + (5 + length body)) s
walk_on s t rest body bs place same so_far is =
    let here : drop place s ≡ block body ++ rest = ap (drop place) (sym same) ∙ is in
    let past : rest ≡ drop (place + (5 + length body)) s = sym (drop_at (block body) rest (5 + length body) (omega arith)) ∙ ap (drop (5 + length body)) (sym here) ∙ drop-drop (5 + length body) place s in
    so_far ∙ ap (λ (l : List ℕ). blocks bs ++ l) (here ∙ ap (λ (l : List ℕ). block body ++ l) past)
    ∙ sym (append_assoc (blocks bs) (block body) (drop (place + (5 + length body)) s))
    ∙ ap (λ (l : List ℕ). l ++ drop (place + (5 + length body)) s) (sym (blocks-push bs body))
