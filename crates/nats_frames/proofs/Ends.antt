-- Where the first line of a stream ends.
use Rattle.std.proofs.Common.{◌≡◌, ℕ, zero, suc, ◌+◌, ◌-◌, ◌<◌, ◌≤◌, ◌==◌, List, [], ◌∷◌, ◌++◌, length, get_or, take, Bool, true, false, ◌&&◌, not, cond, nat_lt, Option, None, Some, inl, inr, refl, sym, ap, ◌∙◌, arith, length-append}
use Rattle.std.specs.Prelude.{◌⊎◌}
use Rattle.std.specs.List.{position_from}
use Rattle.std.proofs.lemmas.Bool.{cond-true, cond-false, and_parts, and_from, ltb-true, ltb-false, lt-ltb, le-ltb, eq-eqb, not-true}
use Rattle.std.proofs.Math.Seq.{get_or-append_seam}
use Rattle.std.proofs.lemmas.List.{get_or_append_left}
use Rattle.std.proofs.lemmas.Option.{none-some, same_Some}
use Rattle.nats_frames.specs.declared.fault.FrameText.TheVariants.{ParserError, ControlLine}
use Rattle.nats_frames.specs.declared.line.LineEnd.TheVariants.{Missing, At, Bad}
use Rattle.nats_frames.specs.Lines.{is_feed, has_no_feed, ending, ending_at, line_end, IsEndWithin}

-- ---- the first LF

-- it is within the bytes, and stays the first one when more bytes come
abbrev pub Found : ℕ → List ℕ → ℕ → Type 0
Found n bytes at = (n ≤ at) × (at < n + length bytes) × ((behind : List ℕ) → position_from is_feed n (bytes ++ behind) ≡ Some at)

pub found : (n : ℕ) (bytes : List ℕ) (at : ℕ) → position_from is_feed n bytes ≡ Some at → Found n bytes at
found n [] at h = absurd (none-some at h)
found n (b ∷ bs) at h =
    let P : Bool → Type 0 = λ t. cond t (Some n) (position_from is_feed (n + 1) bs) ≡ Some at → (n ≤ at) × (at < n + length (b ∷ bs)) × ((behind : List ℕ) → cond t (Some n) (position_from is_feed (n + 1) (bs ++ behind)) ≡ Some at) in
    let go : (t : Bool) → P t = λ t. elim t as P [
      | true ↦ (λ e. let s : n ≡ at = same_Some n at e in (omega arith, omega arith, λ behind. e))
      | false ↦ (λ e. let f : Found (n + 1) bs at = found (n + 1) bs at e in (omega (arith, f.0), omega (arith, f.1), f.2))
    ] in
    go (is_feed b) h

-- no LF stands before it
pub before : (n : ℕ) (bytes : List ℕ) (at k : ℕ) → position_from is_feed n bytes ≡ Some at → n + k ≤ at → has_no_feed (take k bytes) ≡ true
before n bytes at zero h le = refl
before n [] at (suc k) h le = refl
before n (b ∷ bs) at (suc k) h le =
    let P : Bool → Type 0 = λ t. cond t (Some n) (position_from is_feed (n + 1) bs) ≡ Some at → (not t && has_no_feed (take k bs)) ≡ true in
    let go : (t : Bool) → P t = λ t. elim t as P [
      | true ↦ (λ e. let s : n ≡ at = same_Some n at e in absurd (omega arith))
      | false ↦ (λ e. before (n + 1) bs at k e (omega arith))
    ] in
    go (is_feed b) h

-- where there is none, the first one is looked for in what comes
pub none_yet : (n : ℕ) (bytes behind : List ℕ) → position_from is_feed n bytes ≡ None → position_from is_feed n (bytes ++ behind) ≡ position_from is_feed (n + length bytes) behind
none_yet n [] behind h = ap (λ k. position_from is_feed k behind) (omega arith)
none_yet n (b ∷ bs) behind h =
    let P : Bool → Type 0 = λ t. cond t (Some n) (position_from is_feed (n + 1) bs) ≡ None → cond t (Some n) (position_from is_feed (n + 1) (bs ++ behind)) ≡ position_from is_feed (n + length (b ∷ bs)) behind in
    let go : (t : Bool) → P t = λ t. elim t as P [
      | true ↦ (λ e. absurd (none-some n (sym e)))
      | false ↦ (λ e. none_yet (n + 1) bs behind e ∙ ap (λ k. position_from is_feed k behind) (omega arith))
    ] in
    go (is_feed b) h

-- bytes without an LF before those that are looked through
pub skipped : (n : ℕ) (bytes behind : List ℕ) → has_no_feed bytes ≡ true → position_from is_feed n (bytes ++ behind) ≡ position_from is_feed (n + length bytes) behind
skipped n [] behind h = ap (λ k. position_from is_feed k behind) (omega arith)
skipped n (b ∷ bs) behind h =
    let p = and_parts (not (is_feed b)) (has_no_feed bs) h in
    cond-false (is_feed b) (Some n) (position_from is_feed (n + 1) (bs ++ behind)) (not-true (is_feed b) p.0)
    ∙ (skipped (n + 1) bs behind p.1 ∙ ap (λ k. position_from is_feed k behind) (omega arith))

-- a place is shifted
pub shifted : (n m : ℕ) (bytes : List ℕ) (at : ℕ) → position_from is_feed n bytes ≡ Some (n + at) → position_from is_feed (m + n) bytes ≡ Some (m + n + at)
shifted n m [] at h = absurd (none-some (n + at) h)
shifted n m (b ∷ bs) zero h =
    let P : Bool → Type 0 = λ t. cond t (Some n) (position_from is_feed (n + 1) bs) ≡ Some (n + 0) → cond t (Some (m + n)) (position_from is_feed (m + n + 1) bs) ≡ Some (m + n + 0) in
    let go : (t : Bool) → P t = λ t. elim t as P [
      | true ↦ (λ e. ap (λ k. Some k) (omega arith))
      | false ↦ (λ e. let f : Found (n + 1) bs (n + 0) = found (n + 1) bs (n + 0) e in absurd (omega (arith, f.0)))
    ] in
    go (is_feed b) h
shifted n m (b ∷ bs) (suc at) h =
    let P : Bool → Type 0 = λ t. cond t (Some n) (position_from is_feed (n + 1) bs) ≡ Some (n + suc at) → cond t (Some (m + n)) (position_from is_feed (m + n + 1) bs) ≡ Some (m + n + suc at) in
    let go : (t : Bool) → P t = λ t. elim t as P [
      | true ↦ (λ e. let s : n ≡ n + suc at = same_Some n (n + suc at) e in absurd (omega arith))
      | false ↦ (λ e.
          let one : n + suc at ≡ n + 1 + at = omega arith in
          let i = shifted (n + 1) m bs at (e ∙ ap (λ k. Some k) one) in
          let two : m + (n + 1) ≡ m + n + 1 = omega arith in
          let three : m + (n + 1) + at ≡ m + n + suc at = omega arith in
          ap (λ k. position_from is_feed k bs) (sym two) ∙ (i ∙ ap (λ k. Some k) three))
    ] in
    go (is_feed b) h

-- ---- the end

pub ending_within : (most : ℕ) (bytes : List ℕ) (at : ℕ) → at < length bytes → IsEndWithin most (length bytes) (ending most bytes at)
ending_within most bytes at lt =
    let last : Bool = nat_lt 0 at && get_or bytes (at - 1) 0 == 13 in
    let Q : Bool → Type 0 = λ t. last ≡ t → at ≤ most + 1 → IsEndWithin most (length bytes) (cond t (At (at - 1)) (Bad ParserError)) in
    let inner : (t : Bool) → Q t = λ t. elim t as Q [
      | true ↦ (λ e le. let some : 0 < at = ltb-true 0 at (and_parts (nat_lt 0 at) (get_or bytes (at - 1) 0 == 13) e).0 in (omega arith, omega arith))
      | false ↦ (λ e le. tt)
    ] in
    let P : Bool → Type 0 = λ t. nat_lt (most + 1) at ≡ t → IsEndWithin most (length bytes) (cond t (Bad ControlLine) (cond last (At (at - 1)) (Bad ParserError))) in
    let go : (t : Bool) → P t = λ t. elim t as P [
      | true ↦ (λ e. tt)
      | false ↦ (λ e. inner last refl (ltb-false (most + 1) at e))
    ] in
    go (nat_lt (most + 1) at) refl

none_within : (most : ℕ) (bytes : List ℕ) → IsEndWithin most (length bytes) (ending_at most bytes None)
none_within most bytes =
    let P : Bool → Type 0 = λ t. nat_lt (most + 1) (length bytes) ≡ t → IsEndWithin most (length bytes) (cond t (Bad ControlLine) Missing) in
    let go : (t : Bool) → P t = λ t. elim t as P [
      | true ↦ (λ e. tt)
      | false ↦ (λ e. ltb-false (most + 1) (length bytes) e)
    ] in
    go (nat_lt (most + 1) (length bytes)) refl

at_within : (most : ℕ) (bytes : List ℕ) (o : Option ℕ) → position_from is_feed 0 bytes ≡ o → IsEndWithin most (length bytes) (ending_at most bytes o)
at_within most bytes None h = none_within most bytes
at_within most bytes (Some at) h = let f : Found 0 bytes at = found 0 bytes at h in ending_within most bytes at (omega (arith, f.1))

pub end_within : (most : ℕ) (bytes : List ℕ) → IsEndWithin most (length bytes) (line_end most bytes)
end_within most bytes = at_within most bytes (position_from is_feed 0 bytes) refl

ending_stays : (most : ℕ) (bytes behind : List ℕ) (at : ℕ) → at < length bytes → ending most (bytes ++ behind) at ≡ ending most bytes at
ending_stays most bytes behind at lt =
    let lower : at - 1 < length bytes = omega arith in
    ap (λ x. cond (nat_lt (most + 1) at) (Bad ControlLine) (cond (nat_lt 0 at && x == 13) (At (at - 1)) (Bad ParserError))) (get_or_append_left bytes behind 0 (at - 1) lower)

too_long : (most : ℕ) (bytes : List ℕ) (o : Option ℕ) → most + 1 < length bytes → ((at : ℕ) → o ≡ Some at → most + 1 < at) → ending_at most bytes o ≡ Bad ControlLine
too_long most bytes None long far = cond-true (nat_lt (most + 1) (length bytes)) (Bad ControlLine) Missing (lt-ltb (most + 1) (length bytes) long)
too_long most bytes (Some at) long far =
    cond-true (nat_lt (most + 1) at) (Bad ControlLine) (cond (nat_lt 0 at && get_or bytes (at - 1) 0 == 13) (At (at - 1)) (Bad ParserError)) (lt-ltb (most + 1) at (far at refl))

long_stays : (most : ℕ) (bytes behind : List ℕ) → position_from is_feed 0 bytes ≡ None → most + 1 < length bytes → line_end most (bytes ++ behind) ≡ line_end most bytes
long_stays most bytes behind h long =
    let e : length (bytes ++ behind) ≡ length bytes + length behind = length-append bytes behind in
    let later = too_long most (bytes ++ behind) (position_from is_feed 0 (bytes ++ behind)) (omega arith) (λ at is.
    let f : Found (0 + length bytes) behind at = found (0 + length bytes) behind at (sym (none_yet 0 bytes behind h) ∙ is) in
    omega (arith, f.0, long)) in
    let now = too_long most bytes (position_from is_feed 0 bytes) long (λ at is. absurd (none-some at (sym h ∙ is))) in
    later ∙ sym now

missing_or_long : (most : ℕ) (bytes behind : List ℕ) → position_from is_feed 0 bytes ≡ None → (line_end most bytes ≡ Missing) ⊎ (line_end most (bytes ++ behind) ≡ line_end most bytes)
missing_or_long most bytes behind h =
    let P : Bool → Type 0 = λ t. nat_lt (most + 1) (length bytes) ≡ t → (line_end most bytes ≡ Missing) ⊎ (line_end most (bytes ++ behind) ≡ line_end most bytes) in
    let go : (t : Bool) → P t = λ t. elim t as P [
      | true ↦ (λ e. inr (long_stays most bytes behind h (ltb-true (most + 1) (length bytes) e)))
      | false ↦ (λ e. inl (ap (ending_at most bytes) h ∙ cond-false (nat_lt (most + 1) (length bytes)) (Bad ControlLine) Missing e))
    ] in
    go (nat_lt (most + 1) (length bytes)) refl

stays_at : (most : ℕ) (bytes behind : List ℕ) (o : Option ℕ) → position_from is_feed 0 bytes ≡ o → (line_end most bytes ≡ Missing) ⊎ (line_end most (bytes ++ behind) ≡ line_end most bytes)
stays_at most bytes behind None h = missing_or_long most bytes behind h
stays_at most bytes behind (Some at) h =
    let f : Found 0 bytes at = found 0 bytes at h in
    inr (ap (ending_at most (bytes ++ behind)) (f.2 behind) ∙ (ending_stays most bytes behind at (omega (arith, f.1)) ∙ ap (ending_at most bytes) (sym h)))

-- an end stays when more bytes come, unless it is missing
pub end_stays : (most : ℕ) (bytes behind : List ℕ) → (line_end most bytes ≡ Missing) ⊎ (line_end most (bytes ++ behind) ≡ line_end most bytes)
end_stays most bytes behind = stays_at most bytes behind (position_from is_feed 0 bytes) refl

-- ---- the end of a line that is written

ending_here : (most : ℕ) (line behind : List ℕ) (at : ℕ) → at ≡ length line + 1 → length line ≤ most → ending most (line ++ 13 ∷ 10 ∷ behind) at ≡ At (length line)
ending_here most line behind at e le =
    let bytes : List ℕ = line ++ 13 ∷ 10 ∷ behind in
    let m : at - 1 ≡ length line = omega arith in
    let c : get_or bytes (at - 1) 0 ≡ 13 = ap (λ k. get_or bytes k 0) m ∙ get_or-append_seam line 13 (10 ∷ behind) 0 in
    let t = and_from (nat_lt 0 at) (get_or bytes (at - 1) 0 == 13) (lt-ltb 0 at (omega arith)) (eq-eqb (get_or bytes (at - 1) 0) 13 c) in
    cond-false (nat_lt (most + 1) at) (Bad ControlLine) (cond (nat_lt 0 at && get_or bytes (at - 1) 0 == 13) (At (at - 1)) (Bad ParserError)) (le-ltb (most + 1) at (omega arith))
    ∙ (cond-true (nat_lt 0 at && get_or bytes (at - 1) 0 == 13) (At (at - 1)) (Bad ParserError) t ∙ ap (λ k. At k) m)

pub written_end : (most : ℕ) (line behind : List ℕ) → has_no_feed line ≡ true → length line ≤ most → line_end most (line ++ 13 ∷ 10 ∷ behind) ≡ At (length line)
written_end most line behind free le =
    ap (ending_at most (line ++ 13 ∷ 10 ∷ behind)) (skipped 0 line (13 ∷ 10 ∷ behind) free) ∙ ending_here most line behind (0 + length line + 1) (omega arith) le
