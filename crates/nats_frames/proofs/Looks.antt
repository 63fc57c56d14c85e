-- A line's end, where it is looked for behind bytes that were looked through.
use Rattle.std.proofs.Common.{◌≡◌, ℕ, ◌+◌, ◌≤◌, List, [], ◌∷◌, length, take, drop, Bool, true, false, ◌&&◌, not, cond, None, Some, refl, sym, ap, ◌∙◌, arith, length-take}
use Rattle.std.specs.List.{position_from}
use Rattle.std.proofs.lemmas.List.{take-append-drop}
use Rattle.std.proofs.lemmas.Option.{none-some}
use Rattle.nats_frames.specs.Lines.{is_feed, has_no_feed}
use Rattle.nats_frames.proofs.Ends.{before, skipped, shifted}

-- where no LF is found, none is found with other numbers either
nowhere : (n m : ℕ) (bytes : List ℕ) → position_from is_feed n bytes ≡ None → position_from is_feed m bytes ≡ None
nowhere n m [] h = h
nowhere n m (b ∷ bs) h =
    let P : Bool → Type 0 = λ t. cond t (Some n) (position_from is_feed (n + 1) bs) ≡ None → cond t (Some m) (position_from is_feed (m + 1) bs) ≡ None in
    let go : (t : Bool) → P t = λ t. elim t as P [
      | true ↦ (λ e. absurd (none-some n (sym e)))
      | false ↦ (λ e. nowhere (n + 1) (m + 1) bs e)
    ] in
    go (is_feed b) h

behind_looked : (bytes : List ℕ) (looked : ℕ) → looked ≤ length bytes → has_no_feed (take looked bytes) ≡ true → position_from is_feed 0 bytes ≡ position_from is_feed looked (drop looked bytes)
behind_looked bytes looked le none =
    let n : 0 + length (take looked bytes) ≡ looked = omega (arith, length-take looked bytes) in
    ap (position_from is_feed 0) (sym (take-append-drop looked bytes))
    ∙ (skipped 0 (take looked bytes) (drop looked bytes) none ∙ ap (λ k. position_from is_feed k (drop looked bytes)) n)

-- the first LF of the rest, counted from the front of the whole
pub found_behind : (bytes : List ℕ) (looked at : ℕ) → looked ≤ length bytes → has_no_feed (take looked bytes) ≡ true → Some at ≡ position_from is_feed 0 (drop looked bytes) → Some (looked + at) ≡ position_from is_feed 0 bytes
found_behind bytes looked at le none h =
    let n : looked + 0 ≡ looked = omega arith in
    let k : looked + 0 + at ≡ looked + at = omega arith in
    let z : 0 + at ≡ at = omega arith in
    let e : position_from is_feed looked (drop looked bytes) ≡ Some (looked + at) =
    ap (λ m. position_from is_feed m (drop looked bytes)) (sym n) ∙ (shifted 0 looked (drop looked bytes) at (sym h ∙ ap (λ m. Some m) (sym z)) ∙ ap (λ m. Some m) k) in
    sym (behind_looked bytes looked le none ∙ e)

pub none_behind : (bytes : List ℕ) (looked : ℕ) → looked ≤ length bytes → has_no_feed (take looked bytes) ≡ true → None ≡ position_from is_feed 0 (drop looked bytes) → None ≡ position_from is_feed 0 bytes
none_behind bytes looked le none h =
    let e : position_from is_feed looked (drop looked bytes) ≡ None = nowhere 0 looked (drop looked bytes) (sym h) in
    sym (behind_looked bytes looked le none ∙ e)

-- no LF is among the bytes before a place where the first one behind `looked` bytes stands, or among all
pub free_to : (bytes : List ℕ) (looked at : ℕ) → looked ≤ length bytes → has_no_feed (take looked bytes) ≡ true → Some at ≡ position_from is_feed 0 (drop looked bytes) → has_no_feed (take (looked + at) bytes) ≡ true
free_to bytes looked at le none h =
    before 0 bytes (looked + at) (looked + at) (sym (found_behind bytes looked at le none h)) (omega arith)

pub all_free : (n : ℕ) (bytes : List ℕ) → position_from is_feed n bytes ≡ None → has_no_feed bytes ≡ true
all_free n [] h = refl
all_free n (b ∷ bs) h =
    let P : Bool → Type 0 = λ t. cond t (Some n) (position_from is_feed (n + 1) bs) ≡ None → (not t && has_no_feed bs) ≡ true in
    let go : (t : Bool) → P t = λ t. elim t as P [
      | true ↦ (λ e. absurd (none-some n (sym e)))
      | false ↦ (λ e. all_free (n + 1) bs e)
    ] in
    go (is_feed b) h
