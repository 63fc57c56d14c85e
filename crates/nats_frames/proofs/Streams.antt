-- What a stream begins with stays when more bytes come.
use Rattle.std.proofs.Common.{◌≡◌, ℕ, ◌+◌, ◌<◌, ◌≤◌, List, [], ◌∷◌, ◌++◌, length, take, drop, Bool, true, false, cond, nat_lt, inl, inr, refl, sym, ap, ◌∙◌, subst, arith, length-append, length-drop, append-nil, append_assoc}
use Rattle.std.specs.Prelude.{Result, Ok, Err}
use Rattle.std.specs.Str.{bytes_eq}
use Rattle.std.proofs.lemmas.Bool.{cond-true, cond-false, ltb-true, ltb-false, lt-ltb, le-ltb}
use Rattle.std.proofs.lemmas.List.{take-append-le, drop-append-le}
use Rattle.nats_text.specs.Headers.{HeaderBlock, crlf, read_block}
use Rattle.nats_frames.specs.declared.fault.FrameText.TheVariants.{ParserError}
use Rattle.nats_frames.specs.declared.stream.First.{First}
use Rattle.nats_frames.specs.declared.stream.First.TheVariants.{Frame, More, Refuse}
use Rattle.nats_frames.specs.declared.stream.Said.{Said}
use Rattle.nats_frames.specs.declared.stream.Said.TheVariants.{Whole, Carries, Unfit}
use Rattle.nats_frames.specs.declared.line.LineEnd.{LineEnd}
use Rattle.nats_frames.specs.declared.line.LineEnd.TheVariants.{Missing, At, Bad}
use Rattle.nats_frames.specs.Lines.{line_end, IsEndWithin}
use Rattle.nats_frames.specs.Stream.{with_block, opened, carried, decided, first_of, first_by}
use Rattle.nats_frames.specs.Feeds.{is_more, Waits}
use Rattle.nats_frames.proofs.Ends.{end_within, end_stays}

-- what came later is the same, unless more bytes were wanted; where they were, it is the same until
-- they are there
abbrev pub Stays : {F : Type 0} → ℕ → First F → First F → Type 0
Stays n (Frame frame len) later = later ≡ Frame frame len
Stays n (More wanted) later = n < wanted → later ≡ More wanted
Stays n (Refuse text) later = later ≡ Refuse text

-- frames are within so many bytes, and more are wanted than there are
abbrev pub Within : {F : Type 0} → ℕ → First F → Type 0
Within n (Frame frame len) = (0 < len) × (len ≤ n)
Within n (More wanted) = n < wanted
Within n (Refuse text) = Unit {0}

pub same_stays : {F : Type 0} (n : ℕ) (a : First F) → Stays n a a
same_stays n (Frame frame len) = refl
same_stays n (More wanted) = λ h. refl
same_stays n (Refuse text) = refl

-- ---- a payload

abbrev shut : {F : Type 0} → (HeaderBlock → List ℕ → F) → ℕ → ℕ → List ℕ → List ℕ → First F
shut frame len block end message = cond (bytes_eq end crlf) (opened frame len block message) (Refuse ParserError)

carried_stays : {F : Type 0} (frame : HeaderBlock → List ℕ → F) (n line block size : ℕ) (behind more : List ℕ) → line + length (behind ++ more) ≡ n → Stays n (carried frame line block size behind) (carried frame line block size (behind ++ more))
carried_stays {F} frame n line block size behind more whole =
    let len : ℕ = line + size + 2 in
    let now : First F = shut frame len block (take 2 (drop size behind)) (take size behind) in
    let later : First F = carried frame line block size (behind ++ more) in
    let e : length (behind ++ more) ≡ length behind + length more = length-append behind more in
    let P : Bool → Type 0 = λ t. nat_lt (length behind) (size + 2) ≡ t → Stays n (cond t (More len) now) later in
    let go : (t : Bool) → P t = λ t. elim t as P [
      | true ↦ (λ h short. cond-true (nat_lt (length (behind ++ more)) (size + 2)) (More len) (shut frame len block (take 2 (drop size (behind ++ more))) (take size (behind ++ more))) (lt-ltb (length (behind ++ more)) (size + 2) (omega arith)))
      | false ↦ (λ h.
          let enough : size + 2 ≤ length behind = ltb-false (length behind) (size + 2) h in
          let d : take 2 (drop size (behind ++ more)) ≡ take 2 (drop size behind) =
          ap (take 2) (drop-append-le size behind more (omega arith)) ∙ take-append-le 2 (drop size behind) more (omega (arith, length-drop size behind)) in
          let m : take size (behind ++ more) ≡ take size behind = take-append-le size behind more (omega arith) in
          let same : later ≡ now = cond-false (nat_lt (length (behind ++ more)) (size + 2)) (More len) (shut frame len block (take 2 (drop size (behind ++ more))) (take size (behind ++ more))) (le-ltb (length (behind ++ more)) (size + 2) (omega arith))
          ∙ (λ i. shut frame len block (d i) (m i)) in
          let Q : First F → Type 0 = λ a. Stays n now a in
          subst Q (sym same) (same_stays n now))
    ] in
    go (nat_lt (length behind) (size + 2)) refl

block_within : {F : Type 0} (frame : HeaderBlock → F) (n len : ℕ) (read : Result HeaderBlock ℕ) → 0 < len → len ≤ n → Within n (with_block frame len read)
block_within frame n len (Ok headers) some le = (some, le)
block_within frame n len (Err place) some le = tt

carried_within : {F : Type 0} (frame : HeaderBlock → List ℕ → F) (n line block size : ℕ) (behind : List ℕ) → line + length behind ≡ n → Within n (carried frame line block size behind)
carried_within {F} frame n line block size behind whole =
    let len : ℕ = line + size + 2 in
    let message : List ℕ = take size behind in
    let Q : Bool → Type 0 = λ t. size + 2 ≤ length behind → Within n (cond t (opened frame len block message) (Refuse ParserError)) in
    let inner : (t : Bool) → Q t = λ t. elim t as Q [
      | true ↦ (λ enough. block_within (λ headers. frame headers (drop block message)) n len (read_block (take block message)) (omega arith) (omega arith))
      | false ↦ (λ enough. tt)
    ] in
    let P : Bool → Type 0 = λ t. nat_lt (length behind) (size + 2) ≡ t → Within n (cond t (More len) (shut frame len block (take 2 (drop size behind)) message)) in
    let go : (t : Bool) → P t = λ t. elim t as P [
      | true ↦ (λ h. let short : length behind < size + 2 = ltb-true (length behind) (size + 2) h in omega arith)
      | false ↦ (λ h. inner (bytes_eq (take 2 (drop size behind)) crlf) (ltb-false (length behind) (size + 2) h))
    ] in
    go (nat_lt (length behind) (size + 2)) refl

-- ---- a line

decided_stays : {F E : Type 0} (framed : E → HeaderBlock → List ℕ → F) (n line : ℕ) (behind more : List ℕ) (said : Said F E) → line + length (behind ++ more) ≡ n → Stays n (decided framed line behind said) (decided framed line (behind ++ more) said)
decided_stays framed n line behind more (Whole frame) whole = refl
decided_stays framed n line behind more (Carries e block size) whole = carried_stays (framed e) n line block size behind more whole
decided_stays framed n line behind more (Unfit text) whole = refl

decided_within : {F E : Type 0} (framed : E → HeaderBlock → List ℕ → F) (n line : ℕ) (behind : List ℕ) (said : Said F E) → 0 < line → line + length behind ≡ n → Within n (decided framed line behind said)
decided_within framed n line behind (Whole frame) some whole = (some, omega arith)
decided_within framed n line behind (Carries e block size) some whole = carried_within (framed e) n line block size behind whole
decided_within framed n line behind (Unfit text) some whole = tt

-- ---- a stream

none_more : {F : Type 0} (first : List ℕ → First F) (bytes more : List ℕ) → first bytes ≡ More (length bytes + 1) → length (bytes ++ more) < length bytes + 1 → first (bytes ++ more) ≡ More (length bytes + 1)
none_more first bytes [] h short = ap first (append-nil bytes) ∙ h
none_more first bytes (b ∷ bs) h short = absurd (omega (arith, length-append bytes (b ∷ bs)))

nothing_more : {F E : Type 0} (said : List ℕ → Said F E) (framed : E → HeaderBlock → List ℕ → F) (bytes more : List ℕ) → length (bytes ++ more) < length bytes + 1 → first_of said framed (bytes ++ more) Missing ≡ More (length bytes + 1)
nothing_more said framed bytes [] short = ap (λ b. More (length b + 1)) (append-nil bytes)
nothing_more said framed bytes (b ∷ bs) short = absurd (omega (arith, length-append bytes (b ∷ bs)))

end_of : {F E : Type 0} (said : List ℕ → Said F E) (framed : E → HeaderBlock → List ℕ → F) (most : ℕ) (bytes more : List ℕ) (e : LineEnd) → IsEndWithin most (length bytes) e → Stays (length (bytes ++ more)) (first_of said framed bytes e) (first_of said framed (bytes ++ more) e)
end_of said framed most bytes more Missing w = λ short. nothing_more said framed bytes more short
end_of {F} said framed most bytes more (At at) w =
    let behind : List ℕ = drop (at + 2) bytes in
    let le : at + 2 ≤ length bytes = w.0 in
    let d : drop (at + 2) (bytes ++ more) ≡ behind ++ more = drop-append-le (at + 2) bytes more le in
    let l : take at (bytes ++ more) ≡ take at bytes = take-append-le at bytes more (omega arith) in
    let n : ℕ = length (bytes ++ more) in
    let whole : at + 2 + length (behind ++ more) ≡ n = omega (arith, length-append behind more, length-append bytes more, length-drop (at + 2) bytes) in
    let same : decided framed (at + 2) (behind ++ more) (said (take at bytes)) ≡ first_of said framed (bytes ++ more) (At at) = λ i. decided framed (at + 2) (sym d i) (said (sym l i)) in
    let Q : First F → Type 0 = λ a. Stays n (decided framed (at + 2) behind (said (take at bytes))) a in
    subst Q same (decided_stays framed n (at + 2) behind more (said (take at bytes)) whole)
end_of said framed most bytes more (Bad text) w = refl

pub first_stays : {F E : Type 0} (most : ℕ) (said : List ℕ → Said F E) (framed : E → HeaderBlock → List ℕ → F) (bytes more : List ℕ) → Stays (length (bytes ++ more)) (first_by most said framed bytes) (first_by most said framed (bytes ++ more))
first_stays {F} most said framed bytes more =
    let n : ℕ = length (bytes ++ more) in
    let missing : line_end most bytes ≡ Missing → Stays n (first_by most said framed bytes) (first_by most said framed (bytes ++ more)) = λ e.
    let now : first_by most said framed bytes ≡ More (length bytes + 1) = ap (first_of said framed bytes) e in
    let Q : First F → Type 0 = λ a. Stays n a (first_by most said framed (bytes ++ more)) in
    subst Q (sym now) (none_more (first_by most said framed) bytes more now) in
    let kept : line_end most (bytes ++ more) ≡ line_end most bytes → Stays n (first_by most said framed bytes) (first_by most said framed (bytes ++ more)) = λ e.
    let Q : LineEnd → Type 0 = λ end. Stays n (first_by most said framed bytes) (first_of said framed (bytes ++ more) end) in
    subst Q (sym e) (end_of said framed most bytes more (line_end most bytes) (end_within most bytes)) in
    elim (end_stays most bytes more) [ inl e ↦ missing e | inr e ↦ kept e ]

end_in : {F E : Type 0} (said : List ℕ → Said F E) (framed : E → HeaderBlock → List ℕ → F) (most : ℕ) (bytes : List ℕ) (e : LineEnd) → IsEndWithin most (length bytes) e → Within (length bytes) (first_of said framed bytes e)
end_in said framed most bytes Missing w = omega arith
end_in said framed most bytes (At at) w =
    let le : at + 2 ≤ length bytes = w.0 in
    decided_within framed (length bytes) (at + 2) (drop (at + 2) bytes) (said (take at bytes)) (omega arith) (omega (arith, length-drop (at + 2) bytes))
end_in said framed most bytes (Bad text) w = tt

pub first_within : {F E : Type 0} (most : ℕ) (said : List ℕ → Said F E) (framed : E → HeaderBlock → List ℕ → F) (bytes : List ℕ) → Within (length bytes) (first_by most said framed bytes)
first_within most said framed bytes = end_in said framed most bytes (line_end most bytes) (end_within most bytes)

-- ---- what a feed keeps

-- a wish for more bytes lasts until they are there
pub wish_waits : {F E : Type 0} (most : ℕ) (said : List ℕ → Said F E) (framed : E → HeaderBlock → List ℕ → F) (bytes : List ℕ) (wanted : ℕ) → first_by most said framed bytes ≡ More wanted → Waits (first_by most said framed) bytes wanted
wish_waits {F} most said framed bytes wanted h =
    λ behind short.
    let Q : First F → Type 0 = λ a. Stays (length (bytes ++ behind)) a (first_by most said framed (bytes ++ behind)) in
    ap is_more (subst Q h (first_stays most said framed bytes behind) short)

-- a piece of what was waited for
pub waits_on : {F : Type 0} (first : List ℕ → First F) (rest piece : List ℕ) (wanted : ℕ) → Waits first rest wanted → Waits first (rest ++ piece) wanted
waits_on first rest piece wanted w =
    λ behind short.
    let e = append_assoc rest piece behind in
    ap (λ b. is_more (first b)) e ∙ w (piece ++ behind) (omega (arith, ap length e))

-- nothing is waited for
pub waits_none : {F : Type 0} (first : List ℕ → First F) (rest : List ℕ) → Waits first rest 0
waits_none first rest = λ behind short. absurd (omega arith)
