-- Lines that are written, and what stands behind them, are read again: for any kind of connection.
use Rattle.std.proofs.Common.{◌≡◌, ℕ, ◌+◌, ◌-◌, ◌<◌, ◌≤◌, ◌^◌, ◌==◌, List, [], ◌∷◌, ◌++◌, length, get_or, take, drop, true, ◌&&◌, cond, nat_lt, Option, None, Some, refl, sym, ap, ◌∙◌, arith, length-append, append_assoc}
use Rattle.std.specs.Prelude.{Ok, decimal}
use Rattle.std.specs.List.{list_all}
use Rattle.std.specs.Option.{option_map_or}
use Rattle.std.specs.Str.{bytes_eq}
use Rattle.std.proofs.lemmas.Bool.{cond-true, cond-false, and_from, lt-ltb, le-ltb, eq-eqb}
use Rattle.std.proofs.Math.Seq.{get_or-append_seam, take-append_seam, drop-append_seam, drop-append-add}
use Rattle.std.proofs.lemmas.List.{take_at, drop_at}
use Rattle.std.proofs.lemmas.Slice.Eq.{bytes_eq-Decides}
use Rattle.nats_text.specs.Headers.{HeaderBlock, is_header_block, crlf, written, read_block}
use Rattle.nats_frames.specs.declared.fault.FrameText.TheVariants.{ParserError, PayloadViolation}
use Rattle.nats_frames.specs.declared.stream.First.TheVariants.{Frame, More, Refuse}
use Rattle.nats_frames.specs.declared.stream.Said.{Said}
use Rattle.nats_frames.specs.declared.stream.Said.TheVariants.{Whole, Carries, Unfit}
use Rattle.nats_frames.specs.Fields.{quoted}
use Rattle.nats_frames.specs.Lines.{has_no_feed}
use Rattle.nats_frames.specs.Stream.{sized, with_block, opened, carried, decided, first_of, first_by}
use Rattle.nats_frames.specs.Texts.{onto_some, body}
use Rattle.nats_frames.proofs.Decimals.{decimal_field}
use Rattle.nats_frames.proofs.Ends.{written_end}
use Rattle.nats_frames.proofs.Parts.{is_field}

-- ---- a line and what stands behind it

-- what a stream begins with is decided by its line
pub written_line : {F E : Type 0} (most : ℕ) (said : List ℕ → Said F E) (framed : E → HeaderBlock → List ℕ → F) (line behind : List ℕ) → has_no_feed line ≡ true → length line ≤ most → first_by most said framed (line ++ 13 ∷ 10 ∷ behind) ≡ decided framed (length line + 2) behind (said line)
written_line most said framed line behind free le =
    let bytes : List ℕ = line ++ 13 ∷ 10 ∷ behind in
    let d : drop (length line + 2) bytes ≡ behind = drop-append-add line (13 ∷ 10 ∷ behind) 2 in
    let t : take (length line) bytes ≡ line = take-append_seam line (13 ∷ 10 ∷ behind) in
    ap (first_of said framed bytes) (written_end most line behind free le) ∙ (λ i. decided framed (length line + 2) (d i) (said (t i)))

pub same_bytes : (s : List ℕ) → bytes_eq s s ≡ true
same_bytes s = (bytes_eq-Decides s s).1 refl

-- a header block and a payload that stand behind a line
pub written_body : {F : Type 0} (frame : HeaderBlock → List ℕ → F) (line n : ℕ) (block payload behind : List ℕ) (headers : HeaderBlock) → n ≡ length block + length payload → read_block block ≡ Ok headers → carried frame line (length block) n (body block payload ++ behind) ≡ Frame (frame headers payload) (line + n + 2)
written_body {F} frame line n block payload behind headers size h =
    let message : List ℕ = block ++ payload in
    let bytes : List ℕ = (message ++ crlf) ++ behind in
    let e : bytes ≡ message ++ (crlf ++ behind) = append_assoc message crlf behind in
    let len : length message ≡ n = length-append block payload ∙ sym size in
    let whole : length bytes ≡ n + (2 + length behind) = omega (arith, ap length e, length-append message (crlf ++ behind), len) in
    let d : take 2 (drop n bytes) ≡ crlf = ap (λ b. take 2 (drop n b)) e ∙ ap (take 2) (drop_at message (crlf ++ behind) n len) in
    let m : take n bytes ≡ message = ap (take n) e ∙ take_at message (crlf ++ behind) n len in
    let b : take (length block) message ≡ block = take-append_seam block payload in
    let p : drop (length block) message ≡ payload = drop-append_seam block payload in
    let total : ℕ = line + n + 2 in
    let opens : opened frame total (length block) message ≡ Frame (frame headers payload) total =
    (λ i. with_block (λ x. frame x (p i)) total (read_block (b i))) ∙ ap (with_block (λ x. frame x payload) total) h in
    cond-false (nat_lt (length bytes) (n + 2)) (More total) (cond (bytes_eq (take 2 (drop n bytes)) crlf) (opened frame total (length block) (take n bytes)) (Refuse ParserError)) (le-ltb (length bytes) (n + 2) (omega (arith, whole)))
    ∙ ((λ i. cond (bytes_eq (d i) crlf) (opened frame total (length block) (m i)) (Refuse ParserError))
    ∙ opens)

-- ---- fields

pub onto_some_fields : (reply : Option (List ℕ)) (others : List (List ℕ)) → option_map_or is_field reply true ≡ true → list_all is_field others ≡ true → list_all is_field (onto_some reply others) ≡ true
onto_some_fields None others r h = h
onto_some_fields (Some reply) others r h = and_from (is_field reply) (list_all is_field others) r h

pub one_size : (n : ℕ) → n < 2 ^ 64 → list_all is_field (decimal n ∷ []) ≡ true
one_size n h = and_from (is_field (decimal n)) true (decimal_field n h) refl

pub two_sizes : (m n : ℕ) → m < 2 ^ 64 → n < 2 ^ 64 → list_all is_field (decimal m ∷ decimal n ∷ []) ≡ true
two_sizes m n g h = and_from (is_field (decimal m)) (list_all is_field (decimal n ∷ [])) (decimal_field m g) (one_size n h)

-- a line with these sizes, which are within their bounds
pub sized_back : {F E : Type 0} (most : ℕ) (e f : E) (block n : ℕ) (bo so : Option ℕ) → e ≡ f → bo ≡ Some block → so ≡ Some n → block ≤ n → n ≤ most → sized {F = F} e most bo so ≡ Carries f block n
sized_back {F} most e f block n bo so ee be se within le =
    (λ i. sized {F = F} (ee i) most (be i) (se i))
    ∙ (cond-false (nat_lt n block) (Unfit ParserError) (cond (nat_lt most n) (Unfit PayloadViolation) (Carries f block n)) (le-ltb n block within)
    ∙ cond-false (nat_lt most n) (Unfit PayloadViolation) (Carries f block n) (le-ltb most n le))

-- what a line says, and that it is one
pub record Back {F E : Type 0} (said : List ℕ → Said F E) (line : List ℕ) (what : Said F E) : Type 0 where
  pub free : has_no_feed line ≡ true
  pub says : said line ≡ what

-- a text in quotes
pub quoted_back : (t : List ℕ) → quoted (39 ∷ (t ++ 39 ∷ [])) ≡ Some t
quoted_back t =
    let q : List ℕ = 39 ∷ (t ++ 39 ∷ []) in
    let len : length (t ++ 39 ∷ []) ≡ length t + 1 = length-append t (39 ∷ []) in
    let m : length q - 1 ≡ length (39 ∷ t) = omega (arith, len) in
    let k : length q - 2 ≡ length t = omega (arith, len) in
    let last : get_or q (length q - 1) 0 ≡ 39 = ap (λ i. get_or q i 0) m ∙ get_or-append_seam (39 ∷ t) 39 [] 0 in
    let test = and_from (nat_lt 1 (length q) && get_or q 0 0 == 39) (get_or q (length q - 1) 0 == 39)
    (and_from (nat_lt 1 (length q)) (get_or q 0 0 == 39) (lt-ltb 1 (length q) (omega (arith, len))) refl) (eq-eqb (get_or q (length q - 1) 0) 39 last) in
    cond-true (nat_lt 1 (length q) && get_or q 0 0 == 39 && get_or q (length q - 1) 0 == 39) (Some (take (length q - 2) (drop 1 q))) None test
    ∙ ap (λ x. Some x) (ap (λ i. take i (drop 1 q)) k ∙ take-append_seam t (39 ∷ []))

-- ---- a frame

-- the bytes of a frame, with others behind them, by lines
pub regroup : (line rest behind : List ℕ) → (line ++ crlf ++ rest) ++ behind ≡ line ++ 13 ∷ 10 ∷ (rest ++ behind)
regroup line rest behind = append_assoc (line ++ crlf) rest behind ∙ append_assoc line crlf (rest ++ behind)

pub whole_length : (line rest : List ℕ) → length (line ++ crlf ++ rest) ≡ length line + 2 + length rest
whole_length line rest = length-append (line ++ crlf) rest ∙ ap (λ n. n + length rest) (length-append line crlf)

-- a frame without a payload
pub line_again : {F E : Type 0} (most : ℕ) (said : List ℕ → Said F E) (framed : E → HeaderBlock → List ℕ → F) (line : List ℕ) (frame : F) (behind : List ℕ) → Back said line (Whole frame) → length line ≤ most → first_by most said framed ((line ++ crlf ++ []) ++ behind) ≡ Frame frame (length (line ++ crlf ++ []))
line_again most said framed line frame behind b le =
    ap (first_by most said framed) (regroup line [] behind) ∙ (written_line most said framed line behind b.free le
    ∙ (ap (decided framed (length line + 2) behind) b.says ∙ ap (λ n. Frame frame n) (omega (arith, whole_length line []))))

-- a frame with one
pub body_again : {F E : Type 0} (most : ℕ) (said : List ℕ → Said F E) (framed : E → HeaderBlock → List ℕ → F) (line block payload : List ℕ) (e : E) (headers : HeaderBlock) (n : ℕ) (behind : List ℕ) → Back said line (Carries e (length block) n) → n ≡ length block + length payload → read_block block ≡ Ok headers → length line ≤ most
    → first_by most said framed ((line ++ crlf ++ body block payload) ++ behind) ≡ Frame (framed e headers payload) (length (line ++ crlf ++ body block payload))
body_again most said framed line block payload e headers n behind b size h le =
    let rest : List ℕ = body block payload in
    let len : length rest ≡ n + 2 = length-append (block ++ payload) crlf ∙ ap (λ k. k + 2) (length-append block payload ∙ sym size) in
    ap (first_by most said framed) (regroup line rest behind) ∙ (written_line most said framed line (rest ++ behind) b.free le
    ∙ (ap (decided framed (length line + 2) (rest ++ behind)) b.says ∙ (written_body (framed e) (length line + 2) n block payload behind headers size h
    ∙ ap (λ k. Frame (framed e headers payload) k) (omega (arith, whole_length line rest, len)))))

-- headers that are written are read again
abbrev pub ReadsAgain : Type 0
ReadsAgain = (block : HeaderBlock) → is_header_block block ≡ true → read_block (written block) ≡ Ok block
