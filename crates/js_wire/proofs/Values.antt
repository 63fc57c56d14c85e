-- Names, subjects and what is joined of names by spaces may be values of headers.
use Rattle.std.proofs.Common.{◌≡◌, ℕ, ◌+◌, ◌<◌, ◌^◌, List, [], ◌∷◌, ◌++◌, length, Bool, true, false, ◌&&◌, not, ◌==◌, nat_lt, refl, sym, ap, ◌∙◌, arith, length-append}
use Rattle.std.specs.Prelude.{nat_le}
use Rattle.std.specs.List.{list_all, join_with_byte}
use Rattle.std.specs.Str.{bytes_eq, is_utf8}
use Rattle.std.proofs.lemmas.Bool.{and_parts, and_from, ltb-true, lt-ltb, ne_eqb}
use Rattle.std.proofs.lemmas.List.Folds.{list_all-append}
use Rattle.nats_text.specs.Headers.{is_header_value, is_line_text, is_line_byte, is_blank, trim_start, before_trimmed, trim_end, trimmed}
use Rattle.nats_text.specs.Pieces.{pieces}
use Rattle.nats_text.specs.Text.{is_name, is_name_byte, is_subject, is_subject_byte, is_literal_token, is_token, star, tail}
use Rattle.nats_text.specs.declared.message.Stamp.{Stamp}
use Rattle.js_wire.specs.Messages.{consumer_value}
use Rattle.js_wire.specs.Words.{consumer_name}
use Rattle.js_wire.proofs.Bytes.{not_false, name_byte, name_parts, consumer_is_name}
use Rattle.js_wire.proofs.Numerals.{same_bytes}
use Rattle.js_wire.proofs.Pieces.{join_pieces}

-- a byte that can be seen: above the space
abbrev visible : ℕ → Bool
visible b = nat_lt 32 b

line_byte : (b : ℕ) → visible b ≡ true → is_line_byte b ≡ true
line_byte b h =
    let above : 32 < b = ltb-true 32 b h in
    and_from (not (b == 13)) (not (b == 10)) (not_false (b == 13) (ne_eqb b 13 (λ e. omega (arith, above)))) (not_false (b == 10) (ne_eqb b 10 (λ e. omega (arith, above))))

no_blank : (b : ℕ) → visible b ≡ true → is_blank b ≡ false
no_blank b h =
    let above : 32 < b = ltb-true 32 b h in
    let space : (b == 32) ≡ false = ne_eqb b 32 (λ e. omega (arith, above)) in
    let tab : (b == 9) ≡ false = ne_eqb b 9 (λ e. omega (arith, above)) in
    rw (space, tab) refl

visible_line : (s : List ℕ) → list_all visible s ≡ true → is_line_text s ≡ true
visible_line [] h = refl
visible_line (b ∷ bs) h =
    let p = and_parts (visible b) (list_all visible bs) h in
    and_from (is_line_byte b) (is_line_text bs) (line_byte b p.0) (visible_line bs p.1)

visible_start : (s : List ℕ) → list_all visible s ≡ true → trim_start s ≡ s
visible_start [] h = refl
visible_start (b ∷ bs) h = let e = no_blank b (and_parts (visible b) (list_all visible bs) h).0 in rw e refl

before_visible : (b : ℕ) (bs : List ℕ) → visible b ≡ true → before_trimmed b bs ≡ b ∷ bs
before_visible b [] h = let e = no_blank b h in rw e refl
before_visible b (c ∷ cs) h = refl

visible_end : (s : List ℕ) → list_all visible s ≡ true → trim_end s ≡ s
visible_end [] h = refl
visible_end (b ∷ bs) h =
    let p = and_parts (visible b) (list_all visible bs) h in
    ap (before_trimmed b) (visible_end bs p.1) ∙ before_visible b bs p.0

value_from : (s : List ℕ) → is_line_text s ≡ true → trimmed s ≡ s → is_header_value s ≡ true
value_from s line trim = and_from (is_line_text s) (bytes_eq (trimmed s) s) line (ap (λ t. bytes_eq t s) trim ∙ same_bytes s)

visible_value : (s : List ℕ) → list_all visible s ≡ true → is_header_value s ≡ true
visible_value s h = value_from s (visible_line s h) (ap trim_end (visible_start s h) ∙ visible_end s h)

name_visible : (s : List ℕ) → list_all is_name_byte s ≡ true → list_all visible s ≡ true
name_visible [] h = refl
name_visible (b ∷ bs) h =
    let p = and_parts (is_name_byte b) (list_all is_name_byte bs) h in
    and_from (visible b) (list_all visible bs) (lt-ltb 32 b (name_byte b p.0).low) (name_visible bs p.1)

pub name_value : (s : List ℕ) → is_name s ≡ true → is_header_value s ≡ true
name_value s h = visible_value s (name_visible s (name_parts s h).all)

-- ---- subjects

token_visible : (t : List ℕ) → list_all is_subject_byte t ≡ true → list_all visible t ≡ true
token_visible [] h = refl
token_visible (b ∷ bs) h =
    let p = and_parts (is_subject_byte b) (list_all is_subject_byte bs) h in
    and_from (visible b) (list_all visible bs) (and_parts (nat_lt 32 b) (not (b == 127)) p.0).0 (token_visible bs p.1)

literal_visible : (t : List ℕ) → is_literal_token t ≡ true → list_all visible t ≡ true
literal_visible t h =
    let p = and_parts (is_token t && not (bytes_eq t star)) (not (bytes_eq t tail)) h in
    let q = and_parts (is_token t) (not (bytes_eq t star)) p.0 in
    token_visible t (and_parts (nat_lt 0 (length t)) (list_all is_subject_byte t) q.0).1

joined_visible : (ts : List (List ℕ)) → list_all is_literal_token ts ≡ true → list_all visible (join_with_byte 46 ts) ≡ true
joined_visible [] h = refl
joined_visible (t ∷ []) h = literal_visible t (and_parts (is_literal_token t) true h).0
joined_visible (t ∷ u ∷ ts) h =
    let p = and_parts (is_literal_token t) (list_all is_literal_token (u ∷ ts)) h in
    list_all-append visible t (46 ∷ join_with_byte 46 (u ∷ ts)) ∙ and_from (list_all visible t) (list_all visible (46 ∷ join_with_byte 46 (u ∷ ts))) (literal_visible t p.0) (joined_visible (u ∷ ts) p.1)

pub subject_value : (s : List ℕ) → is_subject s ≡ true → is_header_value s ≡ true
subject_value s h =
    let p = and_parts (nat_le (length s) 1024 && is_utf8 s) (list_all is_literal_token (pieces 46 s)) h in
    visible_value s (ap (list_all visible) (sym (join_pieces 46 s)) ∙ joined_visible (pieces 46 s) p.1)

-- ---- names and spaces

before_some : (b : ℕ) (bs : List ℕ) → 0 < length bs → before_trimmed b bs ≡ b ∷ bs
before_some b [] h = absurd (omega (arith, h))
before_some b (c ∷ cs) h = refl

end_kept : (w v : List ℕ) → trim_end v ≡ v → 0 < length v → trim_end (w ++ v) ≡ w ++ v
end_kept [] v e some = e
end_kept (b ∷ w) v e some =
    let long : length (w ++ v) ≡ length w + length v = length-append w v in
    ap (before_trimmed b) (end_kept w v e some) ∙ before_some b (w ++ v) (omega (arith, long, some))

start_kept : (w v : List ℕ) → list_all visible w ≡ true → 0 < length w → trim_start (w ++ v) ≡ w ++ v
start_kept [] v h some = absurd (omega (arith, some))
start_kept (b ∷ w) v h some = let e = no_blank b (and_parts (visible b) (list_all visible w) h).0 in rw e refl

pub value_of_consumer : (origin stream : List ℕ) (c : Stamp) → is_name origin ≡ true → is_name stream ≡ true → c.boot < 2 ^ 64 → c.count < 2 ^ 64 → is_header_value (consumer_value origin stream c) ≡ true
value_of_consumer origin stream c o s b n =
    let name = consumer_name c in
    let last = name_parts name (consumer_is_name c b n) in
    let first = name_parts origin o in
    let seen = name_visible name last.all in
    let behind : List ℕ = stream ++ 32 ∷ name in
    let space : is_line_text (32 ∷ name) ≡ true = visible_line name seen in
    let stream_line : is_line_text stream ≡ true = visible_line stream (name_visible stream (name_parts stream s).all) in
    let line_behind : is_line_text behind ≡ true = list_all-append is_line_byte stream (32 ∷ name) ∙ and_from (is_line_text stream) (is_line_text (32 ∷ name)) stream_line space in
    let line : is_line_text (origin ++ 32 ∷ behind) ≡ true =
    list_all-append is_line_byte origin (32 ∷ behind) ∙ and_from (is_line_text origin) (is_line_text (32 ∷ behind)) (visible_line origin (name_visible origin first.all)) line_behind in
    let e0 : trim_end name ≡ name = visible_end name seen in
    let e1 : trim_end (32 ∷ name) ≡ 32 ∷ name = ap (before_trimmed 32) e0 ∙ before_some 32 name last.some in
    let e2 : trim_end behind ≡ behind = end_kept stream (32 ∷ name) e1 (omega arith) in
    let long : length behind ≡ length stream + length (32 ∷ name) = length-append stream (32 ∷ name) in
    let e3 : trim_end (32 ∷ behind) ≡ 32 ∷ behind = ap (before_trimmed 32) e2 ∙ before_some 32 behind (omega (arith, long)) in
    let e4 : trim_end (origin ++ 32 ∷ behind) ≡ origin ++ 32 ∷ behind = end_kept origin (32 ∷ behind) e3 (omega arith) in
    value_from (origin ++ 32 ∷ behind) line (ap trim_end (start_kept origin (32 ∷ behind) (name_visible origin first.all) first.some) ∙ e4)
