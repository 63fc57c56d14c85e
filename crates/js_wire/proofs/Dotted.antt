-- Words that are names: the text that joins them by dots is a subject, and is cut into them again.
use Rattle.std.proofs.Common.{◌≡◌, ℕ, ◌+◌, ◌*◌, ◌≤◌, List, [], ◌∷◌, ◌++◌, length, Bool, true, ◌&&◌, not, ◌==◌, refl, ap, ◌∙◌, arith, length-append, IsUtf8}
use Rattle.std.specs.Prelude.{nat_le}
use Rattle.std.specs.List.{list_all}
use Rattle.std.specs.Str.{is_utf8}
use lib.Utf8.{encode}
use Rattle.std.proofs.lemmas.Bool.{and_parts, and_from, le-leb}
use Rattle.std.proofs.lemmas.Str.{IsUtf8-append, is_utf8-from_IsUtf8}
use Rattle.nats_text.specs.Pieces.{pieces}
use Rattle.nats_text.specs.Text.{is_name, is_name_byte, is_subject, is_literal_token}
use Rattle.js_wire.specs.Words.{dotted}
use Rattle.js_wire.proofs.Bytes.{not_false, name_byte, name_parts, name_utf8, name_literal}
use Rattle.js_wire.proofs.Pieces.{free_of, pieces_join}

name_free : (w : List ℕ) → list_all is_name_byte w ≡ true → free_of 46 w ≡ true
name_free [] h = refl
name_free (b ∷ bs) h =
    let p = and_parts (is_name_byte b) (list_all is_name_byte bs) h in
    and_from (not (b == 46)) (free_of 46 bs) (not_false (b == 46) (name_byte b p.0).no_dot) (name_free bs p.1)

names_free : (ws : List (List ℕ)) → list_all is_name ws ≡ true → list_all (free_of 46) ws ≡ true
names_free [] h = refl
names_free (w ∷ ws) h =
    let p = and_parts (is_name w) (list_all is_name ws) h in
    and_from (free_of 46 w) (list_all (free_of 46) ws) (name_free w (name_parts w p.0).all) (names_free ws p.1)

-- the words of what was joined of words
pub dotted_pieces : (w : List ℕ) (ws : List (List ℕ)) → list_all is_name (w ∷ ws) ≡ true → pieces 46 (dotted (w ∷ ws)) ≡ w ∷ ws
dotted_pieces w ws h = pieces_join 46 w ws (names_free (w ∷ ws) h)

names_literal : (ws : List (List ℕ)) → list_all is_name ws ≡ true → list_all is_literal_token ws ≡ true
names_literal [] h = refl
names_literal (w ∷ ws) h =
    let p = and_parts (is_name w) (list_all is_name ws) h in
    and_from (is_literal_token w) (list_all is_literal_token ws) (name_literal w p.0) (names_literal ws p.1)

dot_is_utf8 : IsUtf8 (46 ∷ [])
unfolding encode
dot_is_utf8 = (46 ∷ [], (refl, refl))

pub dotted_utf8 : (w : List ℕ) (ws : List (List ℕ)) → list_all is_name (w ∷ ws) ≡ true → IsUtf8 (dotted (w ∷ ws))
dotted_utf8 w [] h = name_utf8 w (name_parts w (and_parts (is_name w) true h).0).all
dotted_utf8 w (v ∷ ws) h =
    let p = and_parts (is_name w) (list_all is_name (v ∷ ws)) h in
    IsUtf8-append w (46 ∷ dotted (v ∷ ws)) (name_utf8 w (name_parts w p.0).all) (IsUtf8-append (46 ∷ []) (dotted (v ∷ ws)) dot_is_utf8 (dotted_utf8 v ws p.1))

dotted_short : (w : List ℕ) (ws : List (List ℕ)) → list_all is_name (w ∷ ws) ≡ true → length (dotted (w ∷ ws)) ≤ 65 * length (w ∷ ws)
dotted_short w [] h = omega (arith, (name_parts w (and_parts (is_name w) true h).0).short)
dotted_short w (v ∷ ws) h =
    let p = and_parts (is_name w) (list_all is_name (v ∷ ws)) h in
    let l : length (w ++ 46 ∷ dotted (v ∷ ws)) ≡ length w + length (46 ∷ dotted (v ∷ ws)) = length-append w (46 ∷ dotted (v ∷ ws)) in
    omega (arith, l, (name_parts w p.0).short, dotted_short v ws p.1)

all_three : (a b c : Bool) → a ≡ true → b ≡ true → c ≡ true → (a && b && c) ≡ true
all_three a b c p q r = rw (p, q, r) refl

-- up to fifteen words make a subject
pub dotted_subject : (w : List ℕ) (ws : List (List ℕ)) → length (w ∷ ws) ≤ 15 → list_all is_name (w ∷ ws) ≡ true → is_subject (dotted (w ∷ ws)) ≡ true
dotted_subject w ws few h =
    let t = dotted (w ∷ ws) in
    let short : length t ≤ 1024 = omega (arith, dotted_short w ws h) in
    all_three (nat_le (length t) 1024) (is_utf8 t) (list_all is_literal_token (pieces 46 t))
    (le-leb (length t) 1024 short) (is_utf8-from_IsUtf8 t (dotted_utf8 w ws h))
    (ap (λ ts. list_all is_literal_token ts) (dotted_pieces w ws h) ∙ names_literal (w ∷ ws) h)
