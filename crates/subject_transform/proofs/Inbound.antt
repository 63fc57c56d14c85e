-- A subject of a domain's interface without the domain is a subject.
use Rattle.std.proofs.Common.{◌≡◌, ℕ, ◌+◌, ◌<◌, ◌≤◌, List, [], ◌∷◌, ◌++◌, length, drop, get_or, Bool, true, false, ◌&&◌, ◌==◌, eqb, cond, codes, refl, sym, ap, ◌∙◌, subst, arith, append_assoc, length-append}
use Rattle.std.specs.Prelude.{nat_le}
use Rattle.std.specs.List.{list_all, starts_with}
use Rattle.std.specs.Str.{is_utf8, IsUtf8}
use lib.Utf8.{encode}
use Rattle.std.proofs.Math.Seq.{get_or-append_seam, drop-append-add}
use Rattle.std.proofs.lemmas.Bool.{leb-true, le-leb}
use Rattle.std.proofs.lemmas.List.Folds.{list_all-append}
use Rattle.std.proofs.lemmas.Str.{IsUtf8-from_is_utf8, is_utf8-from_IsUtf8, IsUtf8-append, IsUtf8-drop, IsCharBoundary-after_ascii}
use Rattle.nats_text.specs.Pieces.{pieces, onto_first}
use Rattle.nats_text.specs.Text.{is_subject, is_literal_token}
use Rattle.subject_transform.specs.Domains.{domain_prefix}
use Rattle.subject_transform.proofs.Prefixes.{starts_split}
use Rattle.subject_transform.proofs.Tokens.{HasFirst, pieces_first}

onto_append : (b : ℕ) (ps qs : List (List ℕ)) → HasFirst ps → onto_first b (ps ++ qs) ≡ onto_first b ps ++ qs
onto_append b ps qs h = rw h.is refl

pieces_append : (a b : List ℕ) → pieces 46 (a ++ 46 ∷ b) ≡ pieces 46 a ++ pieces 46 b
pieces_append [] b = refl
pieces_append (x ∷ a) b =
    let i = pieces_append a b in
    let P : Bool → Type 0 = λ t. cond t ([] ∷ pieces 46 (a ++ 46 ∷ b)) (onto_first x (pieces 46 (a ++ 46 ∷ b))) ≡ cond t ([] ∷ pieces 46 a) (onto_first x (pieces 46 a)) ++ pieces 46 b in
    let go : (t : Bool) → P t = λ t. elim t as P [ true ↦ ap (λ r. [] ∷ r) i | false ↦ ap (λ r. onto_first x r) i ∙ onto_append x (pieces 46 a) (pieces 46 b) (pieces_first 46 a) ] in
    go (eqb x 46)

both : (a b : Bool) → (a && b) ≡ true → (a ≡ true) × (b ≡ true)
both true b h = (refl, h)
both false b h = absurd (cc)

-- what stands before the last dot of the prefix
abbrev pub front : List ℕ → List ℕ
front domain = codes "$JS." ++ domain ++ codes ".API"

prefix_is : (domain : List ℕ) → domain_prefix domain ≡ front domain ++ 46 ∷ []
prefix_is domain = sym (append_assoc (codes "$JS." ++ domain) (codes ".API") (46 ∷ []))

cut_at_prefix : (domain s : List ℕ) → starts_with ◌==◌ s (domain_prefix domain) ≡ true → s ≡ front domain ++ 46 ∷ drop (length (domain_prefix domain)) s
cut_at_prefix domain s h =
    let x = drop (length (domain_prefix domain)) s in
    starts_split (domain_prefix domain) s h ∙ (ap (λ p. p ++ x) (prefix_is domain) ∙ append_assoc (front domain) (46 ∷ []) x)

utf8_behind : (f x : List ℕ) → IsUtf8 (f ++ 46 ∷ x) → IsUtf8 x
utf8_behind f x u =
    let s = f ++ 46 ∷ x in
    let seam : get_or s (length f) 0 ≡ 46 = get_or-append_seam f 46 x 0 in
    let l : length s ≡ length f + length (46 ∷ x) = length-append f (46 ∷ x) in
    let inside : length f < length s = omega (arith, l) in
    let low : get_or s (length f) 0 < 128 = omega (arith, seam) in
    let P : List ℕ → Type 0 = λ t. IsUtf8 t in
    subst P (drop-append-add f (46 ∷ x) 1) (IsUtf8-drop s (length f + 1) u (IsCharBoundary-after_ascii s (length f) u inside low))

own_is_utf8 : IsUtf8 (codes "$JS.API.")
unfolding encode
own_is_utf8 = (codes "$JS.API.", (refl, refl))

own_utf8 : (x : List ℕ) → IsUtf8 x → is_utf8 (codes "$JS.API." ++ x) ≡ true
own_utf8 x u = is_utf8-from_IsUtf8 (codes "$JS.API." ++ x) (IsUtf8-append (codes "$JS.API.") x own_is_utf8 u)

own_tokens : (x : List ℕ) → list_all is_literal_token (pieces 46 x) ≡ true → list_all is_literal_token (pieces 46 (codes "$JS.API." ++ x)) ≡ true
own_tokens x h = ap (λ ps. list_all is_literal_token ps) (pieces_append (codes "$JS.API") x) ∙ (list_all-append is_literal_token (pieces 46 (codes "$JS.API")) (pieces 46 x) ∙ h)

tokens_behind : (f x : List ℕ) → list_all is_literal_token (pieces 46 (f ++ 46 ∷ x)) ≡ true → list_all is_literal_token (pieces 46 x) ≡ true
tokens_behind f x h =
    let e : (list_all is_literal_token (pieces 46 f) && list_all is_literal_token (pieces 46 x)) ≡ true =
    sym (list_all-append is_literal_token (pieces 46 f) (pieces 46 x)) ∙ (ap (λ ps. list_all is_literal_token ps) (sym (pieces_append f x)) ∙ h) in
    (both (list_all is_literal_token (pieces 46 f)) (list_all is_literal_token (pieces 46 x)) e).1

own_length : (f x : List ℕ) → 7 ≤ length f → nat_le (length (f ++ 46 ∷ x)) 1024 ≡ true → nat_le (length (codes "$JS.API." ++ x)) 1024 ≡ true
own_length f x m h =
    let l : length (f ++ 46 ∷ x) ≡ length f + length (46 ∷ x) = length-append f (46 ∷ x) in
    let k : length (codes "$JS.API." ++ x) ≡ 8 + length x = length-append (codes "$JS.API.") x in
    let g : length (f ++ 46 ∷ x) ≤ 1024 = leb-true (length (f ++ 46 ∷ x)) 1024 h in
    le-leb (length (codes "$JS.API." ++ x)) 1024 (omega (arith, l, k, g, m))

all_three : (a b c : Bool) → a ≡ true → b ≡ true → c ≡ true → (a && b && c) ≡ true
all_three a b c p q r = rw (p, q, r) refl

own_subject : (f x : List ℕ) → 7 ≤ length f → is_subject (f ++ 46 ∷ x) ≡ true → is_subject (codes "$JS.API." ++ x) ≡ true
own_subject f x m h =
    let s = f ++ 46 ∷ x in
    let p = both (nat_le (length s) 1024 && is_utf8 s) (list_all is_literal_token (pieces 46 s)) h in
    let q = both (nat_le (length s) 1024) (is_utf8 s) p.0 in
    all_three (nat_le (length (codes "$JS.API." ++ x)) 1024) (is_utf8 (codes "$JS.API." ++ x)) (list_all is_literal_token (pieces 46 (codes "$JS.API." ++ x)))
    (own_length f x m q.0) (own_utf8 x (utf8_behind f x (IsUtf8-from_is_utf8 s q.1))) (own_tokens x (tokens_behind f x p.1))

front_length : (domain : List ℕ) → 7 ≤ length (front domain)
front_length domain =
    let l : length (front domain) ≡ length (codes "$JS." ++ domain) + 4 = length-append (codes "$JS." ++ domain) (codes ".API") in
    let k : length (codes "$JS." ++ domain) ≡ 4 + length domain = length-append (codes "$JS.") domain in
    omega (arith, l, k)

-- what stands behind the prefix of a subject makes a subject of the own interface
pub inbound_subject : (domain s : List ℕ) → is_subject s ≡ true → starts_with ◌==◌ s (domain_prefix domain) ≡ true → is_subject (codes "$JS.API." ++ drop (length (domain_prefix domain)) s) ≡ true
inbound_subject domain s h e =
    own_subject (front domain) (drop (length (domain_prefix domain)) s) (front_length domain) (ap (λ t. is_subject t) (sym (cut_at_prefix domain s e)) ∙ h)
