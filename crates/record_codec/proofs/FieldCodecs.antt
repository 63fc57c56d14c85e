-- Numbers, texts, options and lists.
use Rattle.std.proofs.Common.{◌≡◌, ℕ, zero, suc, ◌^◌, ◌<◌, ◌≤◌, Bool, true, false, cond, ltb, List, [], ◌∷◌, ◌++◌, length, take, drop, Option, Some, None, Result, Ok, Err, refl, sym, ap, subst, ◌∙◌, append_assoc, arith}
use Rattle.std.specs.Prelude.{IfSome, IsTrue}
use Rattle.std.specs.Int.{w32, w64, from_le_bytes, to_le_bytes}
use Rattle.std.specs.List.{flat_map, AllByRecursion}
use Rattle.std.specs.Str.{bytes_eq}
use Rattle.std.specs.Cmp.Lexicographic.{bytes_decides}
use Rattle.std.proofs.lemmas.Bool.{ltb-false, le-ltb}
use Rattle.std.proofs.lemmas.List.{take_at, drop_at, take-append-drop, length-append, length-take}
use Rattle.std.proofs.lemmas.List.Concat.{flat_map-cons}
use Rattle.std.proofs.lemmas.List.Elements.{All-from_recursion, recursion_from_All}
use Rattle.std.proofs.lemmas.Option.{same_Some}
use Rattle.std.proofs.lemmas.Nat.{le_bytes_4, le_bytes_8, from_le_bytes-to_le_bytes_4, from_le_bytes-to_le_bytes_8}
use Rattle.nats_text.specs.Headers.{HeaderBlock, written, read_block}
use Rattle.nats_text.specs.Text.{is_name, is_subject, is_pattern}
use Rattle.record_codec.specs.Spelling.{u32_text, u64_text, text_of, list_text, option_text, IsIn32, IsIn64, IsShort, IsShortName, IsShortPattern, IsShortSubject, AreFew}
use Rattle.record_codec.specs.Reading.{Reading, ◌>>=◌, u32_at, u64_at, text_at, legal_at, name_at, subject_at, pattern_at, block_of, or_left, headers_at, items_at, list_at, option_at, AreBytes}
use Rattle.record_codec.proofs.Codecs.{AreBytes-drop, AreBytes-take, AreBytes-rest, bind_ok, guard_ok, test_ok, ok_is, Takes, IsCodec, both, behind, first}

-- ---- numbers

abbrev found : ℕ → List ℕ → Reading ℕ
found n rest = Ok (n, rest)

u32_takes : (bytes : List ℕ) (y : ℕ × List ℕ) → AreBytes bytes → u32_at bytes ≡ Ok y → Takes bytes (u32_text y.0) y.1 × IsIn32 y.0
unfolding u32_at u32_text
u32_takes bytes y fits e =
    let front = take 4 bytes in
    let g = guard_ok (ltb (length bytes) 4) (length bytes) (from_le_bytes w32 front, drop 4 bytes) y e in
    let long : 4 ≤ length bytes = ltb-false _ _ g.0 in
    let front_fits = AreBytes-take 4 bytes fits in
    let back : to_le_bytes w32 (from_le_bytes w32 front) ≡ front = le_bytes_4 front _ (omega (arith, length-take 4 bytes)) front_fits refl in
    let below : from_le_bytes w32 front < 2 ^ 32 = omega (arith, front_fits 0, front_fits 1, front_fits 2, front_fits 3) in
    subst (λ (p : ℕ × List ℕ). Takes bytes (to_le_bytes w32 p.0) p.1 × IsIn32 p.0) g.1 (record { parts = sym (take-append-drop 4 bytes) ∙ ap (λ (t : List ℕ). t ++ drop 4 bytes) (sym back); fits = AreBytes-drop 4 bytes fits }, below)

u32_from : (front rest : List ℕ) (n : ℕ) → length front ≡ 4 → from_le_bytes w32 front ≡ n → u32_at (front ++ rest) ≡ Ok (n, rest)
unfolding u32_at
u32_from front rest n len is =
    let all = front ++ rest in
    let long : ltb (length all) 4 ≡ false = le-ltb _ _ (omega (arith, length-append front rest)) in
    ap (λ (b : Bool). cond b (Err (length all)) (found (from_le_bytes w32 (take 4 all)) (drop 4 all))) long
    ∙ ap (λ (t : List ℕ). found (from_le_bytes w32 t) (drop 4 all)) (take_at front rest 4 len)
    ∙ ap (λ (t : List ℕ). found (from_le_bytes w32 front) t) (drop_at front rest 4 len)
    ∙ ap (λ (k : ℕ). found k rest) is

u32_again : (n : ℕ) (rest : List ℕ) → IsIn32 n → u32_at (u32_text n ++ rest) ≡ Ok (n, rest)
unfolding u32_text
u32_again n rest lt = u32_from (to_le_bytes w32 n) rest n refl (from_le_bytes-to_le_bytes_4 n lt)

pub u32_codec : IsCodec u32_text IsIn32 u32_at
u32_codec = record { takes = u32_takes; again = u32_again }

u64_takes : (bytes : List ℕ) (y : ℕ × List ℕ) → AreBytes bytes → u64_at bytes ≡ Ok y → Takes bytes (u64_text y.0) y.1 × IsIn64 y.0
unfolding u64_at u64_text
u64_takes bytes y fits e =
    let front = take 8 bytes in
    let g = guard_ok (ltb (length bytes) 8) (length bytes) (from_le_bytes w64 front, drop 8 bytes) y e in
    let long : 8 ≤ length bytes = ltb-false _ _ g.0 in
    let front_fits = AreBytes-take 8 bytes fits in
    let back : to_le_bytes w64 (from_le_bytes w64 front) ≡ front = le_bytes_8 front _ (omega (arith, length-take 8 bytes)) front_fits refl in
    let below : from_le_bytes w64 front < 2 ^ 64 = omega (arith, front_fits 0, front_fits 1, front_fits 2, front_fits 3, front_fits 4, front_fits 5, front_fits 6, front_fits 7) in
    subst (λ (p : ℕ × List ℕ). Takes bytes (to_le_bytes w64 p.0) p.1 × IsIn64 p.0) g.1 (record { parts = sym (take-append-drop 8 bytes) ∙ ap (λ (t : List ℕ). t ++ drop 8 bytes) (sym back); fits = AreBytes-drop 8 bytes fits }, below)

u64_from : (front rest : List ℕ) (n : ℕ) → length front ≡ 8 → from_le_bytes w64 front ≡ n → u64_at (front ++ rest) ≡ Ok (n, rest)
unfolding u64_at
u64_from front rest n len is =
    let all = front ++ rest in
    let long : ltb (length all) 8 ≡ false = le-ltb _ _ (omega (arith, length-append front rest)) in
    ap (λ (b : Bool). cond b (Err (length all)) (found (from_le_bytes w64 (take 8 all)) (drop 8 all))) long
    ∙ ap (λ (t : List ℕ). found (from_le_bytes w64 t) (drop 8 all)) (take_at front rest 8 len)
    ∙ ap (λ (t : List ℕ). found (from_le_bytes w64 front) t) (drop_at front rest 8 len)
    ∙ ap (λ (k : ℕ). found k rest) is

u64_again : (n : ℕ) (rest : List ℕ) → IsIn64 n → u64_at (u64_text n ++ rest) ≡ Ok (n, rest)
unfolding u64_text
u64_again n rest lt = u64_from (to_le_bytes w64 n) rest n refl (from_le_bytes-to_le_bytes_8 n lt)

pub u64_codec : IsCodec u64_text IsIn64 u64_at
u64_codec = record { takes = u64_takes; again = u64_again }

-- ---- texts

text_takes : (bytes : List ℕ) (y : List ℕ × List ℕ) → AreBytes bytes → text_at bytes ≡ Ok y → Takes bytes (text_of y.0) y.1 × IsShort y.0
unfolding text_at text_of
text_takes bytes y fits e =
    first u32_codec bytes (λ n. cond (ltb (length n.1) n.0) (Err (length bytes)) (Ok (take n.0 n.1, drop n.0 n.1))) y _ fits e λ n rest t in_32 e.
    let g = guard_ok (ltb (length rest) n) (length bytes) (take n rest, drop n rest) y e in
    let long : n ≤ length rest = ltb-false _ _ g.0 in
    let len : length (take n rest) ≡ n = omega (arith, length-take n rest) in
    let parts : Takes rest (take n rest) (drop n rest) = record { parts = sym (take-append-drop n rest); fits = AreBytes-drop n rest t.fits } in
    let whole : Takes bytes (u32_text (length (take n rest)) ++ take n rest) (drop n rest) = subst (λ (k : ℕ). Takes bytes (u32_text k ++ take n rest) (drop n rest)) (sym len) (both t parts) in
    subst (λ (p : List ℕ × List ℕ). Takes bytes (u32_text (length p.0) ++ p.0) p.1 × IsShort p.0) g.1 (whole, omega (arith, len, in_32))

text_again : (text rest : List ℕ) → IsShort text → text_at (text_of text ++ rest) ≡ Ok (text, rest)
unfolding text_at text_of
text_again text rest lt =
    let long : ltb (length (text ++ rest)) (length text) ≡ false = le-ltb _ _ (omega (arith, length-append text rest)) in
    ap text_at (append_assoc (u32_text (length text)) text rest) ∙ rw (u32_again (length text) (text ++ rest) lt, long, take_at text rest (length text) refl, drop_at text rest (length text) refl) refl

pub text_codec : IsCodec text_of IsShort text_at
text_codec = record { takes = text_takes; again = text_again }

-- a text that a test lets through
pub legal_codec : (legal : List ℕ → Bool) → IsCodec text_of (λ text. IsShort text × IsTrue (legal text)) (legal_at legal)
unfolding legal_at
legal_codec legal = record {
  takes = λ bytes y fits e.
      first text_codec bytes (λ text. cond (legal text.0) (Ok text) (Err (length bytes))) y _ fits e λ text rest t short e.
      let g = test_ok (legal text) (length bytes) (text, rest) y e in
      subst (λ (p : List ℕ × List ℕ). Takes bytes (text_of p.0) p.1 × (IsShort p.0 × IsTrue (legal p.0))) g.1 (t, (short, g.0));
  again = λ text rest is. rw (text_again text rest is.0, is.1) refl;
}

pub name_codec : IsCodec text_of IsShortName name_at
name_codec = legal_codec is_name

pub subject_codec : IsCodec text_of IsShortSubject subject_at
subject_codec = legal_codec is_subject

pub pattern_codec : IsCodec text_of IsShortPattern pattern_at
pattern_codec = legal_codec is_pattern

-- ---- header blocks

abbrev pub AreShortHeaders : HeaderBlock → Type 0
AreShortHeaders block = IsShort (written block) × (read_block (written block) ≡ Ok block)

or_left_ok : {A : Type 0} (left : ℕ) (o : Option A) (rest : List ℕ) (y : A × List ℕ) → or_left left o rest ≡ Ok y → (o ≡ Some y.0) × (rest ≡ y.1)
or_left_ok left (Some x) rest y e = (ap (λ (p : _ × List ℕ). Some p.0) (ok_is (x, rest) y e), ap (λ (p : _ × List ℕ). p.1) (ok_is (x, rest) y e))
or_left_ok left None rest y e = absurd cc

same_block : (same : Bool) (text : List ℕ) (it block : HeaderBlock) → (IsTrue same → written it ≡ text) → cond same (Some it) None ≡ Some block → (it ≡ block) × (written block ≡ text)
same_block true text it block decides e = let is : it ≡ block = same_Some it block e in (is, subst (λ (b : HeaderBlock). written b ≡ text) is (decides refl))
same_block false text it block decides e = absurd cc

block_of_some : (text : List ℕ) (read : Result HeaderBlock ℕ) (block : HeaderBlock) → block_of text read ≡ Some block → (read ≡ Ok block) × (written block ≡ text)
block_of_some text (Err place) block e = absurd cc
block_of_some text (Ok it) block e =
    let same = same_block (bytes_eq (written it) text) text it block ((bytes_decides (written it) text).0) e in
    (ap (λ (b : HeaderBlock). Ok b) same.0, same.1)

headers_takes : (bytes : List ℕ) (y : HeaderBlock × List ℕ) → AreBytes bytes → headers_at bytes ≡ Ok y → Takes bytes (text_of (written y.0)) y.1 × AreShortHeaders y.0
unfolding headers_at
headers_takes bytes y fits e =
    first text_codec bytes (λ text. or_left (length bytes) (block_of text.0 (read_block text.0)) text.1) y _ fits e λ text rest t short e.
    let o = or_left_ok (length bytes) (block_of text (read_block text)) rest y e in
    let b = block_of_some text (read_block text) y.0 o.0 in (
      subst (λ (r : List ℕ). Takes bytes (text_of (written y.0)) r) o.1 (subst (λ (w : List ℕ). Takes bytes (text_of w) rest) (sym b.1) t),
      (subst IsShort (sym b.1) short, ap read_block b.1 ∙ b.0),
    )

headers_again : (block : HeaderBlock) (rest : List ℕ) → AreShortHeaders block → headers_at (text_of (written block) ++ rest) ≡ Ok (block, rest)
unfolding headers_at
headers_again block rest is =
    let same : bytes_eq (written block) (written block) ≡ true = (bytes_decides (written block) (written block)).1 refl in
    rw (text_again (written block) rest is.0, is.1, same) refl

pub headers_codec : IsCodec (λ block. text_of (written block)) AreShortHeaders headers_at
headers_codec = record { takes = headers_takes; again = headers_again }

-- ---- options

option_takes : {A : Type 0} {text : A → List ℕ} {Is : A → Type 0} {at : List ℕ → Reading A} → IsCodec text Is at → (bytes : List ℕ) (y : Option A × List ℕ) → AreBytes bytes → option_at at bytes ≡ Ok y → Takes bytes (option_text text y.0) y.1 × IfSome y.0 Is
unfolding option_at option_text
option_takes codec [] y fits e = absurd cc
option_takes {A} {text} {Is} {at} codec (zero ∷ bytes) y fits e =
    subst (λ (p : Option A × List ℕ). Takes (0 ∷ bytes) (option_text text p.0) p.1 × IfSome p.0 Is) (ok_is (None, bytes) y e) (record { parts = refl; fits = AreBytes-rest 0 bytes fits }, tt)
option_takes {A} {text} {Is} {at} codec (suc zero ∷ bytes) y fits e =
    first codec bytes (λ x. Ok (Some x.0, x.1)) y _ (AreBytes-rest 1 bytes fits) e λ x rest t is e.
    subst (λ (p : Option A × List ℕ). Takes (1 ∷ bytes) (option_text text p.0) p.1 × IfSome p.0 Is) (ok_is (Some x, rest) y e) (behind 1 t, is)
option_takes codec (suc (suc b) ∷ bytes) y fits e = absurd cc

option_again : {A : Type 0} {text : A → List ℕ} {Is : A → Type 0} {at : List ℕ → Reading A} → IsCodec text Is at → (o : Option A) (rest : List ℕ) → IfSome o Is → option_at at (option_text text o ++ rest) ≡ Ok (o, rest)
unfolding option_at option_text
option_again codec None rest is = refl
option_again codec (Some x) rest is = rw (codec.again x rest is) refl

pub option_codec : {A : Type 0} {text : A → List ℕ} {Is : A → Type 0} {at : List ℕ → Reading A} → IsCodec text Is at → IsCodec (option_text text) (λ o. IfSome o Is) (option_at at)
option_codec codec = record { takes = option_takes codec; again = option_again codec }

-- ---- lists

items_take : {A : Type 0} {text : A → List ℕ} {Is : A → Type 0} {at : List ℕ → Reading A} → IsCodec text Is at → (n : ℕ) (bytes : List ℕ) (y : List A × List ℕ) → AreBytes bytes → items_at at n bytes ≡ Ok y → Takes bytes (flat_map text y.0) y.1 × (length y.0 ≡ n) × AllByRecursion Is y.0
unfolding items_at
items_take {A} {text} {Is} {at} codec zero bytes y fits e =
    subst (λ (p : List A × List ℕ). Takes bytes (flat_map text p.0) p.1 × (length p.0 ≡ 0) × AllByRecursion Is p.0) (ok_is ([], bytes) y e) (record { parts = refl; fits = fits }, refl, tt)
items_take {A} {text} {Is} {at} codec (suc n) bytes y fits e =
    first codec bytes (λ it. items_at at n it.1 >>= λ others. Ok (it.0 ∷ others.0, others.1)) y _ fits e λ x rest t is e.
    let b = bind_ok (items_at at n rest) (λ others. Ok (x ∷ others.0, others.1)) y e in
    let o = items_take codec n rest b.0 t.fits b.1 in
    let whole : Takes bytes (text x ++ flat_map text b.0.0) b.0.1 = both t o.0 in
    let made : List A × List ℕ = (x ∷ b.0.0, b.0.1) in
    subst (λ (p : List A × List ℕ). Takes bytes (flat_map text p.0) p.1 × (length p.0 ≡ suc n) × AllByRecursion Is p.0) (ok_is made y b.2) (rw flat_map-cons whole, ap suc o.1, (is, o.2))

items_again : {A : Type 0} {text : A → List ℕ} {Is : A → Type 0} {at : List ℕ → Reading A} → IsCodec text Is at → (xs : List A) (rest : List ℕ) → AllByRecursion Is xs → items_at at (length xs) (flat_map text xs ++ rest) ≡ Ok (xs, rest)
unfolding items_at
items_again codec [] rest are = refl
items_again {A} {text} {Is} {at} codec (x ∷ xs) rest are =
    let regrouped : flat_map text (x ∷ xs) ++ rest ≡ text x ++ (flat_map text xs ++ rest) = ap (λ (r : List ℕ). r ++ rest) (flat_map-cons text x xs) ∙ append_assoc (text x) (flat_map text xs) rest in
    ap (items_at at (suc (length xs))) regrouped ∙ rw (codec.again x (flat_map text xs ++ rest) are.0, items_again codec xs rest are.1) refl

list_takes : {A : Type 0} {text : A → List ℕ} {Is : A → Type 0} {at : List ℕ → Reading A} → IsCodec text Is at → (bytes : List ℕ) (y : List A × List ℕ) → AreBytes bytes → list_at at bytes ≡ Ok y → Takes bytes (list_text text y.0) y.1 × AreFew Is y.0
unfolding list_at list_text
list_takes {A} {text} {Is} {at} codec bytes y fits e =
    first u32_codec bytes (λ n. items_at at n.0 n.1) y _ fits e λ n rest t in_32 e.
    let o = items_take codec n rest y t.fits e in
    (subst (λ (k : ℕ). Takes bytes (u32_text k ++ flat_map text y.0) y.1) (sym o.1) (both t o.0), (omega (arith, o.1, in_32), All-from_recursion Is y.0 o.2))

list_again : {A : Type 0} {text : A → List ℕ} {Is : A → Type 0} {at : List ℕ → Reading A} → IsCodec text Is at → (xs : List A) (rest : List ℕ) → AreFew Is xs → list_at at (list_text text xs ++ rest) ≡ Ok (xs, rest)
unfolding list_at list_text
list_again {A} {text} {Is} {at} codec xs rest are =
    ap (list_at at) (append_assoc (u32_text (length xs)) (flat_map text xs) rest) ∙ rw (u32_again (length xs) (flat_map text xs ++ rest) are.0, items_again codec xs rest (recursion_from_All Is xs are.1)) refl

pub list_codec : {A : Type 0} {text : A → List ℕ} {Is : A → Type 0} {at : List ℕ → Reading A} → IsCodec text Is at → IsCodec (list_text text) (AreFew Is) (list_at at)
list_codec codec = record { takes = list_takes codec; again = list_again codec }
