-- A walk over characters takes just what is UTF-8.
use Rattle.std.proofs.Common.{◌≡◌, ℕ, ◌+◌, ◌-◌, ◌*◌, ◌/◌, ◌<◌, ◌≤◌, ◌⊎◌, List, [], ◌∷◌, ◌++◌, length, Bool, true, false, if◌then◌else◌, Some, None, refl, sym, ap, ◌∙◌, inl, inr, zero, suc, arith, le-leb}
use Rattle.std.specs.Int.{is_in_range}
use Rattle.std.specs.Str.{IsUtf8, is_utf8}
use Rattle.std.proofs.lemmas.Bool.{false≢true, and_parts, cases_lt, cases_eq, leb-true}
use Rattle.std.proofs.lemmas.Bool.Decides.{same_from_decides, nat_tests}
use Rattle.std.proofs.lemmas.Str.{IsUtf8-nil, IsUtf8-append, IsUtf8-from_is_utf8, is_utf8-from_IsUtf8}
use Rattle.std.proofs.str.Laws.{Follows, Scalar, one, two, three, four}
use Rattle.std.proofs.str.Valid.{of_one, of_two, of_three, of_four}
use lib.Utf8.{scalar, scalars, encode, encodes, scalar_cases, next}
use Rattle.nats_text.specs.Scan.{first_byte, within, character_after, character_need}
use Rattle.nats_text.specs.declared.scan.Character.{Character}
use Rattle.nats_text.specs.declared.scan.Character.TheVariants.{Whole, One, Two, Three, AfterE0, AfterEd, AfterF0, AfterF4}
use Rattle.nats_text.proofs.Accepts.{passes, accepts}

abbrev takes : Character → List ℕ → Bool
takes = accepts character_after character_need

-- ---- the steps
first_one : (b : ℕ) → b < 128 → first_byte b ≡ Some Whole
first_one b h = grind (arith, nat_tests)

first_two : (b : ℕ) → 194 ≤ b → b < 224 → first_byte b ≡ Some One
first_two b l h = grind (arith, nat_tests)

first_three : (b : ℕ) → 225 ≤ b → b < 240 → (b ≡ 237 → ⊥) → first_byte b ≡ Some Two
first_three b l h n = grind (arith, nat_tests)

first_four : (b : ℕ) → 241 ≤ b → b < 244 → first_byte b ≡ Some Three
first_four b l h = grind (arith, nat_tests)

first_none : (b : ℕ) → 128 ≤ b → (b < 194) ⊎ (245 ≤ b) → first_byte b ≡ None
first_none b l h = grind (arith, nat_tests)

within_in : (least most : ℕ) (t : Character) (b : ℕ) → least ≤ b → b ≤ most → within least most t b ≡ Some t
within_in least most t b l h = rw (le-leb least b l, le-leb b most h) refl

step : (s : Character) (b : ℕ) (t : Character) (bs : List ℕ) → character_after s b ≡ Some t → takes s (b ∷ bs) ≡ takes t bs
step s b t bs e = ap (λ r. passes r (λ u. takes u bs)) e

-- ---- what a character's bytes lead to
read_two : (x y : ℕ) (rest : List ℕ) → 194 ≤ x → x < 224 → Follows y → takes Whole (x ∷ y ∷ rest) ≡ takes Whole rest
read_two x y rest l h f = step Whole x One (y ∷ rest) (first_two x l h) ∙ step One y Whole rest (within_in 128 191 Whole y f.0 (omega (arith, f.1)))

read_three : (x y z : ℕ) (rest : List ℕ) → 224 ≤ x → x < 240 → Follows y → Follows z → (x ≡ 224 → 160 ≤ y) → (x ≡ 237 → y < 160) → takes Whole (x ∷ y ∷ z ∷ rest) ≡ takes Whole rest
read_three x y z rest l h f g low high = by (cases_eq x 224) (cases_eq x 237)
  where
    last : takes One (z ∷ rest) ≡ takes Whole rest
    last = step One z Whole rest (within_in 128 191 Whole z g.0 (omega (arith, g.1)))

    by : (x ≡ 224) ⊎ (x ≡ 224 → ⊥) → (x ≡ 237) ⊎ (x ≡ 237 → ⊥) → takes Whole (x ∷ y ∷ z ∷ rest) ≡ takes Whole rest
    by (inl e) _ = step Whole x AfterE0 (y ∷ z ∷ rest) (ap first_byte e) ∙ step AfterE0 y One (z ∷ rest) (within_in 160 191 One y (low e) (omega (arith, f.1))) ∙ last
    by (inr n) (inl e) = step Whole x AfterEd (y ∷ z ∷ rest) (ap first_byte e) ∙ step AfterEd y One (z ∷ rest) (within_in 128 159 One y f.0 (omega (arith, high e))) ∙ last
    by (inr n) (inr m) = step Whole x Two (y ∷ z ∷ rest) (first_three x (omega arith) h m) ∙ step Two y One (z ∷ rest) (within_in 128 191 One y f.0 (omega (arith, f.1))) ∙ last

read_four : (x y z w : ℕ) (rest : List ℕ) → 240 ≤ x → x < 245 → Follows y → Follows z → Follows w → (x ≡ 240 → 144 ≤ y) → (x ≡ 244 → y < 144) → takes Whole (x ∷ y ∷ z ∷ w ∷ rest) ≡ takes Whole rest
read_four x y z w rest l h f g k low high = by (cases_eq x 240) (cases_eq x 244)
  where
    last : takes Two (z ∷ w ∷ rest) ≡ takes Whole rest
    last = step Two z One (w ∷ rest) (within_in 128 191 One z g.0 (omega (arith, g.1))) ∙ step One w Whole rest (within_in 128 191 Whole w k.0 (omega (arith, k.1)))

    by : (x ≡ 240) ⊎ (x ≡ 240 → ⊥) → (x ≡ 244) ⊎ (x ≡ 244 → ⊥) → takes Whole (x ∷ y ∷ z ∷ w ∷ rest) ≡ takes Whole rest
    by (inl e) _ = step Whole x AfterF0 (y ∷ z ∷ w ∷ rest) (ap first_byte e) ∙ step AfterF0 y Two (z ∷ w ∷ rest) (within_in 144 191 Two y (low e) (omega (arith, f.1))) ∙ last
    by (inr n) (inl e) = step Whole x AfterF4 (y ∷ z ∷ w ∷ rest) (ap first_byte e) ∙ step AfterF4 y Two (z ∷ w ∷ rest) (within_in 128 143 Two y f.0 (omega (arith, high e))) ∙ last
    by (inr n) (inr m) = step Whole x Three (y ∷ z ∷ w ∷ rest) (first_four x (omega arith) (omega arith)) ∙ step Three y Two (z ∷ w ∷ rest) (within_in 128 191 Two y f.0 (omega (arith, f.1))) ∙ last

follows : (n : ℕ) → Follows (next n)
follows n = (omega arith, omega arith)

read_char : (c : ℕ) (rest : List ℕ) → Scalar c → takes Whole (encode c ++ rest) ≡ takes Whole rest
read_char c rest k = by (cases_lt c 128) (cases_lt c 2048) (cases_lt c 65536)
  where
    by : (c < 128) ⊎ (128 ≤ c) → (c < 2048) ⊎ (2048 ≤ c) → (c < 65536) ⊎ (65536 ≤ c) → takes Whole (encode c ++ rest) ≡ takes Whole rest
    by (inl h) _ _ = rw (one c h) (step Whole c Whole rest (first_one c h))
    by (inr l) (inl h) _ = rw (two c l h) (read_two (192 + c / 64) (next c) rest (omega arith) (omega arith) (follows c))
    by (inr _) (inr l) (inl h) = rw (three c l h) (read_three (224 + c / 4096) (next (c / 64)) (next c) rest (omega arith) (omega arith) (follows (c / 64)) (follows c) (λ e. omega arith) (λ e. grind arith))
    by (inr _) (inr _) (inr l) = rw (four c l) (read_four (240 + c / 262144) (next (c / 4096)) (next (c / 64)) (next c) rest (omega arith) (grind arith) (follows (c / 4096)) (follows (c / 64)) (follows c) (λ e. omega arith) (λ e. grind arith))

takes-encodes : (cs : List ℕ) → scalars cs ≡ true → takes Whole (encodes cs) ≡ true
takes-encodes [] e = refl
takes-encodes (c ∷ cs) e =
    let parts = and_parts (scalar c) (scalars cs) e in
    read_char c (encodes cs) (scalar_cases c parts.0) ∙ takes-encodes cs parts.1

takes-from_IsUtf8 : (bs : List ℕ) → IsUtf8 bs → takes Whole bs ≡ true
takes-from_IsUtf8 bs u = ap (takes Whole) (sym u.1.1) ∙ takes-encodes u.0 u.1.0

-- ---- what a walk took
-- a byte in a range, and what is behind it
record Split (least most : ℕ) (t : Character) (bs : List ℕ) : Type 0 where
  pub byte : ℕ
  pub rest : List ℕ
  pub is : bs ≡ byte ∷ rest
  pub low : least ≤ byte
  pub high : byte ≤ most
  pub takes : takes t rest ≡ true

split_at : (least most : ℕ) (t : Character) (b : ℕ) (bs : List ℕ) → passes (within least most t b) (λ u. takes u bs) ≡ true → Split least most t (b ∷ bs)
split_at least most t b bs e = by (is_in_range least most b) refl e
  where
    by : (r : Bool) → is_in_range least most b ≡ r → passes (if r then Some t else None) (λ u. takes u bs) ≡ true → Split least most t (b ∷ bs)
    by true p q = let parts = and_parts _ _ p in record { byte = b; rest = bs; is = refl; low = leb-true least b parts.0; high = leb-true b most parts.1; takes = q }
    by false p q = absurd (false≢true q)

split_one : (bs : List ℕ) → takes One bs ≡ true → Split 128 191 Whole bs
split_one [] e = absurd (false≢true e)
split_one (b ∷ bs) e = split_at 128 191 Whole b bs e

split_two : (bs : List ℕ) → takes Two bs ≡ true → Split 128 191 One bs
split_two [] e = absurd (false≢true e)
split_two (b ∷ bs) e = split_at 128 191 One b bs e

split_three : (bs : List ℕ) → takes Three bs ≡ true → Split 128 191 Two bs
split_three [] e = absurd (false≢true e)
split_three (b ∷ bs) e = split_at 128 191 Two b bs e

split_e0 : (bs : List ℕ) → takes AfterE0 bs ≡ true → Split 160 191 One bs
split_e0 [] e = absurd (false≢true e)
split_e0 (b ∷ bs) e = split_at 160 191 One b bs e

split_ed : (bs : List ℕ) → takes AfterEd bs ≡ true → Split 128 159 One bs
split_ed [] e = absurd (false≢true e)
split_ed (b ∷ bs) e = split_at 128 159 One b bs e

split_f0 : (bs : List ℕ) → takes AfterF0 bs ≡ true → Split 144 191 Two bs
split_f0 [] e = absurd (false≢true e)
split_f0 (b ∷ bs) e = split_at 144 191 Two b bs e

split_f4 : (bs : List ℕ) → takes AfterF4 bs ≡ true → Split 128 143 Two bs
split_f4 [] e = absurd (false≢true e)
split_f4 (b ∷ bs) e = split_at 128 143 Two b bs e

char_two : (x y : ℕ) (rest : List ℕ) → 194 ≤ x → x < 224 → Follows y → IsUtf8 rest → IsUtf8 (x ∷ y ∷ rest)
char_two x y rest l h f u = IsUtf8-append (x ∷ y ∷ []) rest (of_two (x ∷ y ∷ []) 0 (omega arith) (l, h) f) u

char_three : (x y z : ℕ) (rest : List ℕ) → 224 ≤ x → x < 240 → Follows y → Follows z → (x ≡ 224 → 160 ≤ y) → (x ≡ 237 → y < 160) → IsUtf8 rest → IsUtf8 (x ∷ y ∷ z ∷ rest)
char_three x y z rest l h f g low high u =
    let all : List ℕ = x ∷ y ∷ z ∷ [] in
    let c : ℕ = (x - 224) * 4096 + (y - 128) * 64 + (z - 128) in
    let least : 2048 ≤ c = grind arith in
    let apart : (c < 55296) ⊎ (57344 ≤ c) = grind arith in
    IsUtf8-append all rest (of_three all 0 (omega arith) (l, h) f g least apart) u

char_four : (x y z w : ℕ) (rest : List ℕ) → 240 ≤ x → x < 245 → Follows y → Follows z → Follows w → (x ≡ 240 → 144 ≤ y) → (x ≡ 244 → y < 144) → IsUtf8 rest → IsUtf8 (x ∷ y ∷ z ∷ w ∷ rest)
char_four x y z w rest l h f g k low high u =
    let all : List ℕ = x ∷ y ∷ z ∷ w ∷ [] in
    let top : ℕ = (x - 240) * 64 + (y - 128) in
    let least : 16 ≤ top = grind arith in
    let most : top < 272 = grind arith in
    IsUtf8-append all rest (of_four all 0 (omega arith) l f g k (least, most)) u

-- what the first byte of a text begins
data Lead (b : ℕ) : Type 0 where
  is_one : b < 128 → Lead b
  is_two : 194 ≤ b → b < 224 → Lead b
  is_three : 224 ≤ b → b < 240 → Lead b
  is_four : 240 ≤ b → b < 245 → Lead b
  is_none : first_byte b ≡ None → Lead b

lead : (b : ℕ) → Lead b
lead b = by (cases_lt b 128) (cases_lt b 194) (cases_lt b 224) (cases_lt b 240) (cases_lt b 245)
  where
    by : (b < 128) ⊎ (128 ≤ b) → (b < 194) ⊎ (194 ≤ b) → (b < 224) ⊎ (224 ≤ b) → (b < 240) ⊎ (240 ≤ b) → (b < 245) ⊎ (245 ≤ b) → Lead b
    by (inl h) _ _ _ _ = is_one h
    by (inr l) (inl h) _ _ _ = is_none (first_none b l (inl h))
    by (inr _) (inr l) (inl h) _ _ = is_two l h
    by (inr _) (inr _) (inr l) (inl h) _ = is_three l h
    by (inr _) (inr _) (inr _) (inr l) (inl h) = is_four l h
    by (inr l) (inr _) (inr _) (inr _) (inr h) = is_none (first_none b l (inr h))

-- a walk goes on from the state behind a first byte
behind : (b : ℕ) (t : Character) (bs : List ℕ) → first_byte b ≡ Some t → takes Whole (b ∷ bs) ≡ true → takes t bs ≡ true
behind b t bs e w = sym (step Whole b t bs e) ∙ w

-- shorter texts, of which the claim holds already
abbrev Below : ℕ → Type 0
Below n = (rest : List ℕ) → length rest ≤ n → takes Whole rest ≡ true → IsUtf8 rest

from_two : (n x : ℕ) (bs : List ℕ) → Below n → length bs ≤ n → 194 ≤ x → x < 224 → takes One bs ≡ true → IsUtf8 (x ∷ bs)
from_two n x bs below short l h w =
    let s = split_one bs w in
    rw s.is (char_two x s.byte s.rest l h (s.low, omega (arith, s.high)) (below s.rest (omega (arith, ap length s.is)) s.takes))

module _ (n x : ℕ) (bs : List ℕ) (below : Below n) (short : length bs ≤ n) where
  -- the second byte of a character of three, and its last
  three_from : (least most : ℕ) → 224 ≤ x → x < 240 → 128 ≤ least → most < 192 → (x ≡ 224 → 160 ≤ least) → (x ≡ 237 → most < 160) → Split least most One bs → IsUtf8 (x ∷ bs)
  three_from least most l h inside outside low high s =
      let t = split_one s.rest s.takes in
      let first : Follows s.byte = (omega (arith, s.low), omega (arith, s.high)) in
      let second : Follows t.byte = (t.low, omega (arith, t.high)) in
      let text = char_three x s.byte t.byte t.rest l h first second (λ e. omega (arith, low e, s.low)) (λ e. omega (arith, high e, s.high)) (below t.rest (omega (arith, ap length s.is, ap length t.is)) t.takes) in
      rw (s.is, t.is) text

  four_from : (least most : ℕ) → 240 ≤ x → x < 245 → 128 ≤ least → most < 192 → (x ≡ 240 → 144 ≤ least) → (x ≡ 244 → most < 144) → Split least most Two bs → IsUtf8 (x ∷ bs)
  four_from least most l h inside outside low high s =
      let t = split_two s.rest s.takes in
      let v = split_one t.rest t.takes in
      let first : Follows s.byte = (omega (arith, s.low), omega (arith, s.high)) in
      let second : Follows t.byte = (t.low, omega (arith, t.high)) in
      let third : Follows v.byte = (v.low, omega (arith, v.high)) in
      let text = char_four x s.byte t.byte v.byte v.rest l h first second third (λ e. omega (arith, low e, s.low)) (λ e. omega (arith, high e, s.high)) (below v.rest (omega (arith, ap length s.is, ap length t.is, ap length v.is)) v.takes) in
      rw (s.is, t.is, v.is) text

  from_three : 224 ≤ x → x < 240 → takes Whole (x ∷ bs) ≡ true → IsUtf8 (x ∷ bs)
  from_three l h w = by (cases_eq x 224) (cases_eq x 237)
    where
      by : (x ≡ 224) ⊎ (x ≡ 224 → ⊥) → (x ≡ 237) ⊎ (x ≡ 237 → ⊥) → IsUtf8 (x ∷ bs)
      by (inl e) _ = three_from 160 191 l h (omega arith) (omega arith) (λ _. omega arith) (λ f. omega arith) (split_e0 bs (behind x AfterE0 bs (ap first_byte e) w))
      by (inr m) (inl e) = three_from 128 159 l h (omega arith) (omega arith) (λ f. absurd (m f)) (λ _. omega arith) (split_ed bs (behind x AfterEd bs (ap first_byte e) w))
      by (inr m) (inr k) = three_from 128 191 l h (omega arith) (omega arith) (λ f. absurd (m f)) (λ f. absurd (k f)) (split_two bs (behind x Two bs (first_three x (omega arith) h k) w))

  from_four : 240 ≤ x → x < 245 → takes Whole (x ∷ bs) ≡ true → IsUtf8 (x ∷ bs)
  from_four l h w = by (cases_eq x 240) (cases_eq x 244)
    where
      by : (x ≡ 240) ⊎ (x ≡ 240 → ⊥) → (x ≡ 244) ⊎ (x ≡ 244 → ⊥) → IsUtf8 (x ∷ bs)
      by (inl e) _ = four_from 144 191 l h (omega arith) (omega arith) (λ _. omega arith) (λ f. omega arith) (split_f0 bs (behind x AfterF0 bs (ap first_byte e) w))
      by (inr m) (inl e) = four_from 128 143 l h (omega arith) (omega arith) (λ f. absurd (m f)) (λ _. omega arith) (split_f4 bs (behind x AfterF4 bs (ap first_byte e) w))
      by (inr m) (inr k) = four_from 128 191 l h (omega arith) (omega arith) (λ f. absurd (m f)) (λ f. absurd (k f)) (split_three bs (behind x Three bs (first_four x (omega arith) (omega arith)) w))

  from_lead : Lead x → takes Whole (x ∷ bs) ≡ true → IsUtf8 (x ∷ bs)
  from_lead (is_one h) w = IsUtf8-append (x ∷ []) bs (of_one (x ∷ []) 0 (omega arith) h) (below bs short (behind x Whole bs (first_one x h) w))
  from_lead (is_two l h) w = from_two n x bs below short l h (behind x One bs (first_two x l h) w)
  from_lead (is_three l h) w = from_three l h w
  from_lead (is_four l h) w = from_four l h w
  from_lead (is_none e) w = absurd (false≢true (sym (ap (λ r. passes r (λ u. takes u bs)) e) ∙ w))

IsUtf8-from_takes : (n : ℕ) → Below n
IsUtf8-from_takes n [] short w = IsUtf8-nil
IsUtf8-from_takes zero (b ∷ bs) short w = absurd (omega arith)
IsUtf8-from_takes (suc n) (b ∷ bs) short w = from_lead n b bs (IsUtf8-from_takes n) (omega arith) (lead b) w

-- what is UTF-8, byte by byte
pub is_utf8-takes : (bs : List ℕ) → is_utf8 bs ≡ accepts character_after character_need Whole bs
is_utf8-takes bs =
    same_from_decides (is_utf8 bs) (takes Whole bs) (IsUtf8-from_is_utf8 bs, is_utf8-from_IsUtf8 bs) (IsUtf8-from_takes (length bs) bs (omega arith), takes-from_IsUtf8 bs)
