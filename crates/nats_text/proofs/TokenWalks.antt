-- A walk over tokens takes just the texts all of whose tokens are good.
use Rattle.std.proofs.Common.{◌≡◌, ℕ, List, [], ◌∷◌, ◌++◌, length, Bool, true, false, not, ◌&&◌, ◌==◌, if◌then◌else◌, nat_lt, refl, ap, ◌∙◌, arith, eqb-true, append_assoc, append-nil, lt-ltb}
use Rattle.std.specs.List.{list_all}
use Rattle.std.specs.Str.{bytes_eq}
use Rattle.std.proofs.lemmas.Bool.{and_right, and_from}
use Rattle.std.proofs.lemmas.List.Folds.{list_all-append}
use Rattle.nats_text.specs.Text.{tokens, is_subject_byte, is_token, is_literal_token, are_pattern_tokens, star, tail}
use Rattle.nats_text.specs.Scan.{longer, after_dot, token_after, token_need}
use Rattle.nats_text.specs.declared.scan.Kind.{Kind}
use Rattle.nats_text.specs.declared.scan.Kind.TheVariants.{Subject, Pattern}
use Rattle.nats_text.specs.declared.scan.Token.{Token}
use Rattle.nats_text.specs.declared.scan.Token.TheVariants.{Empty, Star, Tail, Literal}
use Rattle.nats_text.proofs.Accepts.{passes, accepts}

-- the tokens of a kind of text
abbrev pub good_tokens : Kind → List (List ℕ) → Bool
good_tokens Subject = list_all is_literal_token
good_tokens Pattern = are_pattern_tokens

abbrev takes : Kind → Token → List ℕ → Bool
takes kind = accepts (token_after kind) (token_need kind)

-- what stands of a token
abbrev spot : List ℕ → Token
spot [] = Empty
spot (b ∷ []) = longer Empty b
spot (b ∷ c ∷ bs) = Literal

-- bytes before the first token
abbrev ahead : List ℕ → List (List ℕ) → List (List ℕ)
ahead front [] = front ∷ []
ahead front (t ∷ ts) = (front ++ t) ∷ ts

literal_longer : (x y : Bool) (b : ℕ) → longer (if x then Star else (if y then Tail else Literal)) b ≡ Literal
literal_longer true y b = refl
literal_longer false true b = refl
literal_longer false false b = refl

spot-push : (front : List ℕ) (b : ℕ) → longer (spot front) b ≡ spot (front ++ b ∷ [])
spot-push [] b = refl
spot-push (c ∷ []) b = literal_longer (c == 42) (c == 62) b
spot-push (c ∷ d ∷ cs) b = refl

not_tail : (b c : ℕ) (bs : List ℕ) → not (bytes_eq (b ∷ c ∷ bs) tail) ≡ true
not_tail b c bs = ap not (and_right (b == 62) false refl)

long_token : (b c : ℕ) (bs : List ℕ) → list_all is_subject_byte (b ∷ c ∷ bs) ≡ true → is_token (b ∷ c ∷ bs) ≡ true
long_token b c bs all = and_from _ _ (lt-ltb 0 (length (b ∷ c ∷ bs)) (omega arith)) all

long_literal : (b c : ℕ) (bs : List ℕ) → list_all is_subject_byte (b ∷ c ∷ bs) ≡ true → is_literal_token (b ∷ c ∷ bs) ≡ true
long_literal b c bs all =
    and_from (is_token (b ∷ c ∷ bs) && not (bytes_eq (b ∷ c ∷ bs) star)) (not (bytes_eq (b ∷ c ∷ bs) tail))
    (and_from (is_token (b ∷ c ∷ bs)) (not (bytes_eq (b ∷ c ∷ bs) star)) (long_token b c bs all) (ap not (and_right (b == 42) false refl)))
    (not_tail b c bs)

short_token : (b : ℕ) → list_all is_subject_byte (b ∷ []) ≡ true → is_token (b ∷ []) ≡ true
short_token b all = all

-- ---- the last token
last_bits : (x y : Bool) → (not (x && true) && not (y && true) && true) ≡ (token_need Subject (if x then Star else (if y then Tail else Literal)) == 0)
last_bits true true = refl
last_bits true false = refl
last_bits false true = refl
last_bits false false = refl

last_pattern : (x y : Bool) → true ≡ (token_need Pattern (if x then Star else (if y then Tail else Literal)) == 0)
last_pattern true true = refl
last_pattern true false = refl
last_pattern false true = refl
last_pattern false false = refl

last_token : (kind : Kind) (front : List ℕ) → list_all is_subject_byte front ≡ true → good_tokens kind (front ∷ []) ≡ (token_need kind (spot front) == 0)
last_token Subject [] all = refl
last_token Subject (b ∷ []) all = rw (short_token b all) (last_bits (b == 42) (b == 62))
last_token Subject (b ∷ c ∷ bs) all = rw (long_literal b c bs all) refl
last_token Pattern [] all = refl
last_token Pattern (b ∷ []) all = short_token b all ∙ last_pattern (b == 42) (b == 62)
last_token Pattern (b ∷ c ∷ bs) all = long_token b c bs all

-- ---- a token before a dot
dot_bits : (x y : Bool) (f : Token → Bool) → (not (x && true) && not (y && true) && f Empty) ≡ passes (after_dot Subject (if x then Star else (if y then Tail else Literal))) f
dot_bits true true f = refl
dot_bits true false f = refl
dot_bits false true f = refl
dot_bits false false f = refl

dot_pattern : (b : ℕ) (x y : Bool) → (b == 42) ≡ x → (b == 62) ≡ y → (f : Token → Bool) → (not (y && true) && f Empty) ≡ passes (after_dot Pattern (if x then Star else (if y then Tail else Literal))) f
dot_pattern b true true p q f = absurd (omega (arith, eqb-true b 42 p, eqb-true b 62 q))
dot_pattern b true false p q f = refl
dot_pattern b false true p q f = refl
dot_pattern b false false p q f = refl

before_dot : (kind : Kind) (front t : List ℕ) (ts : List (List ℕ)) (f : Token → Bool) → list_all is_subject_byte front ≡ true → good_tokens kind (t ∷ ts) ≡ f Empty
    → good_tokens kind (front ∷ t ∷ ts) ≡ passes (after_dot kind (spot front)) f
before_dot Subject [] t ts f all e = refl
before_dot Subject (b ∷ []) t ts f all e = rw (short_token b all, e) (dot_bits (b == 42) (b == 62) f)
before_dot Subject (b ∷ c ∷ bs) t ts f all e = rw (long_literal b c bs all) e
before_dot Pattern [] t ts f all e = refl
before_dot Pattern (b ∷ []) t ts f all e = rw (short_token b all, e) (dot_pattern b (b == 42) (b == 62) refl refl f)
before_dot Pattern (b ∷ c ∷ bs) t ts f all e = rw (long_token b c bs all, not_tail b c bs) e

-- ---- a bad byte
bad_token : (t : List ℕ) → list_all is_subject_byte t ≡ false → is_token t ≡ false
bad_token t e = and_right (nat_lt 0 (length t)) (list_all is_subject_byte t) e

bad_first : (kind : Kind) (t : List ℕ) (ts : List (List ℕ)) → list_all is_subject_byte t ≡ false → good_tokens kind (t ∷ ts) ≡ false
bad_first Subject t ts e = rw (bad_token t e) refl
bad_first Pattern t [] e = bad_token t e
bad_first Pattern t (u ∷ ts) e = rw (bad_token t e) refl

with_bad : (front t : List ℕ) (b : ℕ) → is_subject_byte b ≡ false → list_all is_subject_byte (front ++ b ∷ t) ≡ false
with_bad front t b e = list_all-append is_subject_byte front (b ∷ t) ∙ and_right (list_all is_subject_byte front) _ (rw e refl)

-- a text has a first token
record HasFirst (bs : List ℕ) : Type 0 where
  pub first : List ℕ
  pub others : List (List ℕ)
  pub are : tokens bs ≡ first ∷ others

has_first : (bs : List ℕ) → HasFirst bs
has_first [] = record { first = []; others = []; are = refl }
has_first (b ∷ bs) = by (b == 46) refl (has_first bs)
  where
    by : (dot : Bool) → (b == 46) ≡ dot → HasFirst bs → HasFirst (b ∷ bs)
    by true e h = record { first = []; others = tokens bs; are = rw e refl }
    by false e h = record { first = b ∷ h.first; others = h.others; are = rw (e, h.are) refl }

abbrev Goes : Kind → List ℕ → Type 0
Goes kind bs = (front : List ℕ) → list_all is_subject_byte front ≡ true → good_tokens kind (ahead front (tokens bs)) ≡ takes kind (spot front) bs

module _ (kind : Kind) (b : ℕ) (bs front : List ℕ) (rest : HasFirst bs) (later : Goes kind bs) (all : list_all is_subject_byte front ≡ true) where
  at_dot : (b == 46) ≡ true → good_tokens kind (ahead front (tokens (b ∷ bs))) ≡ takes kind (spot front) (b ∷ bs)
  at_dot e =
      let next : good_tokens kind (rest.first ∷ rest.others) ≡ takes kind Empty bs = rw rest.are at (later [] refl) in
      let here = before_dot kind front rest.first rest.others (λ t. takes kind t bs) all next in
      rw (e, append-nil front, rest.are) here

  at_byte : (b == 46) ≡ false → is_subject_byte b ≡ true → good_tokens kind (ahead front (tokens (b ∷ bs))) ≡ takes kind (spot front) (b ∷ bs)
  at_byte e good =
      let longer_front : list_all is_subject_byte (front ++ b ∷ []) ≡ true = list_all-append is_subject_byte front (b ∷ []) ∙ and_from _ _ all (rw good refl) in
      let next : good_tokens kind (((front ++ b ∷ []) ++ rest.first) ∷ rest.others) ≡ takes kind (spot (front ++ b ∷ [])) bs = rw rest.are at (later (front ++ b ∷ []) longer_front) in
      rw (e, rest.are, good, spot-push front b) (rw append_assoc at next)

  at_bad : (b == 46) ≡ false → is_subject_byte b ≡ false → good_tokens kind (ahead front (tokens (b ∷ bs))) ≡ takes kind (spot front) (b ∷ bs)
  at_bad e bad = rw (e, rest.are, bad) (bad_first kind (front ++ b ∷ rest.first) rest.others (with_bad front rest.first b bad))

  at_any : good_tokens kind (ahead front (tokens (b ∷ bs))) ≡ takes kind (spot front) (b ∷ bs)
  at_any = by (b == 46) (is_subject_byte b) refl refl
    where
      by : (dot good : Bool) → (b == 46) ≡ dot → is_subject_byte b ≡ good → good_tokens kind (ahead front (tokens (b ∷ bs))) ≡ takes kind (spot front) (b ∷ bs)
      by true good p q = at_dot p
      by false true p q = at_byte p q
      by false false p q = at_bad p q

goes : (kind : Kind) (bs : List ℕ) → Goes kind bs
goes kind [] front all = rw append-nil (last_token kind front all)
goes kind (b ∷ bs) front all = at_any kind b bs front (has_first bs) (goes kind bs) all

-- the tokens of a text, byte by byte
pub good_tokens-takes : (kind : Kind) (bs : List ℕ) → good_tokens kind (tokens bs) ≡ accepts (token_after kind) (token_need kind) Empty bs
good_tokens-takes kind bs = let h = has_first bs in rw h.are (rw h.are at (goes kind bs [] refl))
