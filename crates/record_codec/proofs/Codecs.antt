-- A writer and a reader of one kind of field, and what follows where one field stands after another.
use Rattle.std.proofs.Common.{◌≡◌, ℕ, suc, ◌+◌, Bool, true, false, cond, List, ◌∷◌, ◌++◌, take, drop, Result, Ok, Err, refl, sym, ap, ◌∙◌, append_assoc, arith, inl, inr}
use Rattle.std.proofs.lemmas.Bool.{cases_lt}
use Rattle.std.proofs.lemmas.List.{length-take, get_or-drop, get_or-take, get_or_past}
use Rattle.record_codec.specs.Reading.{Reading, ◌>>=◌, AreBytes}

pub AreBytes-drop : (n : ℕ) (bytes : List ℕ) → AreBytes bytes → AreBytes (drop n bytes)
AreBytes-drop n bytes h i = rw get_or-drop (h (n + i))

pub AreBytes-take : (n : ℕ) (bytes : List ℕ) → AreBytes bytes → AreBytes (take n bytes)
AreBytes-take n bytes h i =
    elim (cases_lt i n) [
      | inl lt ↦ rw (get_or-take n bytes i 0 lt) (h i)
      | inr le ↦ rw (get_or_past (take n bytes) i 0 (omega (arith, length-take n bytes))) (omega arith)
    ]

pub AreBytes-rest : (b : ℕ) (bytes : List ℕ) → AreBytes (b ∷ bytes) → AreBytes bytes
AreBytes-rest b bytes h i = h (suc i)

-- the value of a step that did not fail
pub bind_ok : {A B : Type 0} (r : Result A ℕ) (f : A → Result B ℕ) (y : B) → (r >>= f) ≡ Ok y → (x : A) × (r ≡ Ok x) × (f x ≡ Ok y)
bind_ok (Ok x) f y e = (x, refl, e)
bind_ok (Err left) f y e = absurd cc

-- a test that did not fail
pub guard_ok : {A : Type 0} (b : Bool) (left : ℕ) (x y : A) → cond b (Err left) (Ok x) ≡ Ok y → (b ≡ false) × (x ≡ y)
guard_ok true left x y e = absurd cc
guard_ok false left x y e = (refl, cc)

-- a test that had to hold
pub test_ok : {A : Type 0} (b : Bool) (left : ℕ) (x y : A) → cond b (Ok x) (Err left) ≡ Ok y → (b ≡ true) × (x ≡ y)
test_ok true left x y e = (refl, cc)
test_ok false left x y e = absurd cc

abbrev done : {A : Type 0} → A → Result A ℕ
done x = Ok x

pub ok_is : {A : Type 0} (x y : A) → done x ≡ done y → x ≡ y
ok_is x y e = cc

-- what a reader took from the front
pub record Takes (bytes text rest : List ℕ) : Type 0 where
  pub parts : bytes ≡ text ++ rest
  pub fits : AreBytes rest

-- what is read is written so, and what is written is read again
pub record IsCodec {A : Type 0} (text : A → List ℕ) (Is : A → Type 0) (at : List ℕ → Reading A) : Type 0 where
  pub takes : (bytes : List ℕ) (y : A × List ℕ) → AreBytes bytes → at bytes ≡ Ok y → Takes bytes (text y.0) y.1 × Is y.0
  pub again : (x : A) (rest : List ℕ) → Is x → at (text x ++ rest) ≡ Ok (x, rest)

-- one part after the other
pub both : {a x b y c : List ℕ} → Takes a x b → Takes b y c → Takes a (x ++ y) c
both {a} {x} {b} {y} {c} p q = record { parts = p.parts ∙ ap (λ (t : List ℕ). x ++ t) q.parts ∙ sym (append_assoc x y c); fits = q.fits }

-- a byte, and a part behind it
pub behind : {a x b : List ℕ} (n : ℕ) → Takes a x b → Takes (n ∷ a) (n ∷ x) b
behind n p = record { parts = ap (λ (t : List ℕ). n ∷ t) p.parts; fits = p.fits }

-- a reading that begins with a field goes on behind this field
pub first : {A B : Type 0} {text : A → List ℕ} {Is : A → Type 0} {at : List ℕ → Reading A} → IsCodec text Is at → (bytes : List ℕ) (f : A × List ℕ → Result B ℕ) (y : B) (Claim : Type 0) → AreBytes bytes → (at bytes >>= f) ≡ Ok y
    → ((x : A) (rest : List ℕ) → Takes bytes (text x) rest → Is x → f (x, rest) ≡ Ok y → Claim) → Claim
first {A} {B} {text} {Is} {at} codec bytes f y Claim fits e goes_on =
    let b = bind_ok (at bytes) f y e in
    let t = codec.takes bytes b.0 fits b.1 in
    goes_on b.0.0 b.0.1 t.0 t.1 b.2
