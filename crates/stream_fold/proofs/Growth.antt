-- What stays as a history grows.
use Rattle.std.proofs.Common.{◌≡◌, ℕ, ◌≤◌, max, List, [], ◌∷◌, ◌++◌, Option, Some, None, refl, sym, ap, ◌∙◌, subst, arith, ◌⊎◌, inl, inr}
use Rattle.std.proofs.lemmas.Bool.{ne_eqb}
use Rattle.std.proofs.lemmas.Bool.Decides.{nat_tests}
use Rattle.nats_text.specs.declared.message.Message.{Message}
use Rattle.stream_fold.specs.declared.entry.Entry.{Entry}
use Rattle.stream_fold.specs.declared.entry.Entry.TheVariants.{Put, Del, Purge, Expire, Bind, Limits}
use Rattle.stream_fold.specs.Histories.{either, put, put_by, number_put, last, IsAbove, RiseFrom, NumbersRise}

either_assoc : {A : Type 0} (a b c : Option A) → either a (either b c) ≡ either (either a b) c
either_assoc (Some x) b c = refl
either_assoc None b c = refl

pub put-append : (es xs : List Entry) (s : ℕ) → put s (es ++ xs) ≡ either (put s es) (put s xs)
put-append [] xs s = refl
put-append (e ∷ es) xs s = rw (put-append es xs s) (either_assoc (put_by s e) (put s es) (put s xs))

pub put-stays : (es xs : List Entry) (s : ℕ) (m : Message) → put s es ≡ Some m → put s (es ++ xs) ≡ Some m
put-stays es xs s m e = rw (put-append es xs s, e) refl

-- the only number that an entry puts is its own
put_by-number : (e : Entry) (s : ℕ) (m : Message) → put_by s e ≡ Some m → number_put e ≡ s
put_by-number (Put seq message mark) s m = grind (arith, nat_tests)
put_by-number (Del seq) s m = λ e. absurd (cc)
put_by-number (Purge pattern below) s m = λ e. absurd (cc)
put_by-number (Expire now) s m = λ e. absurd (cc)
put_by-number (Bind index incarnation start) s m = λ e. absurd (cc)
put_by-number (Limits config) s m = λ e. absurd (cc)

either_cases : {A : Type 0} (a b : Option A) (x : A) → either a b ≡ Some x → (a ≡ Some x) ⊎ ((a ≡ None) × (b ≡ Some x))
either_cases (Some y) b x e = inl e
either_cases None b x e = inr (refl, e)

-- a number that was put is at most the last
pub put-below : (es : List Entry) (s : ℕ) (m : Message) → put s es ≡ Some m → s ≤ last es
put-below [] s m e = absurd (cc)
put-below (e ∷ es) s m h = elim (either_cases (put_by s e) (put s es) m h) [
  | inl here ↦ (let k = put_by-number e s m here in omega arith)
  | inr there ↦ (let ih = put-below es s m there.1 in omega arith)
]

put_by-below : (e : Entry) (low s : ℕ) → IsAbove low e → s ≤ low → put_by s e ≡ None
put_by-below (Put seq message mark) low s h le = rw (ne_eqb seq s (λ q. omega arith)) refl
put_by-below (Del seq) low s h le = refl
put_by-below (Purge pattern below) low s h le = refl
put_by-below (Expire now) low s h le = refl
put_by-below (Bind index incarnation start) low s h le = refl
put_by-below (Limits config) low s h le = refl

-- what comes later puts no number that was reached
pub put-none_below : (xs : List Entry) (low s : ℕ) → RiseFrom low xs → s ≤ low → put s xs ≡ None
put-none_below [] low s h le = refl
put-none_below (e ∷ xs) low s h le = rw (put_by-below e low s h.0 le) (put-none_below xs (max low (number_put e)) s h.1 (omega arith))

pub RiseFrom-append : (es xs : List Entry) (low : ℕ) → RiseFrom low (es ++ xs) → RiseFrom low es × RiseFrom (max low (last es)) xs
RiseFrom-append [] xs low h = (tt, subst (λ l. RiseFrom l xs) (let q : low ≡ max low 0 = omega arith in q) h)
RiseFrom-append (e ∷ es) xs low h =
    let ih = RiseFrom-append es xs (max low (number_put e)) h.1 in
    ((h.0, ih.0), subst (λ l. RiseFrom l xs) (let q : max (max low (number_put e)) (last es) ≡ max low (max (number_put e) (last es)) = omega arith in q) ih.1)

pub RiseFrom-push : (es xs : List Entry) (low : ℕ) → RiseFrom low es → RiseFrom (max low (last es)) xs → RiseFrom low (es ++ xs)
RiseFrom-push [] xs low h k = subst (λ l. RiseFrom l xs) (let q : max low 0 ≡ low = omega arith in q) k
RiseFrom-push (e ∷ es) xs low h k = (
  h.0,
  RiseFrom-push es xs (max low (number_put e)) h.1
      (subst (λ l. RiseFrom l xs) (let q : max low (max (number_put e) (last es)) ≡ max (max low (number_put e)) (last es) = omega arith in q) k),
)

-- a number that was reached is put later only if it was put before
pub put-back : (es xs : List Entry) (s : ℕ) (m : Message) → NumbersRise (es ++ xs) → s ≤ last es → put s (es ++ xs) ≡ Some m → put s es ≡ Some m
put-back es xs s m rise le e =
    let above = (RiseFrom-append es xs 0 rise).1 in
    elim (either_cases (put s es) (put s xs) m (sym (put-append es xs s) ∙ e)) [
      | inl here ↦ here
      | inr there ↦ (let n = put-none_below xs (max 0 (last es)) s above (omega arith) in absurd (let q : Some m ≡ None = sym there.1 ∙ n in cc))
    ]

either-None : {A : Type 0} (a : Option A) → either a None ≡ a
either-None (Some x) = refl
either-None None = refl

-- nothing later changes what was put under a number that was reached
pub put-same : (es xs : List Entry) (s : ℕ) → NumbersRise (es ++ xs) → s ≤ last es → put s (es ++ xs) ≡ put s es
put-same es xs s rise le =
    let none : put s xs ≡ None = put-none_below xs (max 0 (last es)) s (RiseFrom-append es xs 0 rise).1 (omega arith) in
    put-append es xs s ∙ (ap (either (put s es)) none ∙ either-None (put s es))
