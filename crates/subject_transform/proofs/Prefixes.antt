-- Texts that begin with others.
use Rattle.std.proofs.Common.{◌≡◌, ℕ, List, [], ◌∷◌, ◌++◌, length, drop, Bool, true, false, ◌&&◌, ◌==◌, eqb, cond, refl, sym, ap, ◌∙◌, length-append}
use Rattle.std.proofs.lemmas.Bool.{eqb-true}
use Rattle.std.proofs.lemmas.List.{drop-drop}
use Rattle.std.specs.List.{starts_with}

pub starts_append : (a b xs : List ℕ) → starts_with ◌==◌ xs (a ++ b) ≡ (starts_with ◌==◌ xs a && starts_with ◌==◌ (drop (length a) xs) b)
starts_append [] b xs = refl
starts_append (x ∷ a) b [] = refl
starts_append (x ∷ a) b (y ∷ xs) =
    let P : Bool → Type 0 = λ t. (t && starts_with ◌==◌ xs (a ++ b)) ≡ ((t && starts_with ◌==◌ xs a) && starts_with ◌==◌ (drop (length a) xs) b) in
    let go : (t : Bool) → P t = λ t. elim t as P [ true ↦ starts_append a b xs | false ↦ refl ] in
    go (eqb x y)

both : (a b : Bool) → (a && b) ≡ true → (a ≡ true) × (b ≡ true)
both true b h = (refl, h)
both false b h = absurd (cc)

pub starts_split : (needle xs : List ℕ) → starts_with ◌==◌ xs needle ≡ true → xs ≡ needle ++ drop (length needle) xs
starts_split [] xs h = refl
starts_split (x ∷ needle) [] h = absurd (cc)
starts_split (x ∷ needle) (y ∷ xs) h =
    let p : (eqb x y ≡ true) × (starts_with ◌==◌ xs needle ≡ true) = both (eqb x y) (starts_with ◌==◌ xs needle) h in
    ap (λ z. z ∷ xs) (sym (eqb-true x y p.0)) ∙ ap (λ r. x ∷ r) (starts_split needle xs p.1)

-- ---- three texts one after the other

and_true : (a b : Bool) → a ≡ true → (a && b) ≡ b
and_true a b h = rw h refl

and_false : (a b : Bool) → a ≡ false → (a && b) ≡ false
and_false a b h = rw h refl

drop_both : (a b xs : List ℕ) → drop (length (a ++ b)) xs ≡ drop (length b) (drop (length a) xs)
drop_both a b xs = ap (λ n. drop n xs) (length-append a b) ∙ sym (drop-drop (length b) (length a) xs)

pub no_first : (a b c xs : List ℕ) → starts_with ◌==◌ xs a ≡ false → starts_with ◌==◌ xs ((a ++ b) ++ c) ≡ false
no_first a b c xs h =
    let two : starts_with ◌==◌ xs (a ++ b) ≡ false = starts_append a b xs ∙ and_false (starts_with ◌==◌ xs a) (starts_with ◌==◌ (drop (length a) xs) b) h in
    starts_append (a ++ b) c xs ∙ and_false (starts_with ◌==◌ xs (a ++ b)) (starts_with ◌==◌ (drop (length (a ++ b)) xs) c) two

pub no_second : (a b c xs n : List ℕ) → starts_with ◌==◌ xs a ≡ true → n ≡ drop (length a) xs → starts_with ◌==◌ n b ≡ false → starts_with ◌==◌ xs ((a ++ b) ++ c) ≡ false
no_second a b c xs n h e g =
    let two : starts_with ◌==◌ xs (a ++ b) ≡ false =
    starts_append a b xs ∙ (and_true (starts_with ◌==◌ xs a) (starts_with ◌==◌ (drop (length a) xs) b) h ∙ (ap (λ t. starts_with ◌==◌ t b) (sym e) ∙ g)) in
    starts_append (a ++ b) c xs ∙ and_false (starts_with ◌==◌ xs (a ++ b)) (starts_with ◌==◌ (drop (length (a ++ b)) xs) c) two

pub third : (a b c xs n m : List ℕ) → starts_with ◌==◌ xs a ≡ true → n ≡ drop (length a) xs → starts_with ◌==◌ n b ≡ true → m ≡ drop (length b) n → starts_with ◌==◌ xs ((a ++ b) ++ c) ≡ starts_with ◌==◌ m c
third a b c xs n m h e g f =
    let two : starts_with ◌==◌ xs (a ++ b) ≡ true =
    starts_append a b xs ∙ (and_true (starts_with ◌==◌ xs a) (starts_with ◌==◌ (drop (length a) xs) b) h ∙ (ap (λ t. starts_with ◌==◌ t b) (sym e) ∙ g)) in
    let rest : drop (length (a ++ b)) xs ≡ m = drop_both a b xs ∙ (ap (λ t. drop (length b) t) (sym e) ∙ sym f) in
    starts_append (a ++ b) c xs ∙ (and_true (starts_with ◌==◌ xs (a ++ b)) (starts_with ◌==◌ (drop (length (a ++ b)) xs) c) two ∙ ap (λ t. starts_with ◌==◌ t c) rest)

pub behind_three : (a b c xs n m : List ℕ) → n ≡ drop (length a) xs → m ≡ drop (length b) n → drop (length c) m ≡ drop (length ((a ++ b) ++ c)) xs
behind_three a b c xs n m e f =
    ap (λ t. drop (length c) t) (f ∙ ap (λ t. drop (length b) t) e) ∙ (ap (λ t. drop (length c) t) (sym (drop_both a b xs)) ∙ sym (drop_both (a ++ b) c xs))
