-- A text between the occurrences of a separator, and what its parts make.
use Rattle.std.proofs.Common.{◌≡◌, ℕ, ◌+◌, ◌-◌, ◌<◌, zero, suc, List, [], ◌∷◌, ◌++◌, length, take, drop, Bool, true, false, ◌||◌, not, ◌==◌, cond, nat_eq, refl, sym, ap, ◌∙◌, add-one, arith, append_assoc}
use Rattle.std.proofs.lemmas.Bool.{ne_eqb}
use Rattle.std.proofs.lemmas.List.{append-nil}
use Rattle.std.specs.List.{starts_with, join_with_byte}
use Rattle.nats_text.specs.Pieces.{onto_first}
use Rattle.subject_transform.specs.Values.{parts_behind, not_empty, added}

abbrev pub occurs : List ℕ → List ℕ → ℕ → Bool
occurs separator xs k = starts_with ◌==◌ (drop k xs) separator

skip : (separator : List ℕ) (n : ℕ) (bs : List ℕ) → parts_behind separator n bs ≡ parts_behind separator 0 (drop n bs)
skip separator zero [] = refl
skip separator zero (b ∷ bs) = refl
skip separator (suc n) [] = refl
skip separator (suc n) (b ∷ bs) = skip separator n bs

pub none_found : (separator xs : List ℕ) → ((k : ℕ) → k < length xs → occurs separator xs k ≡ false) → parts_behind separator 0 xs ≡ xs ∷ []
none_found separator [] h = refl
none_found separator (x ∷ xs) h =
    let e : starts_with ◌==◌ (x ∷ xs) separator ≡ false = h 0 (omega arith) in
    let i = none_found separator xs (λ k l. h (suc k) (omega (arith, l))) in
    rw e (ap (onto_first x) i)

found_here : (s : ℕ) (ss : List ℕ) (x : ℕ) (xs : List ℕ) → starts_with ◌==◌ (x ∷ xs) (s ∷ ss) ≡ true → parts_behind (s ∷ ss) 0 (x ∷ xs) ≡ [] ∷ parts_behind (s ∷ ss) 0 (drop (length ss) xs)
found_here s ss x xs e =
    let n : length (s ∷ ss) - 1 ≡ length ss = omega arith in
    rw e (rw n (ap (λ ps. [] ∷ ps) (skip (s ∷ ss) (length ss) xs)))

pub found : (separator xs : List ℕ) (k : ℕ) → 0 < length separator → k < length xs → ((j : ℕ) → j < k → occurs separator xs j ≡ false) → occurs separator xs k ≡ true
    → parts_behind separator 0 xs ≡ take k xs ∷ parts_behind separator 0 (drop (length separator) (drop k xs))
found [] xs k n l h e = absurd (omega (arith, n))
found separator [] k n l h e = absurd (omega (arith, l))
found (s ∷ ss) (x ∷ xs) zero n l h e = found_here s ss x xs e
found (s ∷ ss) (x ∷ xs) (suc k) n l h e =
    let f : starts_with ◌==◌ (x ∷ xs) (s ∷ ss) ≡ false = h 0 (omega arith) in
    let i = found (s ∷ ss) xs k n (omega (arith, l)) (λ j m. h (suc j) (omega (arith, m))) e in
    rw f (ap (onto_first x) i)

-- parts that each stand behind a dot
abbrev pub behind_dots : List (List ℕ) → List ℕ
behind_dots [] = []
behind_dots (t ∷ ts) = 46 ∷ t ++ behind_dots ts

pub joined : (t : List ℕ) (ts : List (List ℕ)) → join_with_byte 46 (t ∷ ts) ≡ t ++ behind_dots ts
joined t [] = simp append-nil
joined t (u ∷ ts) = ap (λ r. t ++ 46 ∷ r) (joined u ts)

-- what parts add behind others, or where there are none
abbrev pub remaining : Bool → List (List ℕ) → List ℕ
remaining true ts = behind_dots (not_empty ts)
remaining false ts = join_with_byte 46 (not_empty ts)

not_nil : (b : ℕ) (bs : List ℕ) → (length (b ∷ bs) == 0) ≡ false
not_nil b bs = ne_eqb (length (b ∷ bs)) 0 (λ e. omega arith)

pub remaining_more : (are_others : Bool) (t : List ℕ) (ts : List (List ℕ)) → remaining are_others (t ∷ ts) ≡ added are_others t ++ remaining (are_others || not (length t == 0)) ts
remaining_more true [] ts = refl
remaining_more false [] ts = refl
remaining_more true (b ∷ bs) ts = let e = not_nil b bs in rw e refl
remaining_more false (b ∷ bs) ts = let e = not_nil b bs in rw e (joined (b ∷ bs) (not_empty ts))

pub remaining_last : (are_others : Bool) (t : List ℕ) → remaining are_others (t ∷ []) ≡ added are_others t
remaining_last true t = remaining_more true t [] ∙ simp append-nil
remaining_last false [] = refl
remaining_last false (b ∷ bs) = let e = not_nil b bs in rw e refl

pub step : (separator rest part behind buf new whole : List ℕ) (b b' : Bool) → new ≡ buf ++ added b part → b' ≡ (b || not (length part == 0)) → parts_behind separator 0 rest ≡ part ∷ parts_behind separator 0 behind
    → buf ++ remaining b (parts_behind separator 0 rest) ≡ whole → new ++ remaining b' (parts_behind separator 0 behind) ≡ whole
step separator rest part behind buf new whole b b' n o p i =
    let ps = parts_behind separator 0 behind in
    ap (λ x. x ++ remaining b' ps) n ∙ (ap (λ x. (buf ++ added b part) ++ remaining x ps) o ∙ (append_assoc buf (added b part) (remaining (b || not (length part == 0)) ps) ∙ (ap (λ x. buf ++ x) (sym (remaining_more b part ps)) ∙ (ap (λ x. buf ++ remaining b x) (sym p) ∙ i))))
