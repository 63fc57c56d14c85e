-- Lists of own steps, and what begins a list.
use Rattle.std.proofs.Common.{Option, ◌≡◌, ◌⊎◌, ⊎_elim, inl, inr, ℕ, zero, suc, ◌+◌, ◌<◌, ◌≤◌, ltb, cond, Bool, true, false, List, [], ◌∷◌, ◌++◌, length, Some, unwrap_or, map, ◌-◌, drop, refl, sym, ap, ◌∙◌, subst, append_assoc, append-nil, arith, length-append}
use Rattle.std.specs.Prelude.{slice_get}
use Rattle.std.proofs.lemmas.Bool.Decides.{nat_tests}
use Rattle.std.proofs.lemmas.Option.{slice_get_within}
use Rattle.turn_lock.specs.Own.{Owns, RisesFrom, put_in, merged, longer, shorter, Begins}

module _ {S : Type 0} where
  pub get_longer : (l m : List S) (k : ℕ) (x : S) → slice_get l k ≡ Some x → slice_get (l ++ m) k ≡ Some x
  get_longer [] m k x e = absurd (let h = slice_get_within {A = S} [] k x e in omega (arith, h))
  get_longer (y ∷ ys) m zero x e = e
  get_longer (y ∷ ys) m (suc k) x e = get_longer ys m k x e

  pub get_last : (l : List S) (x : S) → slice_get (l ++ x ∷ []) (length l) ≡ Some x
  get_last [] x = refl
  get_last (y ∷ ys) x = get_last ys x

  pub begins_refl : (l : List S) → Begins l l
  begins_refl l = ([], sym (append-nil l))

  pub begins_more : (a l : List S) (m : List S) → Begins a l → Begins a (l ++ m)
  begins_more a l m b = (b.0 ++ m, ap (λ z. z ++ m) b.1 ∙ append_assoc a b.0 m)

  pub owns_snoc_left : (l : List (ℕ × S)) (p : ℕ × S) (k : ℕ) (x : S) → Owns l k x → Owns (l ++ p ∷ []) k x
  owns_snoc_left [] p k x h = absurd h
  owns_snoc_left (q ∷ qs) p k x h = ⊎_elim (λ e. inl e) (λ t. inr (owns_snoc_left qs p k x t)) h

  pub owns_snoc_last : (l : List (ℕ × S)) (k : ℕ) (x : S) → Owns (l ++ (k, x) ∷ []) k x
  owns_snoc_last [] k x = inl refl
  owns_snoc_last (q ∷ qs) k x = inr (owns_snoc_last qs k x)

  pub owns_snoc : (l : List (ℕ × S)) (p : ℕ × S) (k : ℕ) (x : S) → Owns (l ++ p ∷ []) k x → Owns l k x ⊎ (p ≡ (k, x))
  owns_snoc [] p k x h = ⊎_elim (λ e. inr e) (λ t. absurd t) h
  owns_snoc (q ∷ qs) p k x h = ⊎_elim (λ e. inl (inl e)) (λ t. ⊎_elim (λ u. inl (inr u)) (λ u. inr u) (owns_snoc qs p k x t)) h

  pub rises_snoc : (n m : ℕ) (l : List (ℕ × S)) (x : S) → RisesFrom n l → ((k : ℕ) (y : S) → Owns l k y → k < m) → n ≤ m → RisesFrom n (l ++ (m, x) ∷ [])
  rises_snoc n m [] x r below le = (le, tt)
  rises_snoc n m (q ∷ qs) x r below le = (r.0, rises_snoc (suc q.0) m qs x r.1 (λ k y h. below k y (inr h)) (below q.0 q.1 (inl refl)))

  pub owns_here : (p : ℕ × S) (l : List (ℕ × S)) → Owns (put_in p l) p.0 p.1
  owns_here p [] = inl refl
  owns_here p (q ∷ qs) = by (owns_here p qs) (ltb p.0 q.0)
    where
      by : Owns (put_in p qs) p.0 p.1 → (b : Bool) → Owns (cond b (p ∷ q ∷ qs) (q ∷ put_in p qs)) p.0 p.1
      by r true = inl refl
      by r false = inr r

  pub owns_there : (p : ℕ × S) (l : List (ℕ × S)) (k : ℕ) (x : S) → Owns l k x → Owns (put_in p l) k x
  owns_there p [] k x h = absurd h
  owns_there p (q ∷ qs) k x h = by (λ t. owns_there p qs k x t) (ltb p.0 q.0)
    where
      by : (Owns qs k x → Owns (put_in p qs) k x) → (b : Bool) → Owns (cond b (p ∷ q ∷ qs) (q ∷ put_in p qs)) k x
      by r true = inr h
      by r false = ⊎_elim (λ e. inl e) (λ t. inr (r t)) h

  pub owns_put : (p : ℕ × S) (l : List (ℕ × S)) (k : ℕ) (x : S) → Owns (put_in p l) k x → (p ≡ (k, x)) ⊎ Owns l k x
  owns_put p [] k x h = h
  owns_put p (q ∷ qs) k x h = by (λ t. owns_put p qs k x t) (ltb p.0 q.0) h
    where
      by : (Owns (put_in p qs) k x → (p ≡ (k, x)) ⊎ Owns qs k x) → (b : Bool) → Owns (cond b (p ∷ q ∷ qs) (q ∷ put_in p qs)) k x → (p ≡ (k, x)) ⊎ Owns (q ∷ qs) k x
      by r true g = g
      by r false g = ⊎_elim (λ e. inr (inl e)) (λ t. ⊎_elim (λ u. inl u) (λ u. inr (inr u)) (r t)) g

  pub rises_put : (n : ℕ) (p : ℕ × S) (l : List (ℕ × S)) → n ≤ p.0 → RisesFrom n l → ((y : S) → Owns l p.0 y → ⊥) → RisesFrom n (put_in p l)
  rises_put n p [] le r new = (le, tt)
  rises_put n p (q ∷ qs) le r new = by (λ gt. rises_put (suc q.0) p qs gt r.1 (λ y h. new y (inr h))) (ltb p.0 q.0) refl
    where
      differ : p.0 ≡ q.0 → ⊥
      differ e = new q.1 (inl (ap (λ (k : ℕ). (k, q.1)) (sym e)))

      by : (suc q.0 ≤ p.0 → RisesFrom (suc q.0) (put_in p qs)) → (b : Bool) → ltb p.0 q.0 ≡ b → RisesFrom n (cond b (p ∷ q ∷ qs) (q ∷ put_in p qs))
      by more true e = let lt : p.0 < q.0 = grind (arith, nat_tests) in (le, (lt, r.1))
      by more false e = let ge : q.0 ≤ p.0 = grind (arith, nat_tests) in let gt : suc q.0 ≤ p.0 = omega (arith, differ) in (r.0, more gt)

  pub owns_left : (as' bs : List (ℕ × S)) (k : ℕ) (x : S) → Owns as' k x → Owns (merged as' bs) k x
  owns_left [] bs k x h = absurd h
  owns_left (a ∷ as') bs k x h = ⊎_elim (λ (e : a ≡ (k, x)). subst (λ (p : ℕ × S). Owns (put_in a (merged as' bs)) p.0 p.1) e (owns_here a (merged as' bs))) (λ t. owns_there a (merged as' bs) k x (owns_left as' bs k x t)) h

  pub owns_right : (as' bs : List (ℕ × S)) (k : ℕ) (x : S) → Owns bs k x → Owns (merged as' bs) k x
  owns_right [] bs k x h = h
  owns_right (a ∷ as') bs k x h = owns_there a (merged as' bs) k x (owns_right as' bs k x h)

  pub owns_merged : (as' bs : List (ℕ × S)) (k : ℕ) (x : S) → Owns (merged as' bs) k x → Owns as' k x ⊎ Owns bs k x
  owns_merged [] bs k x h = inr h
  owns_merged (a ∷ as') bs k x h = ⊎_elim (λ e. inl (inl e)) (λ t. ⊎_elim (λ u. inl (inr u)) (λ u. inr u) (owns_merged as' bs k x t)) (owns_put a (merged as' bs) k x h)

  above : (n : ℕ) (l : List (ℕ × S)) (k : ℕ) (x : S) → RisesFrom n l → Owns l k x → n ≤ k
  above n [] k x r h = absurd h
  above n (q ∷ qs) k x r h = ⊎_elim (λ (e : q ≡ (k, x)). let s : q.0 ≡ k = ap (λ (p : ℕ × S). p.0) e in omega (arith, r.0, s)) (λ t. let s = above (suc q.0) qs k x r.1 t in omega (arith, r.0, s)) h

  weaker : (n m : ℕ) (l : List (ℕ × S)) → n ≤ m → RisesFrom m l → RisesFrom n l
  weaker n m [] le r = tt
  weaker n m (q ∷ qs) le r = (omega (arith, r.0), r.1)

  pub rises_merged : (n : ℕ) (as' bs : List (ℕ × S)) → RisesFrom n as' → RisesFrom n bs → ((k : ℕ) (x y : S) → Owns as' k x → Owns bs k y → ⊥) → RisesFrom n (merged as' bs)
  rises_merged n [] bs ra rb apart = rb
  rises_merged n (a ∷ as') bs ra rb apart =
      rises_put n a (merged as' bs) ra.0 (rises_merged n as' bs (weaker n (suc a.0) as' (omega (arith, ra.0)) ra.1) rb (λ k x y h g. apart k x y (inr h) g))
      (λ y h. ⊎_elim (λ t. let s = above (suc a.0) as' a.0 y ra.1 t in omega (arith, s)) (λ t. apart a.0 a.1 y (inl refl) t) (owns_merged as' bs a.0 y h))

  pub longer_begins : (xs ys log : List S) → Begins xs log → Begins ys log → Begins (longer xs ys) log
  longer_begins xs ys log a b = by (ltb (length xs) (length ys))
    where
      by : (t : Bool) → Begins (cond t ys xs) log
      by true = b
      by false = a

  -- of two beginnings of one list, one that isn't longer begins the other
  begins_longer : (xs ys log : List S) → Begins xs log → Begins ys log → length xs ≤ length ys → Begins xs ys
  begins_longer [] ys log a b le = (ys, refl)
  begins_longer (x ∷ xs) [] log a b le = absurd (omega (arith, le))
  begins_longer (x ∷ xs) (y ∷ ys) log a b le =
      let e : x ∷ (xs ++ a.0) ≡ y ∷ (ys ++ b.0) = sym a.1 ∙ b.1 in
      let first : x ≡ y = ap (λ (l : List S). unwrap_or (slice_get l 0) x) e in
      let others : xs ++ a.0 ≡ ys ++ b.0 = ap (λ (l : List S). drop 1 l) e in
      let r = begins_longer xs ys (ys ++ b.0) (a.0, sym others) (b.0, refl) (omega (arith, le)) in
      (r.0, λ i. sym first i ∷ r.1 i)

  pub shorter_begins : (xs ys log : List S) → Begins xs log → Begins ys log → Begins (shorter xs ys) (longer xs ys)
  shorter_begins xs ys log a b = by (ltb (length xs) (length ys)) refl
    where
      by : (t : Bool) → ltb (length xs) (length ys) ≡ t → Begins (cond t xs ys) (cond t ys xs)
      by true is = let lt : length xs < length ys = grind (arith, nat_tests) in begins_longer xs ys log a b (omega (arith, lt))
      by false is = let ge : length ys ≤ length xs = grind (arith, nat_tests) in begins_longer ys xs log b a ge

  -- so both begin the longer
  pub both_begin : (xs ys : List S) → Begins (shorter xs ys) (longer xs ys) → Begins xs (longer xs ys) × Begins ys (longer xs ys)
  both_begin xs ys = by (ltb (length xs) (length ys))
    where
      by : (t : Bool) → Begins (cond t xs ys) (cond t ys xs) → Begins xs (cond t ys xs) × Begins ys (cond t ys xs)
      by true b = (b, begins_refl ys)
      by false b = (begins_refl xs, b)

  pub nothing : (xs log : List S) → Begins xs log → length log ≤ length xs → xs ≡ log
  nothing xs log (more, e) le = ⊎_elim (λ z. sym (append-nil xs) ∙ ap (λ m. xs ++ m) (sym z) ∙ sym e) (λ z. absurd (omega (arith, z, ap length e, length-append xs more))) (empty more)
    where
      empty : (m : List S) → (m ≡ []) ⊎ (0 < length m)
      empty [] = inl refl
      empty (y ∷ ys) = inr (omega arith)

  -- of two beginnings of which one is the whole, the longer is the whole
  pub longer_left : (xs ys log : List S) → Begins ys log → xs ≡ log → longer xs ys ≡ log
  longer_left xs ys log b e = by (ltb (length xs) (length ys)) refl
    where
      by : (t : Bool) → ltb (length xs) (length ys) ≡ t → cond t ys xs ≡ log
      by true is = let lt : length xs < length ys = grind (arith, nat_tests) in nothing ys log b (omega (arith, ap length e, lt))
      by false is = e

  pub longer_right : (xs ys log : List S) → Begins xs log → ys ≡ log → longer xs ys ≡ log
  longer_right xs ys log b e = by (ltb (length xs) (length ys)) refl
    where
      by : (t : Bool) → ltb (length xs) (length ys) ≡ t → cond t ys xs ≡ log
      by true is = e
      by false is = let ge : length ys ≤ length xs = grind (arith, nat_tests) in nothing xs log b (omega (arith, ap length e, ge))

  -- own steps that are all of a history are that history
  pub all_own : (n : ℕ) (own : List (ℕ × S)) (h : List S) → RisesFrom n own → ((k : ℕ) (x : S) → Owns own k x → slice_get h (k - n) ≡ Some x) → ((i : ℕ) → i < length h → (x : S) × Owns own (n + i) x)
      → map (λ (p : ℕ × S). p.1) own ≡ h
  all_own n [] [] r f w = refl
  all_own n [] (y ∷ h) r f w = absurd ((w 0 (omega arith)).1)
  all_own n (p ∷ ps) [] r f w = let e = slice_get_within {A = S} [] (p.0 - n) p.1 (f p.0 p.1 (inl refl)) in absurd (omega (arith, e))
  all_own n (p ∷ ps) (y ∷ h) r f w =
      let one = w 0 (omega arith) in
      let first : p.0 ≡ n = ⊎_elim
      (λ (e : p ≡ (n + 0, one.0)). let z : p.0 ≡ n + 0 = ap (λ (q : ℕ × S). q.0) e in omega (arith, z))
      (λ t. let a = above (suc p.0) ps (n + 0) one.0 r.1 t in absurd (omega (arith, a, r.0)))
      one.1 in
      let z : p.0 - n ≡ 0 = omega (arith, first) in
      let head : p.1 ≡ y = ap (λ (q : Option S). unwrap_or q y) (sym (ap (λ k. slice_get (y ∷ h) k) (sym z) ∙ f p.0 p.1 (inl refl))) in
      let tail : map (λ (q : ℕ × S). q.1) ps ≡ h = all_own (suc n) ps h
      (subst (λ m. RisesFrom (suc m) ps) first r.1)
      (λ k x t. let a = above (suc p.0) ps k x r.1 t in let e : k - n ≡ suc (k - suc n) = omega (arith, a, first) in ap (λ m. slice_get (y ∷ h) m) (sym e) ∙ f k x (inr t))
      (λ i lt. let q = w (suc i) (omega (arith, lt)) in (
        q.0,
        ⊎_elim
            (λ (e : p ≡ (n + suc i, q.0)). let same : p.0 ≡ n + suc i = ap (λ (v : ℕ × S). v.0) e in absurd (omega (arith, same, first)))
            (λ t. let e : n + suc i ≡ suc n + i = omega arith in subst (λ m. Owns ps m q.0) e t)
            q.1,
      )) in
      λ i. head i ∷ tail i
