-- A row told from a place on.
use Rattle.std.proofs.Common.{◌≡◌, ℕ, zero, suc, ◌+◌, ◌<◌, ◌≤◌, List, [], ◌∷◌, ◌++◌, Bool, true, false, length, take, drop, get_or, refl, sym, ap, ◌∙◌, subst, arith, append_assoc, length-append, take-append-drop}
use Rattle.std.specs.Prelude.{slice_set, remove}
use Rattle.std.proofs.lemmas.List.{take_at, drop_at, drop_more, set_split, drop-set-lt, length-take-le}
use Rattle.std.proofs.Math.ListN.{drop_of_length-le}
use Rattle.tap_row.specs.declared.notice.Notice.{Notice}
use Rattle.tap_row.specs.Rows.{WasTold, IsTold, none, stays, leaves}

take_suc : {B : Type 0} → (k : ℕ) (l : List B) → take k (take (suc k) l) ≡ take k l
take_suc zero l = refl
take_suc (suc k) [] = refl
take_suc (suc k) (x ∷ l) = ap (λ m. x ∷ m) (take_suc k l)

take_take_lemma : {B : Type 0} → (k : ℕ) (l : List B) → take k (take (k + 1) l) ≡ take k l
take_take_lemma k l =
    let one : k + 1 ≡ suc k = omega arith in
    ap (λ n. take k (take n l)) one ∙ take_suc k l

module _ {B : Type 0} (stands : B → List Notice → Type 0) (has_left : B → Bool) (notice : Notice) where
  pub told_end : (bs : List B) (at : ℕ) → length bs ≤ at → IsTold stands has_left notice (drop at bs) (drop at bs)
  told_end bs at le = subst (λ l. IsTold stands has_left notice l l) (sym (drop_of_length-le bs {i = at} le)) none

  pub told_moved : (l m new : List B) → l ≡ m → IsTold stands has_left notice l new → IsTold stands has_left notice m new
  told_moved l m new e is = subst (λ x. IsTold stands has_left notice x new) e is

  pub told_leaves : (old new : List B) (at : ℕ) (b c : B) → at < length old → b ≡ get_or old at b → WasTold stands has_left notice b c → has_left c ≡ true
      → IsTold stands has_left notice (drop (at + 1) old) (drop at new) → IsTold stands has_left notice (drop at old) (drop at new)
  told_leaves old new at b c lt is was left rest =
      subst (λ l. IsTold stands has_left notice l (drop at new)) (sym (drop_more old at b lt ∙ ap (λ x. x ∷ drop (at + 1) old) (sym is))) (leaves b c (drop (at + 1) old) (drop at new) was left rest)

  pub told_stays : (old new : List B) (at : ℕ) (b c : B) → at < length old → b ≡ get_or old at b → WasTold stands has_left notice b c → has_left c ≡ false
      → drop at new ≡ c ∷ drop (at + 1) new → IsTold stands has_left notice (drop (at + 1) old) (drop (at + 1) new) → IsTold stands has_left notice (drop at old) (drop at new)
  told_stays old new at b c lt is was stay here rest =
      subst (λ l. IsTold stands has_left notice l (drop at new)) (sym (drop_more old at b lt ∙ ap (λ x. x ∷ drop (at + 1) old) (sym is)))
      (subst (IsTold stands has_left notice (b ∷ drop (at + 1) old)) (sym here) (stays b c (drop (at + 1) old) (drop (at + 1) new) was stay rest))

module _ {B : Type 0} (old : List B) (at : ℕ) (c : B) (lt : at < length old) where
  size : length (take at old) ≡ at
  size = length-take-le at old (omega arith)

  set_is : slice_set old at c ≡ take at old ++ c ∷ drop (suc at) old
  set_is = set_split old at c lt

  -- a list that keeps the front of one in which c stands at the place
  pub front_kept : (new : List B) → take (at + 1) new ≡ take (at + 1) (slice_set old at c) → drop at new ≡ c ∷ drop (at + 1) new
  front_kept new same =
      let longer : length (take at old ++ c ∷ []) ≡ at + 1 = omega (arith, size, length-append (take at old) (c ∷ [])) in
      let front : take (at + 1) new ≡ take at old ++ c ∷ [] =
      same ∙ ap (take (at + 1)) (set_is ∙ sym (append_assoc (take at old) (c ∷ []) (drop (suc at) old))) ∙ take_at (take at old ++ c ∷ []) (drop (suc at) old) (at + 1) longer in
      let whole : new ≡ take at old ++ c ∷ drop (at + 1) new =
      sym (take-append-drop (at + 1) new) ∙ ap (λ l. l ++ drop (at + 1) new) front ∙ append_assoc (take at old) (c ∷ []) (drop (at + 1) new) in
      ap (drop at) whole ∙ drop_at (take at old) (c ∷ drop (at + 1) new) at size

  same_front : take at (slice_set old at c) ≡ take at old
  same_front = ap (take at) set_is ∙ take_at (take at old) (c ∷ drop (suc at) old) at size

  set_size : length (take at (slice_set old at c)) ≡ at
  set_size = ap length same_front ∙ size

  next : suc at ≡ at + 1
  next = omega arith

  pub drop_set : drop (at + 1) (slice_set old at c) ≡ drop (at + 1) old
  drop_set = drop-set-lt (at + 1) old at c (omega arith)

  pub drop_removed : drop at (remove (slice_set old at c) at) ≡ drop (at + 1) old
  drop_removed = drop_at (take at (slice_set old at c)) (drop (suc at) (slice_set old at c)) at set_size ∙ ap (λ k. drop k (slice_set old at c)) next ∙ drop_set

  pub take_removed : take at (remove (slice_set old at c) at) ≡ take at old
  take_removed = take_at (take at (slice_set old at c)) (drop (suc at) (slice_set old at c)) at set_size ∙ same_front

  pub take_kept : (new : List B) → take (at + 1) new ≡ take (at + 1) (slice_set old at c) → take at new ≡ take at old
  take_kept new same =
      sym (take_take_lemma at new) ∙ ap (take at) same ∙ take_take_lemma at (slice_set old at c) ∙ same_front

pub not_true : (b : Bool) → (b ≡ true → ⊥) → b ≡ false
not_true true f = absurd (f refl)
not_true false f = refl
