-- Look-ups in lists of what is told.
use Rattle.std.proofs.Common.{◌≡◌, ℕ, Bool, true, false, cond, List, [], ◌∷◌, Option, Some, None, inl, inr, refl, sym, ap, ◌∙◌, subst, Ordering, unwrap_or}
use Rattle.std.specs.Prelude.{map, nat_lt}
use Rattle.std.specs.List.{list_any, AllByRecursion}
use Rattle.std.specs.List.Sorted.{IsStrictlySortedBy}
use Rattle.std.specs.Map.{lookup, keys_of}
use Rattle.std.specs.Ordering.{is_eq}
use Rattle.std.specs.declared.cmp.Ordering.TheVariants.{Less, Equal, Greater}
use Rattle.std.proofs.lemmas.Bool.{cases_Bool}
use Rattle.std.proofs.lemmas.Map.Keys.{sorted_head, sorted_tail}
use Rattle.interest_list.specs.declared.telling.Told.{Told}
use Rattle.interest_list.specs.Lists.{told_cmp}
use Rattle.interest_list.proofs.Rising.{Below, Rises, at, if_at}
use Rattle.told_pairs.specs.declared.pair.Pair.{Pair}
use Rattle.told_pairs.specs.Keys.{key_cmp, same_key}
use Rattle.told_pairs.specs.Tellings.{as_told, told_list}
use Rattle.told_pairs.proofs.Keys.{key_is}

-- the pair that is told of
abbrev pub key_of : Told → Pair
key_of t = record { pattern = t.pattern; queue = t.queue }

-- what is told of a pair that has this weight
abbrev pub telling_of : Pair → ℕ → Option Told
telling_of p n = cond (nat_lt 0 n) (Some (as_told (p, n))) None

Ascend : List (Pair × ℕ) → Type 0
Ascend es = IsStrictlySortedBy key_cmp (keys_of es)

Above : Pair → List (Pair × ℕ) → Type 0
Above k es = AllByRecursion (λ (z : Pair). key_cmp k z ≡ Less) (keys_of es)

none_above : (k : Pair) (es : List (Pair × ℕ)) → AllByRecursion (λ (z : Pair). key_cmp k z ≡ Less) (keys_of es) → lookup (same_key k) es ≡ None
none_above k [] h = refl
none_above k (e ∷ es) h = ap (λ (o : Ordering). cond (is_eq o) (Some e.1) (lookup (same_key k) es)) h.0 ∙ none_above k es h.1

equal_is : (a b : Pair) → key_cmp a b ≡ Equal → a ≡ b
equal_is a b e = key_is a b (ap is_eq e)

-- an entry that has no weight isn't told
module _ (t : Told) where
  abbrev k : Pair
  k = key_of t

  abbrev says : List (Pair × ℕ) → Type 0
  says es = at told_cmp t (told_list es) ≡ telling_of k (unwrap_or (lookup (same_key k) es) 0)

  with_weight : (e : Pair × ℕ) (es : List (Pair × ℕ)) → nat_lt 0 e.1 ≡ true → says es → at told_cmp t (as_told e ∷ told_list es) ≡ telling_of k (unwrap_or (lookup (same_key k) (e ∷ es)) 0)
  with_weight e es some rest = by (key_cmp k e.0) refl where
    by : (o : Ordering) → key_cmp k e.0 ≡ o → if_at o (as_told e) (at told_cmp t (told_list es)) ≡ telling_of k (unwrap_or (cond (is_eq o) (Some e.1) (lookup (same_key k) es)) 0)
    by Less q = rest
    by Greater q = rest
    by Equal q = ap (λ (p : Pair). Some (as_told (p, e.1))) (sym (equal_is k e.0 q)) ∙ sym (ap (λ (b : Bool). cond b (Some (as_told (k, e.1))) None) some)

  without_weight : (e : Pair × ℕ) (es : List (Pair × ℕ)) → nat_lt 0 e.1 ≡ false → AllByRecursion (λ (z : Pair). key_cmp e.0 z ≡ Less) (keys_of es) → says es → at told_cmp t (told_list es) ≡ telling_of k (unwrap_or (lookup (same_key k) (e ∷ es)) 0)
  without_weight e es none above rest = by (key_cmp k e.0) refl where
    by : (o : Ordering) → key_cmp k e.0 ≡ o → at told_cmp t (told_list es) ≡ telling_of k (unwrap_or (cond (is_eq o) (Some e.1) (lookup (same_key k) es)) 0)
    by Less q = rest
    by Greater q = rest
    by Equal q =
        let gone : lookup (same_key k) es ≡ None = subst (λ (p : Pair). lookup (same_key p) es ≡ None) (sym (equal_is k e.0 q)) (none_above e.0 es above) in
        rest ∙ (ap (λ o. telling_of k (unwrap_or o 0)) gone ∙ sym (ap (λ (b : Bool). cond b (Some (as_told (k, e.1))) None) none))

  pub at_told : (es : List (Pair × ℕ)) → IsStrictlySortedBy key_cmp (keys_of es) → at told_cmp t (told_list es) ≡ telling_of (key_of t) (unwrap_or (lookup (same_key (key_of t)) es) 0)
  at_told [] h = refl
  at_told (e ∷ es) h = elim (cases_Bool (nat_lt 0 e.1)) [
    | inl some ↦ rw some (with_weight e es some (at_told es (sorted_tail key_cmp e.0 (keys_of es) h)))
    | inr none ↦ rw none (without_weight e es none (sorted_head key_cmp e.0 (keys_of es) h) (at_told es (sorted_tail key_cmp e.0 (keys_of es) h)))
  ]

-- the list rises
below_told : (e : Pair × ℕ) (es : List (Pair × ℕ)) → AllByRecursion (λ (z : Pair). key_cmp e.0 z ≡ Less) (keys_of es) → Below told_cmp (as_told e) (told_list es)
below_told e [] h = tt
below_told e (x ∷ es) h = elim (cases_Bool (nat_lt 0 x.1)) [
  | inl some ↦ rw some (h.0, below_told e es h.1)
  | inr none ↦ rw none (below_told e es h.1)
]

pub rises_told : (es : List (Pair × ℕ)) → IsStrictlySortedBy key_cmp (keys_of es) → Rises told_cmp (told_list es)
rises_told [] h = tt
rises_told (e ∷ es) h = elim (cases_Bool (nat_lt 0 e.1)) [
  | inl some ↦ rw some (below_told e es (sorted_head key_cmp e.0 (keys_of es) h), rises_told es (sorted_tail key_cmp e.0 (keys_of es) h))
  | inr none ↦ rw none (rises_told es (sorted_tail key_cmp e.0 (keys_of es) h))
]

-- ---- lists of pairs with weights

pub keys_given : (v : Pair → ℕ) (ks : List Pair) → keys_of (map (λ p. (p, v p)) ks) ≡ ks
keys_given v [] = refl
keys_given v (k ∷ ks) = ap (λ (rest : List Pair). k ∷ rest) (keys_given v ks)

pub lookup_given : (v : Pair → ℕ) (p : Pair) (ks : List Pair) → unwrap_or (lookup (same_key p) (map (λ q. (q, v q)) ks)) 0 ≡ cond (list_any (same_key p) ks) (v p) 0
lookup_given v p [] = refl
lookup_given v p (k ∷ ks) = elim (cases_Bool (same_key p k)) [
  | inl same ↦ rw same (ap v (sym (key_is p k same)))
  | inr other ↦ rw other (lookup_given v p ks)
]

pub at_given : (v : Pair → ℕ) (ks : List Pair) → IsStrictlySortedBy key_cmp ks → (t : Told) → at told_cmp t (told_list (map (λ p. (p, v p)) ks)) ≡ telling_of (key_of t) (cond (list_any (same_key (key_of t)) ks) (v (key_of t)) 0)
at_given v ks h t = at_told t (map (λ p. (p, v p)) ks) (subst (λ (l : List Pair). IsStrictlySortedBy key_cmp l) (sym (keys_given v ks)) h) ∙ ap (telling_of (key_of t)) (lookup_given v (key_of t) ks)

pub rises_given : (v : Pair → ℕ) (ks : List Pair) → IsStrictlySortedBy key_cmp ks → Rises told_cmp (told_list (map (λ p. (p, v p)) ks))
rises_given v ks h = rises_told (map (λ p. (p, v p)) ks) (subst (λ (l : List Pair). IsStrictlySortedBy key_cmp l) (sym (keys_given v ks)) h)
