-- What links were told, as a list in the order of the links.
use Rattle.std.proofs.Common.{◌≡◌, ℕ, Bool, true, false, cond, eqb, List, [], ◌∷◌, map, Option, Some, None, inl, inr, refl, sym, ap, ◌∙◌, subst, Ordering, nat_cmp, is_eq, arith}
use Rattle.std.specs.BTreeMap.{insert_entry}
use Rattle.std.specs.Cmp.{nat_cmp_total}
use Rattle.std.specs.List.{AllByRecursion}
use Rattle.std.specs.List.Sorted.{IsStrictlySortedBy}
use Rattle.std.specs.Ordering.{match_ordering}
use Rattle.std.specs.Map.{lookup, keys_of, set_value, remove_entry}
use Rattle.std.specs.declared.cmp.Ordering.TheVariants.{Less, Equal, Greater}
use Rattle.std.proofs.lemmas.Bool.{cases_Bool, eqb-true}
use Rattle.std.proofs.lemmas.Map.Keys.{sorted_head, sorted_tail}
use Rattle.std.proofs.lemmas.Option.{same_Some}
use Rattle.interest_list.specs.declared.telling.Told.{Told}
use Rattle.interest_list.specs.declared.telling.ToldTo.{ToldTo}
use Rattle.interest_list.specs.Changes.{forgotten}
use Rattle.interest_list.specs.Lists.{link_cmp}
use Rattle.interest_list.specs.Orders.{placed}
use Rattle.interest_list.specs.Tellings.{told_before}
use Rattle.told_pairs.specs.Tellings.{LinkTellings, told_link, told_list}
use Rattle.told_pairs.proofs.Weights.{number_same}

Links : Type 0
Links = List (ℕ × LinkTellings)

-- what stands under a link
abbrev pub found : ℕ → List (ℕ × LinkTellings) → Option LinkTellings
found link es = lookup (λ l. is_eq (nat_cmp link l)) es

-- what was told of it
abbrev pub held_in : Option LinkTellings → List Told
held_in None = []
held_in (Some to) = told_list to.told

number_is : (a b : ℕ) → is_eq (nat_cmp a b) ≡ true → a ≡ b
number_is a b e = eqb-true a b (sym (number_same a b) ∙ e)

turned_number : (a b : ℕ) → eqb a b ≡ is_eq (nat_cmp b a)
turned_number a b = turn (eqb a b) (eqb b a) refl refl ∙ sym (number_same b a) where
  turn : (x y : Bool) → eqb a b ≡ x → eqb b a ≡ y → eqb a b ≡ eqb b a
  turn x y p q = grind (arith)

pub before_found : (link : ℕ) (es : List (ℕ × LinkTellings)) → told_before link (map told_link es) ≡ held_in (found link es)
before_found link [] = refl
before_found link (e ∷ es) = elim (cases_Bool (is_eq (nat_cmp link e.0))) [
  | inl same ↦ rw (turned_number e.0 link, same) refl
  | inr other ↦ rw (turned_number e.0 link, other) (before_found link es)
]

Above : ℕ → List (ℕ × LinkTellings) → Type 0
Above link es = AllByRecursion (λ (z : ℕ). nat_cmp link z ≡ Less) (keys_of es)

not_above : (link : ℕ) (es : List (ℕ × LinkTellings)) → AllByRecursion (λ (z : ℕ). nat_cmp link z ≡ Less) (keys_of es) → found link es ≡ None
not_above link [] h = refl
not_above link (e ∷ es) h = ap (λ (o : Ordering). cond (is_eq o) (Some e.1) (found link es)) h.0 ∙ not_above link es h.1

above_less : (link other : ℕ) (es : List (ℕ × LinkTellings)) → nat_cmp link other ≡ Less → AllByRecursion (λ (z : ℕ). nat_cmp other z ≡ Less) (keys_of es) → AllByRecursion (λ (z : ℕ). nat_cmp link z ≡ Less) (keys_of es)
above_less link other [] l h = tt
above_less link other (e ∷ es) l h = (nat_cmp_total.trans link other e.0 l h.0, above_less link other es l h.1)

pub none_some : {A : Type 0} (x : A) → None ≡ Some x → ⊥
none_some x e = absurd (cc)

-- ---- another value under a link that stands

module _ (link : ℕ) (w : LinkTellings) where
  abbrev here : ToldTo
  here = told_link (link, w)

  abbrev puts : ToldTo → List ToldTo → Ordering → List ToldTo
  puts y ys o = elim o [ Less ↦ here ∷ y ∷ ys | Equal ↦ here ∷ ys | Greater ↦ y ∷ placed link_cmp here ys ]

  pub list_set : (es : List (ℕ × LinkTellings)) (v : LinkTellings) → IsStrictlySortedBy nat_cmp (keys_of es) → found link es ≡ Some v → map told_link (set_value (λ l. is_eq (nat_cmp link l)) es w) ≡ placed link_cmp here (map told_link es)
  list_set [] v s f = absurd (none_some v f)
  list_set (e ∷ es) v s f = by (nat_cmp link e.0) refl f (λ g. list_set es v (sorted_tail nat_cmp e.0 (keys_of es) s) g) where
    by : (o : Ordering) → nat_cmp link e.0 ≡ o → cond (is_eq o) (Some e.1) (found link es) ≡ Some v
        → (found link es ≡ Some v → map told_link (set_value (λ l. is_eq (nat_cmp link l)) es w) ≡ placed link_cmp here (map told_link es))
        → map told_link (cond (is_eq o) ((e.0, w) ∷ es) (e ∷ set_value (λ l. is_eq (nat_cmp link l)) es w)) ≡ puts (told_link e) (map told_link es) o
    by Less q g more = absurd (none_some v (sym (not_above link es (above_less link e.0 es q (sorted_head nat_cmp e.0 (keys_of es) s))) ∙ g))
    by Equal q g more = ap (λ (n : ℕ). told_link (n, w) ∷ map told_link es) (sym (number_is link e.0 (ap is_eq q)))
    by Greater q g more = ap (λ (l : List ToldTo). told_link e ∷ l) (more g)

  pub list_insert : (es : List (ℕ × LinkTellings)) → map told_link (insert_entry nat_cmp es link w) ≡ placed link_cmp here (map told_link es)
  list_insert [] = refl
  list_insert (e ∷ es) = by (nat_cmp link e.0) refl (list_insert es) where
    by : (o : Ordering) → nat_cmp link e.0 ≡ o → map told_link (insert_entry nat_cmp es link w) ≡ placed link_cmp here (map told_link es)
        → map told_link (match_ordering o ((link, w) ∷ e ∷ es) ((e.0, w) ∷ es) (e ∷ insert_entry nat_cmp es link w)) ≡ puts (told_link e) (map told_link es) o
    by Less q more = refl
    by Equal q more = ap (λ (n : ℕ). told_link (n, w) ∷ map told_link es) (sym (number_is link e.0 (ap is_eq q)))
    by Greater q more = ap (λ (l : List ToldTo). told_link e ∷ l) more

  -- nothing else is told by it
  pub list_same : (es : List (ℕ × LinkTellings)) (v : LinkTellings) → found link es ≡ Some v → told_list w.told ≡ told_list v.told → map told_link (set_value (λ l. is_eq (nat_cmp link l)) es w) ≡ map told_link es
  list_same [] v f same = refl
  list_same (e ∷ es) v f same = elim (cases_Bool (is_eq (nat_cmp link e.0))) [
    | inl this ↦ rw this (
        let is : e.1 ≡ v = same_Some e.1 v (rw this at f) in
        let one : told_list w.told ≡ told_list e.1.told = same ∙ ap (λ (to : LinkTellings). told_list to.told) (sym is) in
        ap (λ (ts : List Told). record { link = e.0; told = ts } ∷ map told_link es) one)
    | inr other ↦ rw other (ap (λ (l : List ToldTo). told_link e ∷ l) (list_same es v (rw other at f) same))
  ]

-- ---- a link that is gone

all_others : (link : ℕ) (es : List (ℕ × LinkTellings)) → AllByRecursion (λ (z : ℕ). nat_cmp link z ≡ Less) (keys_of es) → map told_link es ≡ forgotten link (map told_link es)
all_others link [] h = refl
all_others link (e ∷ es) h =
    let other : eqb e.0 link ≡ false = turned_number e.0 link ∙ ap is_eq h.0 in
    rw other (ap (λ (l : List ToldTo). told_link e ∷ l) (all_others link es h.1))

above_same : (link other : ℕ) (es : List (ℕ × LinkTellings)) → link ≡ other → AllByRecursion (λ (z : ℕ). nat_cmp other z ≡ Less) (keys_of es) → AllByRecursion (λ (z : ℕ). nat_cmp link z ≡ Less) (keys_of es)
above_same link other es e h = subst (λ (n : ℕ). AllByRecursion (λ (z : ℕ). nat_cmp n z ≡ Less) (keys_of es)) (sym e) h

pub list_remove : (link : ℕ) (es : List (ℕ × LinkTellings)) → IsStrictlySortedBy nat_cmp (keys_of es) → map told_link (remove_entry (λ l. is_eq (nat_cmp link l)) es) ≡ forgotten link (map told_link es)
list_remove link [] s = refl
list_remove link (e ∷ es) s = elim (cases_Bool (is_eq (nat_cmp link e.0))) [
  | inl same ↦ rw (turned_number e.0 link, same) (all_others link es (above_same link e.0 es (number_is link e.0 same) (sorted_head nat_cmp e.0 (keys_of es) s)))
  | inr other ↦ rw (turned_number e.0 link, other) (ap (λ (l : List ToldTo). told_link e ∷ l) (list_remove link es (sorted_tail nat_cmp e.0 (keys_of es) s)))
]
