-- What is seen of an ordered map and of the newest value, which stands apart from it.
use Rattle.std.proofs.Common.{◌≡◌, ℕ, ◌-◌, Bool, true, false, cond, not, eqb, leb, List, [], ◌∷◌, ◌++◌, Option, Some, None, refl, sym, ap, subst, ◌∙◌, arith, length}
use Rattle.std.specs.Prelude.{filter, slice_get, is_none, ◌&&◌}
use Rattle.std.specs.Ordering.{nat_cmp, is_le}
use Rattle.std.specs.Map.{keys_of, lookup, remove_entry}
use Rattle.std.specs.BTreeMap.{is_at, insert_entry}
use Rattle.std.proofs.lemmas.Bool.{ne_eqb}
use Rattle.stream_fold.specs.RowLists.{Rises}
use Rattle.indexed_rows.specs.Entries.{Entries, value_at, last_number, entry_from, with_newest}
use Rattle.indexed_rows.proofs.Listed.{le_leb, rises_front, rises_filter, value_at-lookup, value_at-newest, value_at-older, last-newest, last-at, from-filter, from-older, from-newest, without-entry, without-newest, without-older, inserted-last}

-- the map and the newest value are seen as this
abbrev pub Shows : {V : Type 0} → List (ℕ × V) → Option (ℕ × V) → Entries V → Type 0
Shows {V} older newest b = ◌≡◌ {A = Entries V} (record { items = with_newest older newest; has_room = is_none newest }) b

pub items_is : {V : Type 0} (older : List (ℕ × V)) (newest o : Option (ℕ × V)) (b : Entries V) → Shows older newest b → newest ≡ o → b.items ≡ with_newest older o
items_is {V} older newest o b s is = sym (ap (λ (x : Entries V). x.items) s) ∙ ap (λ n. with_newest older n) is

rises_at : {V : Type 0} (older : List (ℕ × V)) (newest o : Option (ℕ × V)) → Rises 0 (keys_of (with_newest older newest)) → newest ≡ o → Rises 0 (keys_of (with_newest older o))
rises_at older newest o h is = subst (λ n. Rises 0 (keys_of (with_newest older n))) is h

-- ---- look-ups

pub alone_at : {V : Type 0} (older : List (ℕ × V)) (newest : Option (ℕ × V)) (b : Entries V) (n : ℕ) → Shows older newest b → newest ≡ None → lookup (is_at (nat_cmp n)) older ≡ value_at n b.items
alone_at older newest b n s is = value_at-lookup n older ∙ ap (λ items. value_at n items) (sym (items_is older newest None b s is))

pub newest_at : {V : Type 0} (older : List (ℕ × V)) (newest : Option (ℕ × V)) (b : Entries V) (n : ℕ) (e : ℕ × V) → Shows older newest b → Rises 0 (keys_of (with_newest older newest)) → newest ≡ Some e → e.0 ≡ n → Some e.1 ≡ value_at n b.items
newest_at older newest b n e s h is same =
    sym (value_at-newest 0 older e (rises_at older newest (Some e) h is))
    ∙ (ap (λ k. value_at k (older ++ e ∷ [])) same ∙ ap (λ items. value_at n items) (sym (items_is older newest (Some e) b s is)))

pub older_at : {V : Type 0} (older : List (ℕ × V)) (newest : Option (ℕ × V)) (b : Entries V) (n : ℕ) (e : ℕ × V) → Shows older newest b → newest ≡ Some e → ¬ (e.0 ≡ n) → lookup (is_at (nat_cmp n)) older ≡ value_at n b.items
older_at older newest b n e s is other =
    value_at-lookup n older
    ∙ (sym (value_at-older n older e (ne_eqb e.0 n other)) ∙ ap (λ items. value_at n items) (sym (items_is older newest (Some e) b s is)))

pub newest_last : {V : Type 0} (older : List (ℕ × V)) (newest : Option (ℕ × V)) (b : Entries V) (e : ℕ × V) → Shows older newest b → newest ≡ Some e → Some e.0 ≡ last_number b.items
newest_last older newest b e s is = sym (last-newest older e) ∙ ap (λ items. last_number items) (sym (items_is older newest (Some e) b s is))

last_of_all : {V : Type 0} (xs : List (ℕ × V)) (e : ℕ × V) → slice_get xs (length xs - 1) ≡ Some e → last_number xs ≡ Some e.0
last_of_all [] e h = absurd (cc)
last_of_all (x ∷ xs) e h = last-at (x ∷ xs) (length (x ∷ xs) - 1) e (omega arith) h

pub alone_last : {V : Type 0} (older : List (ℕ × V)) (newest : Option (ℕ × V)) (b : Entries V) (e : ℕ × V) → Shows older newest b → newest ≡ None → slice_get older (length older - 1) ≡ Some e → Some e.0 ≡ last_number b.items
alone_last older newest b e s is h = sym (last_of_all older e h) ∙ ap (λ items. last_number items) (sym (items_is older newest None b s is))

and_true : (b : Bool) → (b && true) ≡ b
and_true true = refl
and_true false = refl

-- the test of a range that has a start alone
from_test : {V : Type 0} (n : ℕ) (e : ℕ × V) → (is_le (nat_cmp n e.0) && true) ≡ leb n e.0
from_test n e = and_true (is_le (nat_cmp n e.0)) ∙ le_leb n e.0

from_range : {V : Type 0} (older : List (ℕ × V)) (n : ℕ) (left : List (ℕ × V)) → left ≡ filter (λ e. is_le (nat_cmp n e.0) && true) older → slice_get left 0 ≡ entry_from n older
from_range {V} older n left is = ap (λ (xs : List (ℕ × V)). slice_get xs 0) is ∙ from-filter n (λ e. is_le (nat_cmp n e.0) && true) (λ e. from_test n e) older

from_any : {V : Type 0} (older : List (ℕ × V)) (newest : Option (ℕ × V)) (n : ℕ) (e : ℕ × V) → entry_from n older ≡ Some e → entry_from n (with_newest older newest) ≡ Some e
from_any older None n e h = h
from_any older (Some f) n e h = from-older n older f e h

pub range_at : {V : Type 0} (older : List (ℕ × V)) (newest : Option (ℕ × V)) (b : Entries V) (n : ℕ) (left : List (ℕ × V)) (e : ℕ × V) (rest : List (ℕ × V)) → Shows older newest b → left ≡ filter (λ e. is_le (nat_cmp n e.0) && true) older → left ≡ e ∷ rest → Some e ≡ entry_from n b.items
range_at {V} older newest b n left e rest s is step =
    sym (from_any older newest n e (sym (from_range older n left is) ∙ ap (λ (xs : List (ℕ × V)). slice_get xs 0) step))
    ∙ ap (λ items. entry_from n items) (sym (items_is older newest newest b s refl))

none_in : {V : Type 0} (older : List (ℕ × V)) (n : ℕ) (left : List (ℕ × V)) → left ≡ filter (λ e. is_le (nat_cmp n e.0) && true) older → left ≡ [] → entry_from n older ≡ None
none_in {V} older n left is step = sym (from_range older n left is) ∙ ap (λ (xs : List (ℕ × V)). slice_get xs 0) step

pub range_none : {V : Type 0} (older : List (ℕ × V)) (newest : Option (ℕ × V)) (b : Entries V) (n : ℕ) (left : List (ℕ × V)) → Shows older newest b → left ≡ filter (λ e. is_le (nat_cmp n e.0) && true) older → left ≡ [] → newest ≡ None → None ≡ entry_from n b.items
range_none older newest b n left s is step alone = sym (none_in older n left is step) ∙ ap (λ items. entry_from n items) (sym (items_is older newest None b s alone))

pub range_newest : {V : Type 0} (older : List (ℕ × V)) (newest : Option (ℕ × V)) (b : Entries V) (n : ℕ) (left : List (ℕ × V)) (e : ℕ × V) → Shows older newest b → left ≡ filter (λ e. is_le (nat_cmp n e.0) && true) older → left ≡ [] → newest ≡ Some e → entry_from n b.items ≡ cond (leb n e.0) (Some e) None
range_newest older newest b n left e s is step apart = ap (λ items. entry_from n items) (items_is older newest (Some e) b s apart) ∙ from-newest n older e (none_in older n left is step)

-- ---- changes

-- the map and the newest value, changed, rise and are this list
abbrev pub Leaves : {V : Type 0} → List (ℕ × V) → Option (ℕ × V) → List (ℕ × V) → Type 0
Leaves older newest items = Rises 0 (keys_of (with_newest older newest)) × (with_newest older newest ≡ items)

leaves_of : {V : Type 0} (older : List (ℕ × V)) (newest : Option (ℕ × V)) (items : List (ℕ × V)) → Rises 0 (keys_of items) → with_newest older newest ≡ items → Leaves older newest items
leaves_of older newest items h is = (subst (λ xs. Rises 0 (keys_of xs)) (sym is) h, is)

-- without a number
abbrev pub without : {V : Type 0} → ℕ → List (ℕ × V) → List (ℕ × V)
without n items = filter (λ e. not (eqb e.0 n)) items

seen_rises : {V : Type 0} (older : List (ℕ × V)) (newest : Option (ℕ × V)) (b : Entries V) → Shows older newest b → Rises 0 (keys_of (with_newest older newest)) → Rises 0 (keys_of b.items)
seen_rises {V} older newest b s h = subst (λ (x : Entries V). Rises 0 (keys_of x.items)) s h

pub removed_alone : {V : Type 0} (older older' : List (ℕ × V)) (newest newest' : Option (ℕ × V)) (b : Entries V) (n : ℕ) → Shows older newest b → Rises 0 (keys_of (with_newest older newest)) → newest ≡ None → newest' ≡ None → older' ≡ remove_entry (is_at (nat_cmp n)) older → Leaves older' newest' (without n b.items)
removed_alone older older' newest newest' b n s h is is' entries =
    leaves_of older' newest' (without n b.items) (rises_filter _ 0 b.items (seen_rises older newest b s h))
    (ap (λ o. with_newest older' o) is' ∙ (entries ∙ (without-entry n 0 older (rises_at older newest None h is) ∙ ap (λ items. without n items) (sym (items_is older newest None b s is)))))

pub removed_newest : {V : Type 0} (older : List (ℕ × V)) (newest newest' : Option (ℕ × V)) (b : Entries V) (n : ℕ) (e : ℕ × V) → Shows older newest b → Rises 0 (keys_of (with_newest older newest)) → newest ≡ Some e → e.0 ≡ n → newest' ≡ None → Leaves older newest' (without n b.items)
removed_newest older newest newest' b n e s h is same is' =
    leaves_of older newest' (without n b.items) (rises_filter _ 0 b.items (seen_rises older newest b s h))
    (ap (λ o. with_newest older o) is' ∙ (sym (without-newest 0 older e (rises_at older newest (Some e) h is)) ∙ (ap (λ k. without k (older ++ e ∷ [])) same ∙ ap (λ items. without n items) (sym (items_is older newest (Some e) b s is)))))

pub removed_older : {V : Type 0} (older older' : List (ℕ × V)) (newest : Option (ℕ × V)) (b : Entries V) (n : ℕ) (e : ℕ × V) → Shows older newest b → Rises 0 (keys_of (with_newest older newest)) → newest ≡ Some e → ¬ (e.0 ≡ n) → older' ≡ remove_entry (is_at (nat_cmp n)) older → Leaves older' (Some e) (without n b.items)
removed_older older older' newest b n e s h is other entries =
    leaves_of older' (Some e) (without n b.items) (rises_filter _ 0 b.items (seen_rises older newest b s h))
    (ap (λ xs. xs ++ e ∷ []) (entries ∙ without-entry n 0 older (rises_front 0 older e (rises_at older newest (Some e) h is)))
    ∙ (sym (without-older n older e (ne_eqb e.0 n other)) ∙ ap (λ items. without n items) (sym (items_is older newest (Some e) b s is))))

-- the newest value has moved into the map
pub moved : {V : Type 0} (older older' : List (ℕ × V)) (newest newest' : Option (ℕ × V)) (b : Entries V) (e : ℕ × V) → Shows older newest b → Rises 0 (keys_of (with_newest older newest)) → newest ≡ Some e → newest' ≡ None → older' ≡ insert_entry nat_cmp older e.0 e.1 → Leaves older' newest' b.items
moved older older' newest newest' b e s h is is' entries =
    leaves_of older' newest' b.items (seen_rises older newest b s h)
    (ap (λ o. with_newest older' o) is' ∙ (entries ∙ (inserted-last 0 older e (rises_at older newest (Some e) h is) ∙ sym (items_is older newest (Some e) b s is))))
