-- Data without nulls and fractions, whose members are in order, are read from their text.
use Rattle.std.proofs.Common.{◌≡◌, ℕ, ◌≤◌, List, Bool, true, false, ◌&&◌, Some, Ordering, Less, Equal, Greater, refl, sym, ap, subst, ◌∙◌, arith}
use Rattle.std.specs.Prelude.{option_and_then, option_map}
use Rattle.std.specs.Ordering.{nat_cmp, match_ordering}
use Rattle.std.specs.Cmp.Lexicographic.{slice_cmp}
use Rattle.std.proofs.lemmas.Bool.{and_parts, and_from, false≢true}
use Rattle.serde_json.specs.Data.{unsigned, negative, float, Data, null, boolean, number, string, array, object, Items, no_items, item, Members, no_members, member, put, depth}
use Rattle.serde_json.specs.Read.{read, of_json, of_items, of_members, max_depth}
use Rattle.serde_json.specs.Written.{outline, items_outline, members_outline, compact_text}
use Rattle.serde_json.proofs.Numbers.{number_of-decimal, number_of-negative}
use Rattle.config_json.proofs.Json.{Plain, PlainItems, PlainMembers, reads_again as read_back}
use Rattle.js_api.specs.Laws.{is_below, in_order, items_in_order, members_in_order}

-- ---- members that are put one after another in order

-- one more member at the end
abbrev behind_all : Members → List ℕ → Data → Members
behind_all no_members k d = member k d no_members
behind_all (member l e ms) k d = member l e (behind_all ms k d)

-- members behind others
abbrev joined : Members → Members → Members
joined no_members ms = ms
joined (member l e front) ms = member l e (joined front ms)

-- the first name is above the second
abbrev is_above : List ℕ → List ℕ → Bool
is_above k l = match_ordering (slice_cmp nat_cmp k l) false false true

-- the name is above all of these
abbrev is_last : List ℕ → Members → Bool
is_last k no_members = true
is_last k (member l e front) = is_above k l && is_last k front

-- all of the names are above all of these
abbrev are_last : Members → Members → Bool
are_last front no_members = true
are_last front (member k d ms) = is_last k front && are_last front ms

greater_alone : {A : Type 0} (o : Ordering) (x y z : A) → match_ordering o false false true ≡ true → match_ordering o x y z ≡ z
greater_alone Less x y z h = absurd (false≢true h)
greater_alone Equal x y z h = absurd (false≢true h)
greater_alone Greater x y z h = refl

put_last : (front : Members) (k : List ℕ) (d : Data) → is_last k front ≡ true → put k d front ≡ behind_all front k d
put_last no_members k d h = refl
put_last (member l e front) k d h =
    let p = and_parts (is_above k l) (is_last k front) h in
    greater_alone (slice_cmp nat_cmp k l) (member k d (member l e front)) (member l d front) (member l e (put k d front)) p.0 ∙ ap (λ ms. member l e ms) (put_last front k d p.1)

last_of_more : (front : Members) (k l : List ℕ) (d : Data) → is_last k front ≡ true → is_above k l ≡ true → is_last k (behind_all front l d) ≡ true
last_of_more no_members k l d h above = and_from (is_above k l) true above refl
last_of_more (member m e front) k l d h above =
    let p = and_parts (is_above k m) (is_last k front) h in
    and_from (is_above k m) (is_last k (behind_all front l d)) p.0 (last_of_more front k l d p.1 above)

all_last_of_more : (front ms : Members) (l : List ℕ) (d : Data) → are_last front ms ≡ true → is_below l ms ≡ true → are_last (behind_all front l d) ms ≡ true
all_last_of_more front no_members l d h below = refl
all_last_of_more front (member k e ms) l d h below =
    let p = and_parts (is_last k front) (are_last front ms) h in
    let q = and_parts (is_above k l) (is_below l ms) below in
    and_from (is_last k (behind_all front l d)) (are_last (behind_all front l d) ms) (last_of_more front k l d p.0 q.0) (all_last_of_more front ms l d p.1 q.1)

none_last : (ms : Members) → are_last no_members ms ≡ true
none_last no_members = refl
none_last (member k d ms) = none_last ms

joined_behind : (front ms : Members) (k : List ℕ) (d : Data) → joined (behind_all front k d) ms ≡ joined front (member k d ms)
joined_behind no_members ms k d = refl
joined_behind (member l e front) ms k d = ap (λ x. member l e x) (joined_behind front ms k d)

joined_none : (front : Members) → joined front no_members ≡ front
joined_none no_members = refl
joined_none (member l e front) = ap (λ x. member l e x) (joined_none front)

mutual
  data_back : (d : Data) → Plain d → in_order d ≡ true → of_json (outline d) ≡ Some d
  data_back null h o = absurd h
  data_back (boolean b) h o = refl
  data_back (number (unsigned n)) h o = ap (option_map number) (number_of-decimal n h)
  data_back (number (negative z)) h o = subst (λ w. of_json (outline (number (negative w))) ≡ Some (number (negative w))) (sym h) (ap (option_map number) (number_of-negative 0 (omega arith)))
  data_back (number (float x)) h o = absurd h
  data_back (string s) h o = refl
  data_back (array ds) h o = ap (option_map array) (items_back ds h o)
  data_back (object ms) h o = ap (option_map object) (members_back no_members ms h o (none_last ms))

  items_back : (ds : Items) → PlainItems ds → items_in_order ds ≡ true → of_items (items_outline ds) ≡ Some ds
  items_back no_items h o = refl
  items_back (item d ds) h o =
      let p = and_parts (in_order d) (items_in_order ds) o in
      ap (option_and_then (λ x. option_map (item x) (of_items (items_outline ds)))) (data_back d h.0 p.0) ∙ ap (option_map (item d)) (items_back ds h.1 p.1)

  members_back : (front ms : Members) → PlainMembers ms → members_in_order ms ≡ true → are_last front ms ≡ true → of_members (members_outline ms) front ≡ Some (joined front ms)
  members_back front no_members h o last = ap (λ x. Some x) (sym (joined_none front))
  members_back front (member k d ms) h o last =
      let p = and_parts (is_below k ms && in_order d) (members_in_order ms) o in
      let q = and_parts (is_below k ms) (in_order d) p.0 in
      let l = and_parts (is_last k front) (are_last front ms) last in
      ap (option_and_then (λ x. of_members (members_outline ms) (put k x front))) (data_back d h.1 q.1)
      ∙ (ap (of_members (members_outline ms)) (put_last front k d l.0)
      ∙ (members_back (behind_all front k d) ms h.2 p.1 (all_last_of_more front ms k d l.1 q.0) ∙ ap (λ x. Some x) (joined_behind front ms k d)))

-- what is written reads as the data
pub reads_again : (d : Data) → Plain d → in_order d ≡ true → depth d ≤ max_depth → read (compact_text d) ≡ Some d
reads_again d plain ordered shallow = read_back d plain (data_back d plain ordered) shallow
