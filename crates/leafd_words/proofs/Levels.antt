-- A command among others, whose reading has no error to tell, was given each of its values.
use Rattle.std.proofs.Common.{◌≡◌, ℕ, Bool, true, false, not, ◌&&◌, ◌||◌, cond, List, [], ◌∷◌, length, Option, Some, None, is_some, option_map, find, codes, refl, subst, arith}
use Rattle.std.proofs.lemmas.Bool.{eqb-true}
use Rattle.std.proofs.lemmas.Option.{same_Some}
use Rattle.std.specs.List.{AllByRecursion, list_any, slice_index_or}
use Rattle.std.specs.Option.{option_map_or}
use Rattle.clap.specs.Faults.{level_fault, entered_fault, built_fault, check_fault, walk_fault, settle_fault, defaults_fault}
use Rattle.clap.specs.Kinds.{Kinds, or_else, check_kinds}
use Rattle.clap.specs.Simple.{Shape, built, entered, label_of, names_of, rows_at}
use Rattle.clap.specs.Takes.{is_given}
use Rattle.clap.specs.Walk.{Row, Rule, Text, answers_to, nothing_held, walk, walk_from, finished, settled, is_empty}
use Rattle.leafd_words.specs.Commands.{is_taken, leafd_app, drill_shape}
use Rattle.leafd_words.specs.Laws.{HasEachValue, EachValueIsThere}
use Rattle.leafd_words.proofs.Rows.{AreFull, ArePlaces, full_walk, full_finished, given_first}

or_else-next : (a b : Kinds) → or_else a b ≡ [] → b ≡ []
or_else-next [] b h = h
or_else-next (k ∷ ks) b h = cc

or_else-first : (a b : Kinds) → or_else a b ≡ [] → a ≡ []
or_else-first [] b h = refl
or_else-first (k ∷ ks) b h = cc

empty_is : (a : Kinds) → is_empty a ≡ true → a ≡ []
empty_is [] h = refl
empty_is (k ∷ ks) h =
    let none : length (k ∷ ks) ≡ 0 = eqb-true (length (k ∷ ks)) 0 h in
    absurd (omega arith)

-- the rows of a command's words
abbrev rows_in : Shape → List Text → List Row
rows_in s words = finished s.rules (walk s.rules [] nothing_held words).held

rows_full : (s : Shape) (words : List Text) → ArePlaces s.rules → AreFull (rows_in s words)
rows_full s words p = full_finished s.rules _ p (full_walk s.rules [] words (walk_from nothing_held) p (record { rows = tt; pending = tt }))

-- the last check of a command's reading finds nothing
check_passes : (s : Shape) (words : List Text) → level_fault s [] nothing_held words false [] ≡ [] → check_fault s (rows_in s words) false ≡ []
check_passes s words h =
    let end = (walk s.rules [] nothing_held words).held in
    let walked = walk_fault s [] (walk_from nothing_held) words in
    let settles = settle_fault s.rules s.args_override_self end in
    let defaults = defaults_fault (settled s.rules end).rows s.rules in
    let last = check_fault s (finished s.rules end) false in
    or_else-next defaults last (or_else-next settles (or_else defaults last) (or_else-next walked (or_else settles (or_else defaults last)) h))

-- a reading of this command that has no error to tell gave it each of its values
abbrev Gives : Shape → Type 0
Gives s = (words : List Text) → level_fault s [] nothing_held words false [] ≡ [] → HasEachValue (rows_at s words)

asks_none : (b : Bool) → check_kinds false false b ≡ [] → b ≡ false
asks_none true h = cc
asks_none false h = refl

-- no value is asked for that wasn't given
abbrev misses : List Row → List Rule → Bool
misses rows rules = list_any (λ a. a.required && not (is_given a.id rows)) rules

given_now : (g rest : Bool) → ((true && not g) || rest) ≡ false → (g ≡ true) × (rest ≡ false)
given_now true rest h = (refl, h)
given_now false rest h = cc

abbrev subs : List Shape
subs = (built leafd_app).subs

abbrev sub : ℕ → Shape
sub n = slice_index_or subs n drill_shape

gives_drill : Gives (sub 0)
gives_drill words h = tt

gives_check : Gives (sub 1)
gives_check words h =
    let places : ArePlaces (sub 1).rules = (record { set = refl; place = refl }, tt) in
    let one = given_now _ _ (asks_none (misses (rows_in (sub 1) words) (sub 1).rules) (check_passes (sub 1) words h)) in
    (given_first (codes "CONF") (rows_in (sub 1) words) (rows_full (sub 1) words places) one.0, tt)

gives_inspect : Gives (sub 2)
gives_inspect words h =
    let places : ArePlaces (sub 2).rules = (record { set = refl; place = refl }, tt) in
    let one = given_now _ _ (asks_none (misses (rows_in (sub 2) words) (sub 2).rules) (check_passes (sub 2) words h)) in
    (given_first (codes "DIR") (rows_in (sub 2) words) (rows_full (sub 2) words places) one.0, tt)

gives_map : Gives (sub 3)
gives_map words h =
    let places : ArePlaces (sub 3).rules = (record { set = refl; place = refl }, (record { set = refl; place = refl }, (record { set = refl; place = refl }, tt))) in
    let full = rows_full (sub 3) words places in
    let one = given_now _ _ (asks_none (misses (rows_in (sub 3) words) (sub 3).rules) (check_passes (sub 3) words h)) in
    let two = given_now _ _ one.1 in
    let three = given_now _ _ two.1 in
    (given_first (codes "SRC") (rows_in (sub 3) words) full one.0, (given_first (codes "DEST") (rows_in (sub 3) words) full two.0, (given_first (codes "SUBJECT") (rows_in (sub 3) words) full three.0, tt)))

all_give : AllByRecursion Gives subs
all_give = (gives_drill, (gives_check, (gives_inspect, (gives_map, tt))))

-- the same of whichever of these the words name
entered_gives : (ss : List Shape) (name : Text) (words : List Text) (found : Text × List Row) → AllByRecursion Gives ss
    → option_map_or (λ s. level_fault s [] nothing_held words false []) (find (λ s. answers_to name (label_of s)) ss) [] ≡ []
    → option_map (λ s. rows_at s words) (find (λ s. answers_to name (label_of s)) ss) ≡ Some found → HasEachValue found
entered_gives [] name words found g h e = cc
entered_gives (s ∷ ss) name words found g h e = go (answers_to name (label_of s)) (entered_gives ss name words found g.1) h e
  where
    go : (b : Bool)
        → (option_map_or (λ s. level_fault s [] nothing_held words false []) (find (λ s. answers_to name (label_of s)) ss) [] ≡ [] → option_map (λ s. rows_at s words) (find (λ s. answers_to name (label_of s)) ss) ≡ Some found → HasEachValue found)
        → option_map_or (λ s. level_fault s [] nothing_held words false []) (cond b (Some s) (find (λ s. answers_to name (label_of s)) ss)) [] ≡ []
        → option_map (λ s. rows_at s words) (cond b (Some s) (find (λ s. answers_to name (label_of s)) ss)) ≡ Some found → HasEachValue found
    go true more h e = subst HasEachValue (same_Some _ _ e) (g.0 words h)
    go false more h e = more h e

at_stop : (o : Option (Text × List Text)) (found : Text × List Row) → entered_fault (built leafd_app) o ≡ [] → entered (built leafd_app) o ≡ Some found → HasEachValue found
at_stop None found h e = cc
at_stop (Some p) found h e = entered_gives subs p.0 p.1 found all_give h e

pub each_value : EachValueIsThere
unfolding is_taken
each_value words found taken e =
    let a = built leafd_app in
    let none : built_fault a nothing_held words ≡ [] = empty_is (built_fault a nothing_held words) taken in
    let all = walk a.top.rules (names_of a) nothing_held words in
    let walked = walk_fault a.top (names_of a) (walk_from nothing_held) words in
    let below = entered_fault a all.stopped in
    let last = check_fault a.top (finished a.top.rules all.held) (is_some (entered a all.stopped)) in
    let rest = or_else (settle_fault a.top.rules a.top.args_override_self all.held) (or_else (defaults_fault (settled a.top.rules all.held).rows a.top.rules) last) in
    at_stop all.stopped found (or_else-first below rest (or_else-next walked (or_else below rest) none)) e
