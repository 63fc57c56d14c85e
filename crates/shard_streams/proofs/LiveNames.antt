-- The names of the streams that are held are those of the image, in order.
use Rattle.std.proofs.Common.{◌≡◌, ℕ, ◌+◌, Bool, true, false, cond, T, ◌||◌, ◌&&◌, List, [], ◌∷◌, map, length, All, IfOk, Option, Some, None, is_some, Result, Ok, Err, refl, sym, ap, ◌∙◌, subst, arith}
use Rattle.std.specs.Prelude.{count_by}
use Rattle.std.proofs.lemmas.List.Sums.{sum_by-cons}
use Rattle.std.proofs.lemmas.List.Elements.{recursion_from_All}
use Rattle.std.specs.declared.cmp.Ordering.{Ordering}
use Rattle.std.specs.declared.cmp.Ordering.TheVariants.{Less, Equal, Greater}
use Rattle.std.specs.BTreeMap.{IsOrdered}
use Rattle.std.specs.Cmp.Lexicographic.{slice_cmp, nat_list_cmp_total}
use Rattle.std.specs.FinMap.{get, retain_keys, contains_key-keys, get-retain_keys, slice_cmp-IsAntisymmetric, nat_cmp-IsAntisymmetric}
use Rattle.std.specs.FinMap.Entries.{find, is_sorted, below_all, same_entries}
use Rattle.std.specs.Global.{Vec}
use Rattle.std.specs.List.{list_any, AllByRecursion}
use Rattle.std.specs.List.Sorted.{IsStrictlySortedBy}
use Rattle.std.specs.Map.{keys_of}
use Rattle.std.specs.Ordering.{nat_cmp, is_eq, is_lt, eq_by_cmp}
use Rattle.log_replay.specs.declared.replay.Known.{Known}
use Rattle.log_replay.specs.declared.replay.Replay.{Replay}
use Rattle.log_replay.specs.declared.replay.Standing.{Standing}
use Rattle.log_replay.specs.Replays.{found}
use Rattle.shard_machine.specs.ImageLaws.{NamesRise}
use Rattle.shard_machine.specs.Images.{LogImage, NameFacts, Names, if_stands, live_in, live_names}
use Rattle.shard_streams.specs.HeldImages.{HoldsImage, HoldsName, HoldsStream}
use Rattle.shard_streams.specs.Plans.{name_before, names_in}

-- ---- names in order

abbrev pub name_cmp : List ℕ → List ℕ → Ordering
name_cmp a b = slice_cmp nat_cmp a b

name-tied : (a b : List ℕ) → name_cmp a b ≡ Equal → a ≡ b
name-tied a b e = slice_cmp-IsAntisymmetric nat_cmp-IsAntisymmetric a b e

abbrev marked : List (List ℕ) → List (List ℕ × Bool)
marked [] = []
marked (k ∷ ks) = (k, true) ∷ marked ks

keys-marked : (ks : List (List ℕ)) → map (λ (e : List ℕ × Bool). e.0) (marked ks) ≡ ks
keys-marked [] = refl
keys-marked (k ∷ ks) = ap (λ (r : List (List ℕ)). k ∷ r) (keys-marked ks)

both : (a b : Bool) → T a → T b → T (a && b)
both true b p q = q
both false b p q = absurd p

below-marked : (k : List ℕ) (ks : List (List ℕ)) → AllByRecursion (λ y. name_cmp k y ≡ Less) ks → T (below_all name_cmp k (marked ks))
below-marked k [] h = tt
below-marked k (x ∷ ks) h = both (is_lt (name_cmp k x)) (below_all name_cmp k (marked ks)) (subst (λ (o : Ordering). T (is_lt o)) (sym h.0) tt) (below-marked k ks h.1)

sorted-marked : (ks : List (List ℕ)) → IsStrictlySortedBy name_cmp ks → T (is_sorted name_cmp (marked ks))
unfolding IsStrictlySortedBy
sorted-marked [] h = tt
sorted-marked (k ∷ ks) h = both (below_all name_cmp k (marked ks)) (is_sorted name_cmp (marked ks)) (below-marked k ks h.0) (sorted-marked ks h.1)

find-marked : (q : List ℕ) (ks : List (List ℕ)) → find name_cmp q (marked ks) ≡ cond (list_any (eq_by_cmp name_cmp q) ks) (Some true) None
find-marked q [] = refl
find-marked q (k ∷ ks) = by (eq_by_cmp name_cmp q k) (find-marked q ks)
  where
    by : (b : Bool) → find name_cmp q (marked ks) ≡ cond (list_any (eq_by_cmp name_cmp q) ks) (Some true) None
        → cond b (Some true) (find name_cmp q (marked ks)) ≡ cond (b || list_any (eq_by_cmp name_cmp q) ks) (Some true) None
    by true e = refl
    by false e = e

-- names in strict order are the same where each name is among both or among neither
pub same-names : (ks js : List (List ℕ)) → IsStrictlySortedBy name_cmp ks → IsStrictlySortedBy name_cmp js
    → ((q : List ℕ) → list_any (eq_by_cmp name_cmp q) ks ≡ list_any (eq_by_cmp name_cmp q) js) → ks ≡ js
same-names ks js a b same =
    let e : marked ks ≡ marked js = same_entries name_cmp nat_list_cmp_total name-tied (marked ks) (marked js) (sorted-marked ks a) (sorted-marked js b)
    (λ q. find-marked q ks ∙ (ap (λ (t : Bool). cond t (Some true) None) (same q) ∙ sym (find-marked q js))) in
    sym (keys-marked ks) ∙ (ap (map (λ (p : List ℕ × Bool). p.0)) e ∙ keys-marked js)

-- ---- the names of those that stand

-- the names under which a stream is held
abbrev pub standing_in : List (Vec ℕ × Known) → List (List ℕ)
standing_in [] = []
standing_in (e ∷ es) = cond (is_some e.1.stream) (e.0.items ∷ standing_in es) (standing_in es)

-- a stream is held
abbrev pub has_stream : Option Known → Bool
has_stream None = false
has_stream (Some known) = is_some known.stream

-- what is held under a name, in a list
abbrev pub found_in : List ℕ → List (Vec ℕ × Known) → Option Known
found_in q [] = None
found_in q (e ∷ es) = cond (is_eq (name_cmp q e.0.items)) (Some e.1) (found_in q es)

abbrev pub key_cmp : Vec ℕ → Vec ℕ → Ordering
key_cmp a b = slice_cmp nat_cmp a.items b.items

below-standing : (k : Vec ℕ) (es : List (Vec ℕ × Known)) → AllByRecursion (λ y. key_cmp k y ≡ Less) (keys_of es) → AllByRecursion (λ y. name_cmp k.items y ≡ Less) (standing_in es)
below-standing k [] h = tt
below-standing k (e ∷ es) h = by (is_some e.1.stream) h.0 (below-standing k es h.1)
  where
    by : (b : Bool) → key_cmp k e.0 ≡ Less → AllByRecursion (λ y. name_cmp k.items y ≡ Less) (standing_in es) → AllByRecursion (λ y. name_cmp k.items y ≡ Less) (cond b (e.0.items ∷ standing_in es) (standing_in es))
    by true p rest = (p, rest)
    by false p rest = rest

-- they stand in order
pub sorted-standing : (es : List (Vec ℕ × Known)) → IsStrictlySortedBy key_cmp (keys_of es) → IsStrictlySortedBy name_cmp (standing_in es)
unfolding IsStrictlySortedBy
sorted-standing [] h = tt
sorted-standing (e ∷ es) h = by (is_some e.1.stream) (below-standing e.0 es h.0) (sorted-standing es h.1)
  where
    by : (b : Bool) → AllByRecursion (λ y. name_cmp e.0.items y ≡ Less) (standing_in es) → IsStrictlySortedBy name_cmp (standing_in es) → IsStrictlySortedBy name_cmp (cond b (e.0.items ∷ standing_in es) (standing_in es))
    by true p rest = (p, rest)
    by false p rest = rest

none-tied : (q : List ℕ) (ks : List (List ℕ)) → AllByRecursion (λ y. name_cmp q y ≡ Less) ks → list_any (eq_by_cmp name_cmp q) ks ≡ false
none-tied q [] h = refl
none-tied q (k ∷ ks) h = ap (λ (o : Ordering). is_eq o || list_any (eq_by_cmp name_cmp q) ks) h.0 ∙ none-tied q ks h.1

equal : (o : Ordering) → is_eq o ≡ true → o ≡ Equal
equal Less e = absurd (let z : false ≡ true = e in cc)
equal Equal e = refl
equal Greater e = absurd (let z : false ≡ true = e in cc)

-- a name is among them exactly where a stream is held under it
pub any-standing : (q : List ℕ) (es : List (Vec ℕ × Known)) → IsStrictlySortedBy key_cmp (keys_of es) → list_any (eq_by_cmp name_cmp q) (standing_in es) ≡ has_stream (found_in q es)
unfolding IsStrictlySortedBy
any-standing q [] h = refl
any-standing q (e ∷ es) h = by (is_eq (name_cmp q e.0.items)) refl (is_some e.1.stream) refl (any-standing q es h.1)
  where
    none : is_eq (name_cmp q e.0.items) ≡ true → list_any (eq_by_cmp name_cmp q) (standing_in es) ≡ false
    none p = subst (λ (n : List ℕ). list_any (eq_by_cmp name_cmp n) (standing_in es) ≡ false) (sym (name-tied q e.0.items (equal (name_cmp q e.0.items) p))) (none-tied e.0.items (standing_in es) (below-standing e.0 es h.0))

    by : (b : Bool) → is_eq (name_cmp q e.0.items) ≡ b → (s : Bool) → is_some e.1.stream ≡ s → list_any (eq_by_cmp name_cmp q) (standing_in es) ≡ has_stream (found_in q es)
        → list_any (eq_by_cmp name_cmp q) (cond s (e.0.items ∷ standing_in es) (standing_in es)) ≡ has_stream (cond b (Some e.1) (found_in q es))
    by true p true s rest = ap (λ (t : Bool). t || list_any (eq_by_cmp name_cmp q) (standing_in es)) p ∙ sym s
    by true p false s rest = none p ∙ sym s
    by false p true s rest = ap (λ (t : Bool). t || list_any (eq_by_cmp name_cmp q) (standing_in es)) p ∙ rest
    by false p false s rest = rest

-- a stream is held under a name exactly where one stands
holds-some : (name : List ℕ) (o : Option Known) (known : Option NameFacts) → HoldsName name o known → has_stream o ≡ is_some (if_stands known)
holds-some name None None h = refl
holds-some name None (Some known) h = absurd h
holds-some name (Some held) None h = ap (λ (s : Option Standing). is_some s) h.1
holds-some name (Some held) (Some known) h = by held.stream h.1
  where
    by : (o : Option Standing) → HoldsStream name o known → is_some o ≡ is_some (if_stands (Some known))
    by None s = sym (ap (λ (b : Bool). is_some (cond b (Some known) None)) s)
    by (Some standing) s = sym (ap (λ (b : Bool). is_some (cond b (Some known) None)) s.here)

kept-is : (o : Option NameFacts) → is_some (cond (is_some (if_stands o)) o None) ≡ is_some (if_stands o)
kept-is None = refl
kept-is (Some n) = by n.stands
  where
    by : (b : Bool) → is_some (cond (is_some (cond b (Some n) None)) (Some n) None) ≡ is_some (cond b (Some n) None)
    by true = refl
    by false = refl

-- a name is among those of an image exactly where a stream stands under it
any-live : (i : LogImage) (q : List ℕ) → list_any (eq_by_cmp name_cmp q) (live_names i) ≡ is_some (live_in i q)
any-live i q =
    let standing : Names = retain_keys i.names (λ name. is_some (live_in i name)) in
    sym (contains_key-keys standing q)
    ∙ (ap is_some (get-retain_keys i.names (λ name. is_some (live_in i name)) q (λ n tied. ap (λ (x : List ℕ). is_some (live_in i x)) (sym (name-tied q n tied))))
    ∙ kept-is (get i.names q))

-- the names under which a stream is held are those of the image
pub live-standing : NamesRise → (replay : Replay) (i : LogImage) → HoldsImage replay i → IsOrdered key_cmp replay.names → live_names i ≡ standing_in replay.names.entries
live-standing rise replay i holds ordered = same-names (live_names i) (standing_in replay.names.entries) (rise i).1 (sorted-standing replay.names.entries ordered)
    (λ q. any-live i q ∙ (sym (holds-some q (found q replay.names) (get i.names q) (holds.holds q)) ∙ sym (any-standing q replay.names.entries ordered)))

-- ---- how many they are

count-more : (b : Bool) (ks : List (List ℕ)) (k : List ℕ) (n : ℕ) → length ks ≡ n → length (cond b (k ∷ ks) ks) ≡ cond b 1 0 + n
count-more true ks k n h = omega arith
count-more false ks k n h = omega arith

pub count-standing : (es : List (Vec ℕ × Known)) → length (standing_in es) ≡ count_by (λ (e : Vec ℕ × Known). is_some e.1.stream) es
count-standing [] = refl
count-standing (e ∷ es) =
    count-more (is_some e.1.stream) (standing_in es) e.0.items (count_by (λ (x : Vec ℕ × Known). is_some x.1.stream) es) (count-standing es)
    ∙ sym (sum_by-cons (λ (x : Vec ℕ × Known). cond (is_some x.1.stream) 1 0) e es)

-- ---- the names that are shown

-- each is held under its own name
abbrev pub AreNamed : List (Vec ℕ × Known) → Type 0
AreNamed es = AllByRecursion (λ (e : Vec ℕ × Known). (s : Standing) → e.1.stream ≡ Some s → s.state.held.limits.name ≡ e.0.items) es

pub names-standing : (es : List (Vec ℕ × Known)) → AreNamed es → names_in es ≡ standing_in es
names-standing [] h = refl
names-standing (e ∷ es) h = by e.1.stream h.0 (names-standing es h.1)
  where
    by : (o : Option Standing) → ((s : Standing) → o ≡ Some s → s.state.held.limits.name ≡ e.0.items) → names_in es ≡ standing_in es
        → name_before o (names_in es) ≡ cond (is_some o) (e.0.items ∷ standing_in es) (standing_in es)
    by None own rest = rest
    by (Some s) own rest = λ i. own s refl i ∷ rest i

holds-name : (name : List ℕ) (held : Known) (known : Option NameFacts) → HoldsName name (Some held) known → (s : Standing) → held.stream ≡ Some s → s.state.held.limits.name ≡ name
holds-name name held None h s e = absurd (let z : None ≡ Some s = sym h.1 ∙ e in cc)
holds-name name held (Some known) h s e = (subst (λ (o : Option Standing). HoldsStream name o known) e h.1).name_is

all-named : (replay : Replay) (i : LogImage) → HoldsImage replay i → (es : List (Vec ℕ × Known)) → AllByRecursion (λ (e : Vec ℕ × Known). found e.0.items replay.names ≡ Some e.1) es → AreNamed es
all-named replay i holds [] h = tt
all-named replay i holds (e ∷ es) h =
    (holds-name e.0.items e.1 (get i.names e.0.items) (subst (λ (o : Option Known). HoldsName e.0.items o (get i.names e.0.items)) h.0 (holds.holds e.0.items)), all-named replay i holds es h.1)

-- the names of the streams that are held are those of the image
pub live-names-in : NamesRise → (replay : Replay) (i : LogImage) → HoldsImage replay i → IsOrdered key_cmp replay.names
    → All (λ (e : Vec ℕ × Known). found e.0.items replay.names ≡ Some e.1) replay.names.entries → names_in replay.names.entries ≡ live_names i
live-names-in rise replay i holds ordered each =
    names-standing replay.names.entries (all-named replay i holds replay.names.entries (recursion_from_All (λ (e : Vec ℕ × Known). found e.0.items replay.names ≡ Some e.1) replay.names.entries each))
    ∙ sym (live-standing rise replay i holds ordered)

pub live-count : NamesRise → (replay : Replay) (i : LogImage) → HoldsImage replay i → IsOrdered key_cmp replay.names
    → count_by (λ (e : Vec ℕ × Known). is_some e.1.stream) replay.names.entries ≡ length (live_names i)
live-count rise replay i holds ordered = sym (count-standing replay.names.entries) ∙ sym (ap length (live-standing rise replay i holds ordered))

-- the names that were shown are those of the image, unless memory ran out
pub live-names-shown : {E : Type 0} (replay : Replay) (i : LogImage) (result : Result (List (List ℕ)) E)
    → (IsOrdered key_cmp replay.names → All (λ (e : Vec ℕ × Known). found e.0.items replay.names ≡ Some e.1) replay.names.entries → names_in replay.names.entries ≡ live_names i)
    → IfOk result (λ names. names ≡ names_in replay.names.entries) → IfOk result (λ names. IsOrdered key_cmp replay.names)
    → IfOk result (λ names. All (λ (e : Vec ℕ × Known). found e.0.items replay.names ≡ Some e.1) replay.names.entries)
    → IfOk result (λ names. names ≡ live_names i)
live-names-shown replay i (Ok names) live is ordered each = is ∙ live ordered each
live-names-shown replay i (Err fault) live is ordered each = tt
