-- What is shown of the streams that stand, name by name.
use Rattle.std.proofs.Common.{◌≡◌, true, false, ℕ, ◌+◌, ◌<◌, List, [], ◌∷◌, ◌++◌, length, get_or, drop, map, All, refl, sym, ◌∙◌, ap, subst, arith, append_assoc, append-nil, add-one}
use Rattle.std.specs.declared.cmp.Ordering.{Ordering}
use Rattle.std.specs.declared.cmp.Ordering.TheVariants.{Less, Equal, Greater}
use Rattle.std.specs.Prelude.{zero, suc, Bool, Option, Some, None, if◌then◌else◌, slice_get}
use Rattle.std.specs.List.{AllByRecursion}
use Rattle.std.specs.List.Sorted.{IsStrictlySortedBy}
use Rattle.std.specs.Ordering.{nat_cmp, is_eq}
use Rattle.std.specs.Cmp.Lexicographic.{slice_cmp}
use Rattle.std.specs.Map.{keys_of}
use Rattle.std.specs.Global.{Vec}
use Rattle.std.specs.BTreeMap.{BTreeMap, IsOrdered, is_at}
use Rattle.std.proofs.Math.Seq.{drop-cons}
use Rattle.std.proofs.lemmas.List.Elements.{All-append, All-cons, All-nil}
use Rattle.std.proofs.lemmas.Map.Entries.{place_from_lookup}
use Rattle.std.proofs.lemmas.Map.Lookups.{exact_bytes}
use Rattle.nats_text.specs.declared.origin.Origin.{Origin}
use Rattle.stream_fold.specs.declared.entry.Numbered.{Numbered}
use Rattle.stream_fold.specs.Histories.{History, kept}
use Rattle.stream_fold.specs.Copying.{mark}
use Rattle.stream_fold.specs.declared.config.Config.{Config}
use Rattle.record_codec.specs.declared.records.Rec.{Rec}
use Rattle.shard_machine.specs.declared.facts.CopyFact.{CopyFact}
use Rattle.shard_machine.specs.declared.facts.Facts.{Facts}
use Rattle.log_replay.specs.declared.replay.Known.{Known}
use Rattle.log_replay.specs.declared.replay.Standing.{Standing}
use Rattle.log_replay.specs.declared.replay.Replay.{Replay}
use Rattle.shard_machine.specs.Logs.{Made, Named, named, live, by_incarnation}
use Rattle.shard_store.specs.Streams.{copy_fact, source_facts, facts_of, IsShown, name_of, AreStreams}
use Rattle.log_replay.specs.Replays.{found, StandsAs, StandsIf, Knows, IsReplayOf}
use Rattle.shard_store.specs.Reads.{AddsShown}

-- one fact more of the sources
pub facts_on : (h : History) (facts new all : List CopyFact) (fact : CopyFact) (origins : List Origin) (i : ℕ) (o : Origin) → i < length origins → o ≡ get_or origins i o → fact ≡ copy_fact (mark i h) o → new ≡ facts ++ fact ∷ [] → facts ++ source_facts h i (drop i origins) ≡ all → new ++ source_facts h (i + 1) (drop (i + 1) origins) ≡ all
facts_on h facts new all fact origins i o within is fact_is new_is before =
    let left = source_facts h (i + 1) (drop (i + 1) origins) in
    let here : drop i origins ≡ o ∷ drop (i + 1) origins = rw add-one (drop-cons origins i o within ∙ ap (λ (x : Origin). x ∷ drop (suc i) origins) (sym is)) in
    ap (λ (l : List CopyFact). l ++ left) new_is
    ∙ append_assoc facts (fact ∷ []) left
    ∙ ap (λ (x : CopyFact). facts ++ x ∷ left) fact_is
    ∙ sym (ap (λ (l : List Origin). facts ++ source_facts h i l) here)
    ∙ before

-- ---- the names of the streams that stand

-- with the name, where a stream stands
abbrev pub named_if : Option Standing → List ℕ → List (List ℕ) → List (List ℕ)
named_if None name names = names
named_if (Some standing) name names = name ∷ names

-- the names under which a stream stands
abbrev pub standing_names : List (Vec ℕ × Known) → List (List ℕ)
standing_names [] = []
standing_names (e ∷ es) = named_if e.1.stream e.0.items (standing_names es)

-- the keys as bytes
abbrev pub key_cmp : Vec ℕ → Vec ℕ → Ordering
key_cmp a b = slice_cmp nat_cmp a.items b.items

abbrev IsBelow : List ℕ → List ℕ → Type 0
IsBelow a b = slice_cmp nat_cmp a b ≡ Less

below_if : (low : List ℕ) (stream : Option Standing) (name : List ℕ) (names : List (List ℕ)) → IsBelow low name → AllByRecursion (IsBelow low) names → AllByRecursion (IsBelow low) (named_if stream name names)
below_if low None name names below all = all
below_if low (Some standing) name names below all = (below, all)

below_names : (low : List ℕ) (es : List (Vec ℕ × Known)) → AllByRecursion (λ key. IsBelow low key.items) (keys_of es) → AllByRecursion (IsBelow low) (standing_names es)
below_names low [] all = all
below_names low (e ∷ es) all = below_if low e.1.stream e.0.items (standing_names es) all.0 (below_names low es all.1)

sorted_if : (stream : Option Standing) (name : List ℕ) (names : List (List ℕ)) → AllByRecursion (IsBelow name) names → IsStrictlySortedBy (slice_cmp nat_cmp) names → IsStrictlySortedBy (slice_cmp nat_cmp) (named_if stream name names)
unfolding IsStrictlySortedBy
sorted_if None name names below sorted = sorted
sorted_if (Some standing) name names below sorted = (below, sorted)

sorted_names : (es : List (Vec ℕ × Known)) → IsStrictlySortedBy key_cmp (keys_of es) → IsStrictlySortedBy (slice_cmp nat_cmp) (standing_names es)
unfolding IsStrictlySortedBy
sorted_names [] sorted = sorted
sorted_names (e ∷ es) sorted = sorted_if e.1.stream e.0.items (standing_names es) (below_names e.0.items es sorted.0) (sorted_names es sorted.1)

place_if : (stream : Option Standing) (key name : List ℕ) (names : List (List ℕ)) (i : ℕ) → slice_get names i ≡ Some name → (j : ℕ) × (slice_get (named_if stream key names) j ≡ Some name)
place_if None key name names i here = (i, here)
place_if (Some standing) key name names i here = (suc i, here)

place_of_name : (es : List (Vec ℕ × Known)) (i : ℕ) (e : Vec ℕ × Known) (standing : Standing) → slice_get es i ≡ Some e → e.1.stream ≡ Some standing → (j : ℕ) × (slice_get (standing_names es) j ≡ Some e.0.items)
place_of_name [] i e standing here stands = absurd (cc)
place_of_name (d ∷ es) zero e standing here stands =
    let same : d ≡ e = cc in
    (0, ap (λ (x : Vec ℕ × Known). slice_get (named_if x.1.stream x.0.items (standing_names es)) 0) same ∙ ap (λ (s : Option Standing). slice_get (named_if s e.0.items (standing_names es)) 0) stands)
place_of_name (d ∷ es) (suc i) e standing here stands =
    let more = place_of_name es i e standing here stands in
    place_if d.1.stream d.0.items e.0.items (standing_names es) more.0 more.1

-- ---- what a log says of a name under which a stream stands

last_place : (ms : List Made) (m : Made) → slice_get (ms ++ m ∷ []) (length ms) ≡ Some m
last_place [] m = refl
last_place (n ∷ ms) m = last_place ms m

one_more : (ms : List Made) (m : Made) → length (ms ++ m ∷ []) ≡ suc (length ms)
one_more [] m = refl
one_more (n ∷ ms) m = ap (λ (k : ℕ). suc k) (one_more ms m)

latest_is : (ms earlier : List Made) (m : Made) → ms ≡ earlier ++ m ∷ [] → by_incarnation ms (length ms) ≡ Some m
latest_is ms earlier m are =
    ap (λ (l : List Made). by_incarnation l (length l)) are
    ∙ ap (by_incarnation (earlier ++ m ∷ [])) (one_more earlier m)
    ∙ last_place earlier m

live_is : (log : List Rec) (name : List ℕ) (standing : Standing) (s : StandsAs name standing (named log name)) → live log name ≡ Some s.latest
live_is log name standing s =
    let ms = (named log name).made in
    ap (λ (b : Bool). if b then by_incarnation ms (length ms) else None) s.here ∙ latest_is ms s.earlier s.latest s.are

shown_is : (log : List Rec) (name : List ℕ) (incarnation : ℕ) (standing : Standing) (shown : Facts × List Numbered) → incarnation ≡ length (named log name).made → (s : StandsAs name standing (named log name)) → shown ≡ (facts_of incarnation s.latest, kept s.latest.history) → (name_of shown ≡ name) × IsShown log (name_of shown) shown
shown_is log name incarnation standing shown number s is =
    let called : name_of shown ≡ name = ap name_of is ∙ sym (ap (λ (c : Config). c.name) s.state.limits) ∙ s.name_is in
    (called, subst (λ (k : List ℕ). IsShown log k shown) (sym called) (s.latest, live_is log name standing s, is ∙ ap (λ (i : ℕ). (facts_of i s.latest, kept s.latest.history)) number))

-- ---- the walk

-- the names of what is shown and those that are left are all, and each is shown as the log says
pub record SoFar (log : List Rec) (left all : List (List ℕ)) (shown : List (Facts × List Numbered)) : Type 0 where
  pub names : map name_of shown ++ left ≡ all
  pub each : All (λ s. IsShown log (name_of s) s) shown

names_on : (old : List (Facts × List Numbered)) (shown : Facts × List Numbered) (left : List (List ℕ)) → map name_of (old ++ shown ∷ []) ++ left ≡ map name_of old ++ name_of shown ∷ left
names_on [] shown left = refl
names_on (s ∷ old) shown left = ap (λ (l : List (List ℕ)). name_of s ∷ l) (names_on old shown left)

pub next_shown : (log : List Rec) (name : List ℕ) (incarnation : ℕ) (stream : Option Standing) (left all : List (List ℕ)) (old new : List (Facts × List Numbered)) → (incarnation ≡ length (named log name).made) × StandsIf name stream (named log name) → AddsShown incarnation stream old new → SoFar log (named_if stream name left) all old → SoFar log left all new
next_shown log name incarnation None left all old new knows lists before = subst (SoFar log left all) (sym lists) before
next_shown log name incarnation (Some standing) left all old new knows lists before =
    let s = knows.1 in
    let shown = lists.0 in
    let here = shown_is log name incarnation standing shown knows.0 s (lists.2 s.latest (record { created = s.created; state = s.state })) in
    let P = λ (x : Facts × List Numbered). IsShown log (name_of x) x in
    record {
      names = ap (λ (l : List (Facts × List Numbered)). map name_of l ++ left) lists.1 ∙ names_on old shown left ∙ ap (λ (k : List ℕ). map name_of old ++ k ∷ left) here.0 ∙ before.names;
      each = subst (All P) (sym lists.1) (All-append P old (shown ∷ []) before.each (All-cons P shown [] here.1 (All-nil P)));
    }

-- the entry is found under its key
abbrev pub IsFound : BTreeMap (Vec ℕ) Known → Vec ℕ × Known → Type 0
IsFound names e = found e.0.items names ≡ Some e.1

pub walk_begins : (log : List Rec) (iterator entries : List (Vec ℕ × Known)) (shown : List (Facts × List Numbered)) → shown ≡ [] → iterator ≡ entries → SoFar log (standing_names iterator) (standing_names entries) shown
walk_begins log iterator entries shown none is =
    let P = λ (x : Facts × List Numbered). IsShown log (name_of x) x in
    record {
      names = ap (λ (l : List (Facts × List Numbered)). map name_of l ++ standing_names iterator) none ∙ ap standing_names is;
      each = subst (All P) (sym none) (All-nil P);
    }

pub walk_goes_on : (log : List Rec) (replay : Replay) (iterator rest : List (Vec ℕ × Known)) (e : Vec ℕ × Known) (all : List (List ℕ)) (old new : List (Facts × List Numbered)) → iterator ≡ e ∷ rest → All (IsFound replay.names) iterator → IsReplayOf replay log → AddsShown e.1.incarnation e.1.stream old new → SoFar log (standing_names iterator) all old → SoFar log (standing_names rest) all new
walk_goes_on log replay iterator rest e all old new is left held lists before =
    let name = e.0.items in
    let here : IsFound replay.names e = subst (All (IsFound replay.names)) is left 0 e (omega arith) in
    let knows = subst (λ (o : Option Known). Knows name o (named log name)) here (held.knows name) in
    next_shown log name e.1.incarnation e.1.stream (standing_names rest) all old new knows lists (subst (λ (es : List (Vec ℕ × Known)). SoFar log (standing_names es) all old) is before)

stands_of : (b : Bool) (o : Option Made) (m : Made) → (if b then o else None) ≡ Some m → b ≡ true
stands_of true o m is = refl
stands_of false o m is = absurd (cc)

stream_of : (name : List ℕ) (stream : Option Standing) (n : Named) → StandsIf name stream n → n.stands ≡ true → (standing : Standing) × (stream ≡ Some standing)
stream_of name None n gone stands = absurd (cc)
stream_of name (Some standing) n told stands = (standing, refl)

known_of : (name : List ℕ) (o : Option Known) (n : Named) → Knows name o n → n.stands ≡ true → (known : Known) × (standing : Standing) × (o ≡ Some known) × (known.stream ≡ Some standing)
known_of name None n knows stands = absurd (cc)
known_of name (Some known) n knows stands = let s = stream_of name known.stream n knows.1 stands in (known, s.0, refl, s.1)

equal_of : (r : Ordering) → is_eq r ≡ true → r ≡ Equal
equal_of Less is = absurd (cc)
equal_of Equal is = refl
equal_of Greater is = absurd (cc)

name_place : (log : List Rec) (replay : Replay) → IsReplayOf replay log → (name : List ℕ) (m : Made) → live log name ≡ Some m → (i : ℕ) × (slice_get (standing_names replay.names.entries) i ≡ Some name)
name_place log replay held name m is =
    let n = named log name in
    let known = known_of name (found name replay.names) n (held.knows name) (stands_of n.stands (by_incarnation n.made (length n.made)) m is) in
    let place = place_from_lookup (is_at (λ (key : Vec ℕ). slice_cmp nat_cmp name key.items)) replay.names.entries known.0 known.2 in
    let same : name ≡ place.1.items = exact_bytes name place.1.items (equal_of (slice_cmp nat_cmp name place.1.items) place.3) in
    subst (λ (k : List ℕ). (i : ℕ) × (slice_get (standing_names replay.names.entries) i ≡ Some k)) (sym same) (place_of_name replay.names.entries place.0 (place.1, known.0) known.1 place.2 known.3)

pub are_streams : (log : List Rec) (replay : Replay) (shown : List (Facts × List Numbered)) → IsReplayOf replay log → IsOrdered key_cmp replay.names → SoFar log [] (standing_names replay.names.entries) shown → AreStreams log shown
are_streams log replay shown held ordered all =
    let names : map name_of shown ≡ standing_names replay.names.entries = sym (append-nil (map name_of shown)) ∙ all.names in
    record {
      order = subst (IsStrictlySortedBy (slice_cmp nat_cmp)) (sym names) (sorted_names replay.names.entries ordered);
      each = all.each;
      whole = λ name m is. subst (λ (l : List (List ℕ)). (i : ℕ) × (slice_get l i ≡ Some name)) (sym names) (name_place log replay held name m is);
    }
