-- The image of a log says what the log says.
use Rattle.std.proofs.Common.{◌≡◌, ℕ, suc, Bool, true, false, cond, T, ◌&&◌, List, [], ◌∷◌, ◌++◌, map, length, Option, Some, None, is_some, refl, sym, ap, ◌∙◌, subst}
use Rattle.std.specs.Prelude.{option_map}
use Rattle.std.specs.declared.cmp.Ordering.{Ordering}
use Rattle.std.specs.declared.cmp.Ordering.TheVariants.{Less, Equal, Greater}
use Rattle.std.specs.FinMap.{get, entries, keys, retain_keys, get-empty, get-retain_keys, contains_key-keys, entries_sorted}
use Rattle.std.specs.FinMap as maps
use Rattle.std.specs.FinMap.Entries.{below_all, is_sorted}
use Rattle.std.specs.List.{list_any, AllByRecursion}
use Rattle.std.specs.List.Sorted.{IsStrictlySortedBy}
use Rattle.std.specs.Ordering.{nat_cmp, is_lt, eq_by_cmp}
use Rattle.std.specs.Cmp.Lexicographic.{slice_cmp, bytes_decides}
use Rattle.std.specs.Str.{bytes_eq}
use Rattle.std.proofs.lemmas.Map.Text.{is_eq-slice_cmp}
use Rattle.stream_fold.specs.declared.config.Config.{Config}
use Rattle.stream_fold.specs.declared.entry.Entry.{Entry}
use Rattle.stream_fold.specs.Facts.{StreamFacts, facts_after, facts}
use Rattle.stream_fold.proofs.FactLemmas.{at_text, facts-push}
use Rattle.record_codec.specs.declared.records.Rec.{Rec}
use Rattle.record_codec.specs.declared.records.Rec.TheVariants.{Boot, Create, Remove, Of}
use Rattle.shard_machine.specs.Logs.{Made, Named, unnamed, boot_after, with_change, to_last, recorded, named_after, named, incarnation, by_incarnation, live}
use Rattle.shard_machine.specs.Images.{NameFacts, Names, LogImage, no_image, count_of, just_made, removed, entered, changed, names_after, next, image_after, image, if_stands, live_in, live_names, known_of}
use Rattle.shard_machine.specs.ImageLaws.{TellsOf}
use Rattle.shard_machine.proofs.LogSteps.{to_last-snoc, length-snoc, latest-snoc}

-- ---- one record more

pub image_after-append : (i : LogImage) (log more : List Rec) → image_after i (log ++ more) ≡ image_after (image_after i log) more
image_after-append i [] more = refl
image_after-append i (r ∷ log) more = image_after-append (next i r) log more

-- the image after a record is a function of the image before it
pub image-push : (log : List Rec) (r : Rec) → image (log ++ r ∷ []) ≡ next (image log) r
image-push log r = image_after-append no_image log (r ∷ [])

boot-from : (i : LogImage) (log : List Rec) → (image_after i log).boot ≡ boot_after i.boot log
unfolding boot_after
boot-from i [] = refl
boot-from i (Boot number ∷ log) = boot-from (next i (Boot number)) log
boot-from i (Create time config ∷ log) = boot-from (next i (Create time config)) log
boot-from i (Remove name ∷ log) = boot-from (next i (Remove name)) log
boot-from i (Of name entry ∷ log) = boot-from (next i (Of name entry)) log

-- ---- what is known of a name

-- what is known of a name after a change of what is known of another one
changed-here : (other name : List ℕ) (f : NameFacts → NameFacts) (names : Names) (b : Bool) (o : Option NameFacts) → bytes_eq other name ≡ b → get names other ≡ o
    → get (changed other f o names) name ≡ cond b (option_map f (get names name)) (get names name)
changed-here other name f names true None q e = let none : get names name ≡ None = ap (get names) (sym ((bytes_decides other name).0 q)) ∙ e in none ∙ sym (ap (option_map f) none)
changed-here other name f names false None q e = refl
changed-here other name f names true (Some n) q e =
    let some : get names name ≡ Some n = ap (get names) (sym ((bytes_decides other name).0 q)) ∙ e in
    at_text names other (f n) name ∙ (ap (λ b. cond b (Some (f n)) (get names name)) q ∙ sym (ap (option_map f) some))
changed-here other name f names false (Some n) q e = at_text names other (f n) name ∙ ap (λ b. cond b (Some (f n)) (get names name)) q

get-changed : (other name : List ℕ) (f : NameFacts → NameFacts) (names : Names) → get (changed other f (get names other) names) name ≡ cond (bytes_eq other name) (option_map f (get names name)) (get names name)
get-changed other name f names = changed-here other name f names (bytes_eq other name) (get names other) refl refl

-- what is known of a name is what the log says of it
pub record Says (n : Named) (f : NameFacts) : Type 0 where
  pub earlier : List Made
  pub latest : Made
  pub are : n.made ≡ earlier ++ latest ∷ []
  pub incarnation : f.incarnation ≡ length n.made
  pub stands : f.stands ≡ n.stands
  pub created : f.created ≡ latest.created
  pub stream : n.stands ≡ true → f.stream ≡ facts latest.history

abbrev pub NameSays : Named → Option NameFacts → Type 0
NameSays n None = (n.made ≡ []) × (n.stands ≡ false)
NameSays n (Some f) = Says n f

counts : (n : Named) (o : Option NameFacts) → NameSays n o → count_of o ≡ length n.made
counts n None h = sym (ap length h.0)
counts n (Some f) h = h.incarnation

says-create : (n : Named) (o : Option NameFacts) (t : ℕ) (c : Config) (earlier : ℕ) (b : Bool) → (b ≡ true → earlier ≡ length n.made) → NameSays n o
    → NameSays (cond b (record { made = n.made ++ (record { created = t; history = record { config = c; entries = [] } }) ∷ []; stands = true }) n) (cond b (Some (just_made t c earlier)) o)
says-create n o t c earlier true e h = record {
  earlier = n.made;
  latest = record { created = t; history = record { config = c; entries = [] } };
  are = refl;
  incarnation = ap suc (e refl) ∙ sym (length-snoc n.made (record { created = t; history = record { config = c; entries = [] } }));
  stands = refl;
  created = refl;
  stream = λ s. refl;
}
says-create n o t c earlier false e h = h

says-remove : (n : Named) (o : Option NameFacts) (b : Bool) → NameSays n o → NameSays (cond b (record { made = n.made; stands = false }) n) (cond b (option_map removed o) o)
says-remove n None true h = (h.0, refl)
says-remove n (Some f) true h = record {
  earlier = h.earlier;
  latest = h.latest;
  are = h.are;
  incarnation = h.incarnation;
  stands = refl;
  created = h.created;
  stream = λ s. absurd (let z : false ≡ true = s in cc);
}
says-remove n o false h = h

length-to_last : (e : Entry) (ms : List Made) → length (to_last e ms) ≡ length ms
length-to_last e [] = refl
length-to_last e (m ∷ []) = refl
length-to_last e (m ∷ k ∷ ms) = ap suc (length-to_last e (k ∷ ms))

entered-says : (n : Named) (f : NameFacts) (e : Entry) (b : Bool) → f.stands ≡ b → Says n f → Says (record { made = to_last e n.made; stands = n.stands }) (cond b (record { created = f.created; incarnation = f.incarnation; stands = f.stands; stream = facts_after f.stream e }) f)
entered-says n f e true q h = record {
  earlier = h.earlier;
  latest = with_change e h.latest;
  are = ap (to_last e) h.are ∙ to_last-snoc e h.earlier h.latest;
  incarnation = h.incarnation ∙ sym (length-to_last e n.made);
  stands = h.stands;
  created = h.created;
  stream = λ s. ap (λ (x : StreamFacts). facts_after x e) (h.stream s) ∙ sym (facts-push h.latest.history e);
}
entered-says n f e false q h = record {
  earlier = h.earlier;
  latest = with_change e h.latest;
  are = ap (to_last e) h.are ∙ to_last-snoc e h.earlier h.latest;
  incarnation = h.incarnation ∙ sym (length-to_last e n.made);
  stands = h.stands;
  created = h.created;
  stream = λ s. absurd (let z : false ≡ true = sym q ∙ (h.stands ∙ s) in cc);
}

says-entry : (n : Named) (o : Option NameFacts) (e : Entry) (b : Bool) → NameSays n o → NameSays (cond b (record { made = to_last e n.made; stands = n.stands }) n) (cond b (option_map (entered e) o) o)
says-entry n None e true h = (ap (to_last e) h.0, h.1)
says-entry n (Some f) e true h = entered-says n f e f.stands refl h
says-entry n o e false h = h

says-next : (name : List ℕ) (n : Named) (names : Names) (r : Rec) → NameSays n (get names name) → NameSays (recorded name n r) (get (names_after names r) name)
says-next name n names (Boot number) h = h
says-next name n names (Create t c) h =
    let earlier : ℕ = count_of (get names c.name) in
    subst (NameSays (recorded name n (Create t c))) (sym (at_text names c.name (just_made t c earlier) name))
    (says-create n (get names name) t c earlier (bytes_eq c.name name)
    (λ q. ap (λ m. count_of (get names m)) ((bytes_decides c.name name).0 q) ∙ counts n (get names name) h) h)
says-next name n names (Remove other) h =
    subst (NameSays (recorded name n (Remove other))) (sym (get-changed other name removed names)) (says-remove n (get names name) (bytes_eq other name) h)
says-next name n names (Of other e) h =
    subst (NameSays (recorded name n (Of other e))) (sym (get-changed other name (entered e) names)) (says-entry n (get names name) e (bytes_eq other name) h)

says-after : (name : List ℕ) (n : Named) (i : LogImage) (log : List Rec) → NameSays n (get i.names name) → NameSays (named_after name n log) (get (image_after i log).names name)
unfolding named_after
says-after name n i [] h = h
says-after name n i (r ∷ log) h = says-after name (recorded name n r) (next i r) log (says-next name n i.names r h)

pub name-says : (log : List Rec) (name : List ℕ) → NameSays (named log name) (get (image log).names name)
name-says log name = says-after name unnamed no_image log (subst (NameSays unnamed) (sym (get-empty (slice_cmp nat_cmp) name)) (refl, refl))

-- ---- what is asked

latest-made : (n : Named) (f : NameFacts) (s : Says n f) → by_incarnation n.made (length n.made) ≡ Some s.latest
latest-made n f s = ap (λ ms. by_incarnation ms (length ms)) s.are ∙ latest-snoc s.earlier s.latest

known-is : (n : Named) (f : NameFacts) (s : Says n f) → n.stands ≡ true → f ≡ known_of (length n.made) s.latest
known-is n f s here = λ i. record { created = s.created i; incarnation = s.incarnation i; stands = (s.stands ∙ here) i; stream = s.stream here i }

live-by : (n : Named) (f : NameFacts) (s : Says n f) (b : Bool) → n.stands ≡ b → cond f.stands (Some f) None ≡ option_map (known_of (length n.made)) (cond b (by_incarnation n.made (length n.made)) None)
live-by n f s true q = ap (λ b. cond b (Some f) None) (s.stands ∙ q) ∙ (ap Some (known-is n f s q) ∙ ap (option_map (known_of (length n.made))) (sym (latest-made n f s)))
live-by n f s false q = ap (λ b. cond b (Some f) None) (s.stands ∙ q)

live-is : (n : Named) (o : Option NameFacts) → NameSays n o → if_stands o ≡ option_map (known_of (length n.made)) (cond n.stands (by_incarnation n.made (length n.made)) None)
live-is n None h = sym (ap (λ b. option_map (known_of (length n.made)) (cond b (by_incarnation n.made (length n.made)) None)) h.1)
live-is n (Some f) h = live-by n f h n.stands refl

created-is : (n : Named) (o : Option NameFacts) → NameSays n o → option_map (λ (f : NameFacts). f.created) o ≡ option_map (λ (m : Made). m.created) (by_incarnation n.made (length n.made))
created-is n None h = sym (ap (λ (ms : List Made). option_map (λ (m : Made). m.created) (by_incarnation ms (length ms))) h.0)
created-is n (Some f) h = ap Some h.created ∙ ap (option_map (λ (m : Made). m.created)) (sym (latest-made n f h))

pub images-tell : (log : List Rec) → TellsOf log (image log)
images-tell log = record {
  boot = boot-from no_image log;
  live = λ name. live-is (named log name) (get (image log).names name) (name-says log name);
  created = λ name. created-is (named log name) (get (image log).names name) (name-says log name);
  incarnation = λ name. counts (named log name) (get (image log).names name) (name-says log name);
}

-- ---- names in order

both : (a b : Bool) → T (a && b) → T a × T b
both true b h = (tt, h)
both false b h = absurd h

less : (o : Ordering) → T (is_lt o) → o ≡ Less
less Less h = refl
less Equal h = absurd h
less Greater h = absurd h

module _ {K X : Type 0} (R : K → K → Ordering) where
  all_below : (k : K) (es : List (K × X)) → T (below_all R k es) → AllByRecursion (λ y. R k y ≡ Less) (map (λ e. e.0) es)
  all_below k [] h = tt
  all_below k (e ∷ es) h = let p = both _ _ h in (less (R k e.0) p.0, all_below k es p.1)

  sorted : (es : List (K × X)) → T (is_sorted R es) → IsStrictlySortedBy R (map (λ e. e.0) es)
  unfolding IsStrictlySortedBy
  sorted [] h = tt
  sorted (e ∷ es) h = let p = both _ _ h in (all_below e.0 es p.0, sorted es p.1)

pub names-rise : (i : LogImage) → IsStrictlySortedBy (slice_cmp nat_cmp) (keys i.names) × IsStrictlySortedBy (slice_cmp nat_cmp) (live_names i)
names-rise i = (
  sorted (slice_cmp nat_cmp) (entries i.names) (entries_sorted i.names),
  (let standing : Names = retain_keys i.names (λ name. is_some (live_in i name)) in sorted (slice_cmp nat_cmp) (entries standing) (entries_sorted standing)),
)

-- a name stands where its own facts say so
kept-is : (o : Option NameFacts) → is_some (cond (is_some (if_stands o)) o None) ≡ is_some (if_stands o)
kept-is None = refl
kept-is (Some n) = by n.stands
  where
    by : (b : Bool) → is_some (cond (is_some (cond b (Some n) None)) (Some n) None) ≡ is_some (cond b (Some n) None)
    by true = refl
    by false = refl

same_tests : (name : List ℕ) (names : List (List ℕ)) → list_any (bytes_eq name) names ≡ list_any (eq_by_cmp (slice_cmp nat_cmp) name) names
same_tests name [] = refl
same_tests name (n ∷ ns) = rw (is_eq-slice_cmp name n, same_tests name ns) refl

some_map : {A B : Type 0} (f : A → B) (o : Option A) → is_some (option_map f o) ≡ is_some o
some_map f (Some x) = refl
some_map f None = refl

pub names-stand : (log : List Rec) (name : List ℕ) → list_any (bytes_eq name) (live_names (image log)) ≡ is_some (live log name)
names-stand log name =
    let i : LogImage = image log in
    let standing : Names = retain_keys i.names (λ n. is_some (live_in i n)) in
    same_tests name (keys standing)
    ∙ (sym (contains_key-keys standing name)
    ∙ (ap is_some (get-retain_keys i.names (λ n. is_some (live_in i n)) name
    (λ n tied. ap (λ x. is_some (live_in i x)) (sym (maps.slice_cmp-IsAntisymmetric maps.nat_cmp-IsAntisymmetric name n tied))))
    ∙ (kept-is (get i.names name)
    ∙ (ap is_some ((images-tell log).live name) ∙ some_map (known_of (incarnation log name)) (live log name)))))
