-- What a copy stores was wanted of its origin, since the configuration of a stream has no fault.
use Rattle.std.proofs.Common.{◌≡◌, ℕ, zero, suc, Bool, true, false, cond, not, ◌&&◌, ◌||◌, ltb, eqb, codes, List, [], ◌∷◌, length, Option, Some, None, is_some, refl, sym, subst, arith}
use Rattle.std.specs.Prelude.{slice_get}
use Rattle.std.specs.List.{list_any, list_all}
use Rattle.std.proofs.lemmas.Bool.{and_parts, or_parts, or_left, or_right, eqb-true, ltb-false}
use Rattle.nats_text.specs.Matching.{matches}
use Rattle.nats_text.specs.Text.{is_pattern}
use Rattle.nats_text.specs.declared.message.Message.{Message}
use Rattle.nats_text.specs.declared.origin.Mapping.{Mapping}
use Rattle.nats_text.specs.declared.origin.Origin.{Origin}
use Rattle.stream_fold.specs.declared.config.Config.{Config}
use Rattle.stream_fold.specs.declared.config.Copies.{Copies}
use Rattle.stream_fold.specs.declared.config.Copies.TheVariants.{Nothing, Mirror, Sources}
use Rattle.stream_fold.specs.Checking.{wrong_if, config_fault, copies_fault, limits_fault, has_wrong_subjects, has_wrong_window, is_wrong_mirror, is_wrong_transform, start_fault, source_fault, source_faults, has_wrong_maps, are_wrong_sources, mirror_fault, is_legal_map, has_short_texts, are_transform, leaves_subject, keeps_all_sizes}
use Rattle.stream_fold.specs.Copying.{origin_named}
use Rattle.stream_fold.specs.Histories.{either}
use Rattle.stream_fold.specs.Sourcing.{Route, route, route_by_map, route_by_maps, sourced, via}
use Rattle.push_consumer.specs.Sends.{is_wanted}
use Rattle.replica_ask.specs.Filters.{filters_by, filters_of, sources_of}
use Rattle.run_soundness.specs.Soundness.{IsToStore}

either-none : {A : Type 0} (a b : Option A) → either a b ≡ None → (a ≡ None) × (b ≡ None)
either-none None b e = (refl, e)
either-none (Some x) b e = absurd (cc)

right-one : (t : Bool) (member : List ℕ) → wrong_if t member ≡ None → t ≡ false
right-one true member e = absurd (cc)
right-one false member e = refl

not-false : (t : Bool) → not t ≡ false → t ≡ true
not-false true e = refl
not-false false e = absurd (cc)

no-filter : (o : Option (List ℕ)) → is_some o ≡ false → o ≡ None
no-filter None e = refl
no-filter (Some x) e = absurd (cc)

no-maps : (maps : List Mapping) → ltb 0 (length maps) ≡ false → maps ≡ []
no-maps [] e = refl
no-maps (m ∷ ms) e = let q = ltb-false 0 (length (m ∷ ms)) e in absurd (omega arith)

-- the origins have no fault
pub copies-faultless : (c : Config) → config_fault c ≡ None → copies_fault c c.copies ≡ None
copies-faultless c e =
    let last : Option (List ℕ) = wrong_if (is_wrong_transform c.copies c.transform) (codes "subject_transform") in
    let d : Option (List ℕ) = either (copies_fault c c.copies) last in
    let b : Option (List ℕ) = either (wrong_if (has_wrong_window c) (codes "duplicate_window")) d in
    let a : Option (List ℕ) = either (limits_fault c) b in
    (either-none (copies_fault c c.copies) last (either-none (wrong_if (has_wrong_window c) (codes "duplicate_window")) d (either-none (limits_fault c) b (either-none (wrong_if (has_wrong_subjects c) (codes "subjects")) a e).1).1).1).0

-- a mirror takes all of its origin as it is
pub record IsPlain (want : Origin) : Type 0 where
  pub filter : want.filter ≡ None
  pub maps : want.maps ≡ []

pub mirror-plain : (c : Config) (o : Origin) → mirror_fault c o ≡ None → IsPlain o
mirror-plain c o e =
    let t = right-one (is_wrong_mirror c o) (codes "mirror") (either-none (start_fault o.start) (wrong_if (is_wrong_mirror c o) (codes "mirror")) e).1 in
    let p = or_parts (is_some o.filter || ltb 0 (length o.maps) || ltb 0 (length c.subjects)) (not (keeps_all_sizes c)) t in
    let q = or_parts (is_some o.filter || ltb 0 (length o.maps)) (ltb 0 (length c.subjects)) p.0 in
    let r = or_parts (is_some o.filter) (ltb 0 (length o.maps)) q.0 in
    record { filter = no-filter o.filter r.0; maps = no-maps o.maps r.1 }

-- each of the sources has no fault
pub source-faultless : (os : List Origin) (i : ℕ) (want : Origin) → source_faults os ≡ None → slice_get os i ≡ Some want → source_fault want ≡ None
source-faultless [] i want e q = absurd (cc)
source-faultless (o ∷ os) zero want e q = (let same : o ≡ want = cc in subst (λ (x : Origin). source_fault x ≡ None) same (either-none (source_fault o) (source_faults os) e).0)
source-faultless (o ∷ os) (suc i) want e q = source-faultless os i want (either-none (source_fault o) (source_faults os) e).1 q

-- a source has a filter or maps, each of which has a pattern
pub record IsOneKind (want : Origin) : Type 0 where
  pub one : (is_some want.filter && ltb 0 (length want.maps)) ≡ false
  pub legal : list_all is_legal_map want.maps ≡ true

pub source-kind : (want : Origin) → source_fault want ≡ None → IsOneKind want
source-kind want e =
    let t = right-one (has_wrong_maps want) (codes "subject_transforms") (either-none (start_fault want.start) (wrong_if (has_wrong_maps want) (codes "subject_transforms")) e).1 in
    let p = or_parts ((is_some want.filter && ltb 0 (length want.maps)) || ltb 16 (length want.maps)) (not (list_all is_legal_map want.maps)) t in
    let q = or_parts (is_some want.filter && ltb 0 (length want.maps)) (ltb 16 (length want.maps)) p.0 in
    record { one = q.0; legal = not-false (list_all is_legal_map want.maps) p.1 }

-- ---- wanted subjects

pattern-or : (a b c d : Bool) → ((a && b) || (a && c)) ≡ true → a ≡ true
pattern-or true b c d e = refl
pattern-or false b c d e = absurd (cc)

legal-pattern : (m : Mapping) → is_legal_map m ≡ true → is_pattern m.src ≡ true
legal-pattern m e =
    let p = and_parts (has_short_texts m) ((is_pattern m.src && leaves_subject m.dest) || are_transform m) e in
    pattern-or (is_pattern m.src) (leaves_subject m.dest) _ true p.1

by_match : (b : Bool) (r s : Route) → cond b (Some r) None ≡ Some s → b ≡ true
by_match true r s e = refl
by_match false r s e = absurd (cc)

any-filtered : (p : List ℕ → Bool) (x : List ℕ) (xs : List (List ℕ)) (b : Bool) → b ≡ true → p x ≡ true → list_any p (cond b (x ∷ xs) xs) ≡ true
any-filtered p x xs true e t = or_left (p x) (list_any p xs) t
any-filtered p x xs false e t = absurd (cc)

any-later : (p : List ℕ → Bool) (x : List ℕ) (xs : List (List ℕ)) (b : Bool) → list_any p xs ≡ true → list_any p (cond b (x ∷ xs) xs) ≡ true
any-later p x xs true e = or_right (p x) (list_any p xs) e
any-later p x xs false e = e

by_first : (subject : List ℕ) (m : Mapping) (ms : List Mapping) (r : Route) (b : Bool) → matches m.src subject ≡ b → is_pattern m.src ≡ true →
    cond b (route_by_map m subject) (route_by_maps ms subject) ≡ Some r →
    (route_by_maps ms subject ≡ Some r → list_any (λ p. matches p subject) (sources_of ms) ≡ true) →
    list_any (λ p. matches p subject) (sources_of (m ∷ ms)) ≡ true
by_first subject m ms r true t pat e f = any-filtered (λ p. matches p subject) m.src (sources_of ms) (is_pattern m.src) pat t
by_first subject m ms r false t pat e f = any-later (λ p. matches p subject) m.src (sources_of ms) (is_pattern m.src) (f e)

maps-wanted : (maps : List Mapping) (subject : List ℕ) (r : Route) → list_all is_legal_map maps ≡ true → route_by_maps maps subject ≡ Some r → list_any (λ p. matches p subject) (sources_of maps) ≡ true
maps-wanted [] subject r legal e = absurd (cc)
maps-wanted (m ∷ ms) subject r legal e =
    let p = and_parts (is_legal_map m) (list_all is_legal_map ms) legal in
    by_first subject m ms r (matches m.src subject) refl (legal-pattern m p.0) e (λ q. maps-wanted ms subject r p.1 q)

route-wanted : (f : Option (List ℕ)) (maps : List Mapping) (subject : List ℕ) (r : Route) → (is_some f && ltb 0 (length maps)) ≡ false → list_all is_legal_map maps ≡ true → route f maps subject ≡ Some r → is_wanted (filters_by f maps) subject ≡ true
route-wanted None [] subject r one legal e = refl
route-wanted (Some f) [] subject r one legal e = or_left (matches f subject) false (by_match (matches f subject) (record { subject = subject; filter = f; dest = 62 ∷ [] }) r e)
route-wanted None (m ∷ ms) subject r one legal e = or_right (eqb (length (sources_of (m ∷ ms))) 0) (list_any (λ p. matches p subject) (sources_of (m ∷ ms))) (maps-wanted (m ∷ ms) subject r legal e)
route-wanted (Some f) (m ∷ ms) subject r one legal e = let q = ltb-false 0 (length (m ∷ ms)) one in absurd (omega arith)

route-of : (want : Origin) (m made : Message) (s : ℕ) (o : Option Route) → sourced want m s o ≡ Some made → (r : Route) × (o ≡ Some r)
route-of want m made s None e = absurd (cc)
route-of want m made s (Some r) e = (r, refl)

via-wanted : (want : Origin) (m made : Message) (s : ℕ) → IsOneKind want → via want m s ≡ Some made → is_wanted (filters_of want) m.subject ≡ true
via-wanted want m made s k e = let q = route-of want m made s (route want.filter want.maps m.subject) e in route-wanted want.filter want.maps m.subject q.0 k.one k.legal q.1

plain-wanted : (want : Origin) (subject : List ℕ) → IsPlain want → is_wanted (filters_of want) subject ≡ true
plain-wanted want subject p =
    subst (λ (f : Option (List ℕ)). is_wanted (filters_by f want.maps) subject ≡ true) (sym p.filter)
    (subst (λ (l : List Mapping). is_wanted (filters_by None l) subject ≡ true) (sym p.maps) refl)

-- the origin of a mirror
pub mirror-origin : (o want : Origin) (i : ℕ) → origin_named i (Mirror o) ≡ Some want → (o ≡ want) × (i ≡ 0)
mirror-origin o want i e = by_index (eqb i 0) refl e
  where
    by_index : (b : Bool) → eqb i 0 ≡ b → cond b (Some o) None ≡ Some want → (o ≡ want) × (i ≡ 0)
    by_index true q f = ((cc), eqb-true i 0 q)
    by_index false q f = absurd (cc)

stored-by : (c : Config) (copies : Copies) (want : Origin) (i : ℕ) (m : Message) (s : ℕ) → copies_fault c copies ≡ None → origin_named i copies ≡ Some want → IsToStore copies want m s → is_wanted (filters_of want) m.subject ≡ true
stored-by c Nothing want i m s p o q = absurd q
stored-by c (Mirror x) want i m s p o q = plain-wanted want m.subject (subst IsPlain (mirror-origin x want i o).0 (mirror-plain c x p))
stored-by c (Sources os) want i m s p o q = via-wanted want m q.0 s (source-kind want (source-faultless os i want (either-none (source_faults os) (wrong_if (are_wrong_sources c os) (codes "sources")) p).0 o)) q.1

-- what a copy stores was wanted of its origin
pub stored-wanted : (c : Config) (want : Origin) (i : ℕ) (m : Message) (s : ℕ) → config_fault c ≡ None → origin_named i c.copies ≡ Some want → IsToStore c.copies want m s → is_wanted (filters_of want) m.subject ≡ true
stored-wanted c want i m s p o q = stored-by c c.copies want i m s (copies-faultless c p) o q
