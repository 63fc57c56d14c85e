-- What a log says after one record more.
use Rattle.std.proofs.Common.{◌≡◌, ◌≢◌, ℕ, zero, suc, ◌<◌, Bool, true, false, cond, List, [], ◌∷◌, ◌++◌, length, Option, Some, None, refl, sym, ap, ◌∙◌, subst, arith, ◌⊎◌, inl, inr, append_assoc, append-nil, length-append}
use Rattle.std.specs.Prelude.{⊤, slice_get}
use Rattle.std.specs.Str.{bytes_eq}
use Rattle.std.specs.Cmp.Lexicographic.{bytes_decides}
use Rattle.stream_fold.specs.declared.config.Config.{Config}
use Rattle.stream_fold.specs.declared.entry.Entry.{Entry}
use Rattle.record_codec.specs.declared.records.Rec.{Rec}
use Rattle.record_codec.specs.declared.records.Rec.TheVariants.{Boot, Create, Remove, Of}
use Rattle.shard_machine.specs.Logs.{Made, Named, unnamed, boot_after, boot, with_change, to_last, recorded, named, incarnation, by_incarnation, made, live}
use Rattle.shard_machine.proofs.LogSteps.{boot-snoc, named_after-snoc}
use Rattle.run_soundness.proofs.Histories.{GoesOn, GoesOn-refl, GoesOn-entry, GoesOn-trans}

pub boot-push : (log : List Rec) (n : ℕ) → boot (log ++ Boot n ∷ []) ≡ n
unfolding boot_after
boot-push log n = boot-snoc 0 log (Boot n)

pub named-push : (log : List Rec) (r : Rec) (name : List ℕ) → named (log ++ r ∷ []) name ≡ recorded name (named log name) r
named-push log r name = named_after-snoc name unnamed log r

pub same_bytes : (xs ys : List ℕ) → bytes_eq xs ys ≡ true → xs ≡ ys
same_bytes xs ys e = (bytes_decides xs ys).0 e

-- a stream goes on
pub record StreamGrows (earlier later : Made) : Type 0 where
  pub created : later.created ≡ earlier.created
  pub history : GoesOn earlier.history later.history

pub StreamGrows-refl : (m : Made) → StreamGrows m m
StreamGrows-refl m = record { created = refl; history = GoesOn-refl m.history }

pub StreamGrows-entry : (m : Made) (e : Entry) → StreamGrows m (with_change e m)
StreamGrows-entry m e = record { created = refl; history = GoesOn-entry m.history e }

pub StreamGrows-trans : (a b c : Made) → StreamGrows a b → StreamGrows b c → StreamGrows a c
StreamGrows-trans a b c p q = record { created = q.created ∙ p.created; history = GoesOn-trans a.history b.history c.history p.history q.history }

-- a stream that was just made
abbrev pub new_made : ℕ → Config → Made
new_made time config = record { created = time; history = record { config = config; entries = [] } }

-- ---- one stream of a list, by its index

get-push : (hs : List Made) (x h : Made) (i : ℕ) → slice_get (hs ++ x ∷ []) i ≡ Some h → (slice_get hs i ≡ Some h) ⊎ ((i ≡ length hs) × (h ≡ x))
get-push [] x h zero e = inr (refl, (cc))
get-push [] x h (suc i) e = absurd (cc)
get-push (k ∷ hs) x h zero e = inl e
get-push (k ∷ hs) x h (suc i) e = elim (get-push hs x h i e) [ inl q ↦ inl q | inr q ↦ inr (ap suc q.0, q.1) ]

get-stays : (hs : List Made) (x h : Made) (i : ℕ) → slice_get hs i ≡ Some h → slice_get (hs ++ x ∷ []) i ≡ Some h
get-stays [] x h i e = absurd (cc)
get-stays (k ∷ hs) x h zero e = e
get-stays (k ∷ hs) x h (suc i) e = get-stays hs x h i e

get-to_last : (hs : List Made) (e : Entry) (h : Made) (i : ℕ) → slice_get (to_last e hs) i ≡ Some h →
    (slice_get hs i ≡ Some h) ⊎ ((suc i ≡ length hs) × ((k : Made) × (slice_get hs i ≡ Some k) × (h ≡ with_change e k)))
get-to_last [] e h i q = absurd (cc)
get-to_last (k ∷ []) e h zero q = inr (refl, (k, refl, (cc)))
get-to_last (k ∷ []) e h (suc i) q = absurd (cc)
get-to_last (k ∷ l ∷ hs) e h zero q = inl q
get-to_last (k ∷ l ∷ hs) e h (suc i) q = elim (get-to_last (l ∷ hs) e h i q) [ inl p ↦ inl p | inr p ↦ inr (ap suc p.0, p.1) ]

to_last-stays : (hs : List Made) (e : Entry) (k : Made) (i : ℕ) → slice_get hs i ≡ Some k → (h : Made) × (slice_get (to_last e hs) i ≡ Some h) × StreamGrows k h
to_last-stays [] e k i q = absurd (cc)
to_last-stays (l ∷ []) e k zero q = (with_change e l, refl, subst (λ (x : Made). StreamGrows x (with_change e l)) (let p : l ≡ k = cc in p) (StreamGrows-entry l e))
to_last-stays (l ∷ []) e k (suc i) q = absurd (cc)
to_last-stays (l ∷ m ∷ hs) e k zero q = (k, q, StreamGrows-refl k)
to_last-stays (l ∷ m ∷ hs) e k (suc i) q = to_last-stays (m ∷ hs) e k i q

-- ---- what a stream of the longer log was before

-- The record adds an entry to this stream.
pub record AddsEntry (log : List Rec) (r : Rec) (name : List ℕ) (i : ℕ) (new : Made) : Type 0 where
  pub entry : Entry
  pub old : Made
  pub is_record : r ≡ Of name entry
  pub latest : i ≡ incarnation log name
  pub was : made log name i ≡ Some old
  pub becomes : new ≡ with_change entry old

-- The record makes this stream.
pub record MakesHistory (log : List Rec) (r : Rec) (name : List ℕ) (i : ℕ) (new : Made) : Type 0 where
  pub time : ℕ
  pub config : Config
  pub is_record : r ≡ Create time config
  pub name_is : config.name ≡ name
  pub next : i ≡ suc (incarnation log name)
  pub becomes : new ≡ new_made time config

-- by the test of a record's name
by_create : (log : List Rec) (t : ℕ) (c : Config) (name : List ℕ) (n : Named) (i : ℕ) (new : Made) (b : Bool) → n ≡ named log name → bytes_eq c.name name ≡ b →
    slice_get (cond b (record { made = n.made ++ new_made t c ∷ []; stands = true }) n).made i ≡ Some new →
    (slice_get n.made i ≡ Some new) ⊎ MakesHistory log (Create t c) name (suc i) new
by_create log t c name n i new true e q h = elim (get-push n.made (new_made t c) new i h) [
  | inl p ↦ inl p
  | inr p ↦ inr (record { time = t; config = c; is_record = refl; name_is = same_bytes c.name name q; next = ap suc (p.0 ∙ ap (λ (m : Named). length m.made) e); becomes = p.1 })
]
by_create log t c name n i new false e q h = inl h

by_entry : (log : List Rec) (other : List ℕ) (entry : Entry) (name : List ℕ) (n : Named) (i : ℕ) (new : Made) (b : Bool) → n ≡ named log name → bytes_eq other name ≡ b →
    slice_get (cond b (record { made = to_last entry n.made; stands = n.stands }) n).made i ≡ Some new →
    (slice_get n.made i ≡ Some new) ⊎ AddsEntry log (Of other entry) name (suc i) new
by_entry log other entry name n i new true e q h = elim (get-to_last n.made entry new i h) [
  | inl p ↦ inl p
  | inr p ↦ inr (record { entry = entry; old = p.1.0; is_record = ap (λ m. Of m entry) (same_bytes other name q); latest = p.0 ∙ ap (λ (m : Named). length m.made) e; was = ap (λ (m : Named). slice_get m.made i) (sym e) ∙ p.1.1; becomes = p.1.2 })
]
by_entry log other entry name n i new false e q h = inl h

by_remove : (b : Bool) (n : Named) (i : ℕ) → slice_get (cond b (record { made = n.made; stands = false }) n).made i ≡ slice_get n.made i
by_remove true n i = refl
by_remove false n i = refl

recorded-cases : (log : List Rec) (r : Rec) (name : List ℕ) (i : ℕ) (new : Made) → slice_get (recorded name (named log name) r).made i ≡ Some new →
    (slice_get (named log name).made i ≡ Some new) ⊎ (AddsEntry log r name (suc i) new ⊎ MakesHistory log r name (suc i) new)
recorded-cases log (Boot n) name i new h = inl h
recorded-cases log (Create t c) name i new h = elim (by_create log t c name (named log name) i new (bytes_eq c.name name) refl refl h) [ inl p ↦ inl p | inr p ↦ inr (inr p) ]
recorded-cases log (Remove other) name i new h = inl (sym (by_remove (bytes_eq other name) (named log name) i) ∙ h)
recorded-cases log (Of other entry) name i new h = elim (by_entry log other entry name (named log name) i new (bytes_eq other name) refl refl h) [ inl p ↦ inl p | inr p ↦ inr (inl p) ]

-- A stream of the longer log was there before, or the record changed or made it.
pub hist-push : (log : List Rec) (r : Rec) (name : List ℕ) (i : ℕ) (new : Made) → made (log ++ r ∷ []) name i ≡ Some new →
    (made log name i ≡ Some new) ⊎ (AddsEntry log r name i new ⊎ MakesHistory log r name i new)
hist-push log r name zero new h = absurd (cc)
hist-push log r name (suc i) new h = recorded-cases log r name i new (ap (λ (m : Named). slice_get m.made i) (sym (named-push log r name)) ∙ h)

-- ---- what a stream became

GoesOnIn : List Made → ℕ → Made → Type 0
GoesOnIn hs i old = (new : Made) × (slice_get hs i ≡ Some new) × StreamGrows old new

by_create-stays : (t : ℕ) (c : Config) (n : Named) (i : ℕ) (old : Made) (b : Bool) → slice_get n.made i ≡ Some old → GoesOnIn (cond b (record { made = n.made ++ new_made t c ∷ []; stands = true }) n).made i old
unfolding GoesOnIn
by_create-stays t c n i old true h = (old, get-stays n.made (new_made t c) old i h, StreamGrows-refl old)
by_create-stays t c n i old false h = (old, h, StreamGrows-refl old)

by_entry-stays : (entry : Entry) (n : Named) (i : ℕ) (old : Made) (b : Bool) → slice_get n.made i ≡ Some old → GoesOnIn (cond b (record { made = to_last entry n.made; stands = n.stands }) n).made i old
unfolding GoesOnIn
by_entry-stays entry n i old true h = to_last-stays n.made entry old i h
by_entry-stays entry n i old false h = (old, h, StreamGrows-refl old)

recorded-stays : (r : Rec) (name : List ℕ) (n : Named) (i : ℕ) (old : Made) → slice_get n.made i ≡ Some old → GoesOnIn (recorded name n r).made i old
unfolding GoesOnIn
recorded-stays (Boot b) name n i old h = (old, h, StreamGrows-refl old)
recorded-stays (Create t c) name n i old h = by_create-stays t c n i old (bytes_eq c.name name) h
recorded-stays (Remove other) name n i old h = (old, by_remove (bytes_eq other name) n i ∙ h, StreamGrows-refl old)
recorded-stays (Of other entry) name n i old h = by_entry-stays entry n i old (bytes_eq other name) h

-- a stream goes on in the longer log
pub hist-stays : (log : List Rec) (r : Rec) (name : List ℕ) (i : ℕ) (old : Made) → made log name i ≡ Some old → (new : Made) × (made (log ++ r ∷ []) name i ≡ Some new) × StreamGrows old new
unfolding GoesOnIn
hist-stays log r name zero old h = absurd (cc)
hist-stays log r name (suc i) old h =
    let q = recorded-stays r name (named log name) i old h in (q.0, ap (λ (m : Named). slice_get m.made i) (named-push log r name) ∙ q.1, q.2)

-- and in a log with more records
pub hist-append : (log more : List Rec) (name : List ℕ) (i : ℕ) (old : Made) → made log name i ≡ Some old → (new : Made) × (made (log ++ more) name i ≡ Some new) × StreamGrows old new
hist-append log [] name i old h = (old, subst (λ (l : List Rec). made l name i ≡ Some old) (sym (append-nil log)) h, StreamGrows-refl old)
hist-append log (r ∷ more) name i old h =
    let p = hist-stays log r name i old h in
    let q = hist-append (log ++ r ∷ []) more name i p.0 p.1 in
    (q.0, subst (λ (l : List Rec). made l name i ≡ Some q.0) (append_assoc log (r ∷ []) more) q.1, StreamGrows-trans old p.0 q.0 p.2 q.2)

-- ---- the stream that stands

-- the latest stream of the name stands
pub record Stands (log : List Rec) (name : List ℕ) (i : ℕ) : Type 0 where
  pub latest : i ≡ incarnation log name
  pub stands : (named log name).stands ≡ true

cond_live : (b : Bool) (o : Option Made) (h : Made) → cond b o None ≡ Some h → (b ≡ true) × (o ≡ Some h)
cond_live true o h e = (refl, e)
cond_live false o h e = absurd (cc)

-- the stream that stands is the latest of its name
pub live-is : (log : List Rec) (name : List ℕ) (m : Made) → live log name ≡ Some m → Stands log name (incarnation log name) × (made log name (incarnation log name) ≡ Some m)
live-is log name m e = let q = cond_live (named log name).stands (made log name (incarnation log name)) m e in (record { latest = refl; stands = q.0 }, q.1)

pub live-from : (log : List Rec) (name : List ℕ) (i : ℕ) (m : Made) → Stands log name i → made log name i ≡ Some m → live log name ≡ Some m
live-from log name i m s e =
    ap (λ b. cond b (made log name (incarnation log name)) None) s.stands ∙ (ap (λ k. made log name k) (sym s.latest) ∙ e)

length-to_last : (e : Entry) (hs : List Made) → length (to_last e hs) ≡ length hs
length-to_last e [] = refl
length-to_last e (h ∷ []) = refl
length-to_last e (h ∷ k ∷ hs) = ap suc (length-to_last e (k ∷ hs))

-- the record neither makes nor removes a stream of this name
abbrev pub Leaves : Rec → List ℕ → Type 0
Leaves (Boot number) name = ⊤
Leaves (Create time config) name = config.name ≢ name
Leaves (Remove other) name = other ≢ name
Leaves (Of other entry) name = ⊤

NamedStands : Named → ℕ → Type 0
NamedStands n i = (i ≡ length n.made) × (n.stands ≡ true)

by_test : (b : Bool) (x n : Named) (i : ℕ) → (b ≡ true → ⊥) → NamedStands n i → NamedStands (cond b x n) i
by_test true x n i f h = absurd (f refl)
by_test false x n i f h = h

by_to_last : (b : Bool) (e : Entry) (n : Named) (i : ℕ) → NamedStands n i → NamedStands (cond b (record { made = to_last e n.made; stands = n.stands }) n) i
unfolding NamedStands
by_to_last true e n i h = (h.0 ∙ sym (length-to_last e n.made), h.1)
by_to_last false e n i h = h

recorded-stands : (r : Rec) (name : List ℕ) (n : Named) (i : ℕ) → Leaves r name → NamedStands n i → NamedStands (recorded name n r) i
recorded-stands (Boot b) name n i l h = h
recorded-stands (Create time config) name n i l h = by_test (bytes_eq config.name name) (record { made = n.made ++ new_made time config ∷ []; stands = true }) n i (λ t. l (same_bytes config.name name t)) h
recorded-stands (Remove other) name n i l h = by_test (bytes_eq other name) (record { made = n.made; stands = false }) n i (λ t. l (same_bytes other name t)) h
recorded-stands (Of other e) name n i l h = by_to_last (bytes_eq other name) e n i h

pub Stands-push : (log : List Rec) (r : Rec) (name : List ℕ) (i : ℕ) → Leaves r name → Stands log name i → Stands (log ++ r ∷ []) name i
unfolding NamedStands
Stands-push log r name i l s =
    let q : NamedStands (named (log ++ r ∷ []) name) i = subst (λ (n : Named). NamedStands n i) (sym (named-push log r name)) (recorded-stands r name (named log name) i l (s.latest, s.stands)) in
    record { latest = q.0; stands = q.1 }

-- the record is no Boot
abbrev pub NoBoot : Rec → Type 0
NoBoot (Boot n) = ⊥
NoBoot (Create time config) = ⊤
NoBoot (Remove name) = ⊤
NoBoot (Of name entry) = ⊤

pub boot-other : (log : List Rec) (r : Rec) → NoBoot r → boot (log ++ r ∷ []) ≡ boot log
unfolding boot_after
boot-other log (Boot n) f = absurd f
boot-other log (Create time config) f = boot-snoc 0 log (Create time config)
boot-other log (Remove name) f = boot-snoc 0 log (Remove name)
boot-other log (Of name entry) f = boot-snoc 0 log (Of name entry)

-- a name that is free has no stream that stands
pub free-stands : (log : List Rec) (name : List ℕ) (i : ℕ) (m : Made) → live log name ≡ None → Stands log name i → made log name i ≡ Some m → ⊥
free-stands log name i m free s e = let q : None ≡ Some m = sym free ∙ live-from log name i m s e in cc

-- ---- the stream that stands, in parts

record LiveParts (n : Named) (h : Made) : Type 0 where
  stands : n.stands ≡ true
  j : ℕ
  count : length n.made ≡ suc j
  last_is : slice_get n.made j ≡ Some h

live_named : Named → Option Made
live_named n = cond n.stands (by_incarnation n.made (length n.made)) None

parts_by : (n : Named) (h : Made) (b : Bool) (k : ℕ) → n.stands ≡ b → length n.made ≡ k → cond b (by_incarnation n.made k) None ≡ Some h → LiveParts n h
parts_by n h true zero s l e = absurd (cc)
parts_by n h true (suc j) s l e = record { stands = s; j = j; count = l; last_is = e }
parts_by n h false k s l e = absurd (cc)

live_parts : (n : Named) (h : Made) → live_named n ≡ Some h → LiveParts n h
unfolding live_named
live_parts n h e = parts_by n h n.stands (length n.made) refl refl e

live_from_parts : (n : Named) (h : Made) → LiveParts n h → live_named n ≡ Some h
unfolding live_named
live_from_parts n h p = ap (λ b. cond b (by_incarnation n.made (length n.made)) None) p.stands ∙ (ap (λ k. by_incarnation n.made k) p.count ∙ p.last_is)

live-named : (log : List Rec) (name : List ℕ) → live log name ≡ live_named (named log name)
unfolding live_named
live-named log name = refl

-- what stands was changed by the record
pub record LiveAdds (log : List Rec) (r : Rec) (name : List ℕ) (new : Made) : Type 0 where
  pub entry : Entry
  pub old : Made
  pub is_record : r ≡ Of name entry
  pub was : live log name ≡ Some old
  pub becomes : new ≡ with_change entry old

-- what stands was made by the record
pub record LiveMakes (r : Rec) (name : List ℕ) (new : Made) : Type 0 where
  pub time : ℕ
  pub config : Config
  pub is_record : r ≡ Create time config
  pub name_is : config.name ≡ name
  pub becomes : new ≡ new_made time config

hist-get-lt : (hs : List Made) (k : ℕ) (h : Made) → slice_get hs k ≡ Some h → k < length hs
hist-get-lt [] k h e = absurd (cc)
hist-get-lt (x ∷ hs) zero h e = omega arith
hist-get-lt (x ∷ hs) (suc k) h e = let q = hist-get-lt hs k h e in omega arith

live_create : (n : Named) (t : ℕ) (c : Config) (name : List ℕ) (new : Made) (b : Bool) → bytes_eq c.name name ≡ b →
    LiveParts (cond b (record { made = n.made ++ new_made t c ∷ []; stands = true }) n) new → (live_named n ≡ Some new) ⊎ LiveMakes (Create t c) name new
live_create n t c name new false e p = inl (live_from_parts n new p)
live_create n t c name new true e p = elim (get-push n.made (new_made t c) new p.j p.last_is) [
  | inl q ↦ (let lt = hist-get-lt n.made p.j new q in let k = length-append n.made (new_made t c ∷ []) in let l = p.count in absurd (omega arith))
  | inr q ↦ inr (record { time = t; config = c; is_record = refl; name_is = same_bytes c.name name e; becomes = q.1 })
]

live_entry : (log : List Rec) (n : Named) (other : List ℕ) (en : Entry) (name : List ℕ) (new : Made) (b : Bool) → live log name ≡ live_named n → bytes_eq other name ≡ b →
    LiveParts (cond b (record { made = to_last en n.made; stands = n.stands }) n) new → (live_named n ≡ Some new) ⊎ LiveAdds log (Of other en) name new
live_entry log n other en name new false l e p = inl (live_from_parts n new p)
live_entry log n other en name new true l e p = elim (get-to_last n.made en new p.j p.last_is) [
  | inl q ↦ inl (live_from_parts n new (record { stands = p.stands; j = p.j; count = sym (length-to_last en n.made) ∙ p.count; last_is = q }))
  | inr q ↦ inr (record { entry = en; old = q.1.0; is_record = ap (λ m. Of m en) (same_bytes other name e); was = l ∙ live_from_parts n q.1.0 (record { stands = p.stands; j = p.j; count = sym (length-to_last en n.made) ∙ p.count; last_is = q.1.1 }); becomes = q.1.2 })
]

live_remove : (n : Named) (new : Made) (b : Bool) → LiveParts (cond b (record { made = n.made; stands = false }) n) new → live_named n ≡ Some new
live_remove n new false p = live_from_parts n new p
live_remove n new true p = absurd (let z : false ≡ true = p.stands in cc)

live_cases : (log : List Rec) (r : Rec) (name : List ℕ) (new : Made) → LiveParts (recorded name (named log name) r) new → (live_named (named log name) ≡ Some new) ⊎ (LiveAdds log r name new ⊎ LiveMakes r name new)
live_cases log (Boot b) name new p = inl (live_from_parts (named log name) new p)
live_cases log (Create t c) name new p = elim (live_create (named log name) t c name new (bytes_eq c.name name) refl p) [ inl q ↦ inl q | inr q ↦ inr (inr q) ]
live_cases log (Remove other) name new p = inl (live_remove (named log name) new (bytes_eq other name) p)
live_cases log (Of other en) name new p = elim (live_entry log (named log name) other en name new (bytes_eq other name) (live-named log name) refl p) [ inl q ↦ inl q | inr q ↦ inr (inl q) ]

-- What stands after one record more stood before, or the record changed or made it.
pub live-push : (log : List Rec) (r : Rec) (name : List ℕ) (new : Made) → live (log ++ r ∷ []) name ≡ Some new → (live log name ≡ Some new) ⊎ (LiveAdds log r name new ⊎ LiveMakes r name new)
live-push log r name new e =
    elim (live_cases log r name new (subst (λ (n : Named). LiveParts n new) (named-push log r name) (live_parts (named (log ++ r ∷ []) name) new (sym (live-named (log ++ r ∷ []) name) ∙ e)))) [
      | inl q ↦ inl (live-named log name ∙ q)
      | inr q ↦ inr q
    ]

to_last-last : (hs : List Made) (e : Entry) (j : ℕ) (h : Made) → length hs ≡ suc j → slice_get hs j ≡ Some h → slice_get (to_last e hs) j ≡ Some (with_change e h)
to_last-last [] e j h l q = absurd (cc)
to_last-last (x ∷ []) e zero h l q = (let z : x ≡ h = cc in ap (λ (y : Made). Some (with_change e y)) z)
to_last-last (x ∷ []) e (suc j) h l q = absurd (cc)
to_last-last (x ∷ y ∷ hs) e zero h l q = absurd (omega arith)
to_last-last (x ∷ y ∷ hs) e (suc j) h l q = to_last-last (y ∷ hs) e j h (omega arith) q

live_with : (n : Named) (name : List ℕ) (e : Entry) (h : Made) (b : Bool) → bytes_eq name name ≡ b → LiveParts n h → LiveParts (cond b (record { made = to_last e n.made; stands = n.stands }) n) (with_change e h)
live_with n name e h true q p = record { stands = p.stands; j = p.j; count = length-to_last e n.made ∙ p.count; last_is = to_last-last n.made e p.j h p.count p.last_is }
live_with n name e h false q p = absurd (let z : false ≡ true = sym q ∙ (bytes_decides name name).1 refl in cc)

-- the stream that stands, with one entry more
pub live-entry : (log : List Rec) (name : List ℕ) (e : Entry) (m : Made) → live log name ≡ Some m → live (log ++ Of name e ∷ []) name ≡ Some (with_change e m)
live-entry log name e m q = live-named (log ++ Of name e ∷ []) name ∙ live_from_parts (named (log ++ Of name e ∷ []) name) (with_change e m)
    (subst (λ (n : Named). LiveParts n (with_change e m)) (sym (named-push log (Of name e) name))
    (live_with (named log name) name e m (bytes_eq name name) refl (live_parts (named log name) m (sym (live-named log name) ∙ q))))
