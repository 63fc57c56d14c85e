-- Which record may follow is to be read off the image, and the entries of a legal log fit one another.
use Rattle.std.proofs.Common.{◌≡◌, ◌↔◌, ℕ, ◌+◌, ◌<◌, ◌≤◌, ◌^◌, Bool, true, false, cond, List, [], ◌∷◌, ◌++◌, length, Option, Some, None, IsSome, refl, sym, ap, ◌∙◌, subst, append_assoc, append-nil}
use Rattle.std.specs.Prelude.{option_map}
use Rattle.std.specs.FinMap.{get}
use Rattle.std.specs.Cmp.Lexicographic.{bytes_decides}
use Rattle.std.specs.Str.{bytes_eq}
use Rattle.stream_fold.specs.declared.config.Config.{Config}
use Rattle.stream_fold.specs.declared.entry.Entry.{Entry}
use Rattle.stream_fold.specs.Histories.{History, with_entry}
use Rattle.stream_fold.specs.Fits.{Fits, FitAfter, AllFit}
use Rattle.stream_fold.proofs.FactLemmas.{tell-fits}
use Rattle.record_codec.specs.declared.records.Rec.{Rec}
use Rattle.record_codec.specs.declared.records.Rec.TheVariants.{Boot, Create, Remove, Of}
use Rattle.shard_machine.specs.Logs.{Made, Named, with_change, to_last, recorded, named_after, named, incarnation, by_incarnation, live}
use Rattle.shard_machine.specs.Legal.{MayChange, MayMake, MayFollow, MayAllFollow, IsLegal}
use Rattle.shard_machine.specs.Images.{NameFacts, image, live_in, known_of, MayMakeIn, MayChangeIn, MayFollowImage}
use Rattle.shard_machine.proofs.Images.{NameSays, name-says, images-tell}
use Rattle.shard_machine.proofs.LogSteps.{named_after-snoc, to_last-snoc, latest-snoc}

-- ---- by the image

none_back : {A B : Type 0} (f : A → B) (o : Option A) → option_map f o ≡ None → o ≡ None
none_back f None e = refl
none_back f (Some x) e = absurd (cc)

some_back : {A B : Type 0} (f : A → B) (o : Option A) → IsSome (option_map f o) → IsSome o
some_back f None h = h
some_back f (Some x) h = h

some_on : {A B : Type 0} (f : A → B) (o : Option A) → IsSome o → IsSome (option_map f o)
some_on f None h = h
some_on f (Some x) h = h

-- what is mapped was there
pub record WasThere {A B : Type 0} (f : A → B) (o : Option A) (y : B) : Type 0 where
  pub value : A
  pub here : o ≡ Some value
  pub gives : f value ≡ y

was_there : {A B : Type 0} (f : A → B) (o : Option A) (y : B) → option_map f o ≡ Some y → WasThere f o y
was_there f None y e = absurd (cc)
was_there f (Some x) y e = record { value = x; here = refl; gives = cc }

module _ (log : List Rec) where
  make-on : (c : Config) → MayMakeIn (image log) c → MayMake log c
  make-on c m = let t = images-tell log in record {
    free = none_back (known_of (incarnation log c.name)) (live log c.name) (sym (t.live c.name) ∙ m.free);
    faultless = m.faultless;
    number = subst (λ n. n + 1 < 2 ^ 63) (t.incarnation c.name) m.number;
  }

  make-back : (c : Config) → MayMake log c → MayMakeIn (image log) c
  make-back c m = let t = images-tell log in record {
    free = t.live c.name ∙ ap (option_map (known_of (incarnation log c.name))) m.free;
    faultless = m.faultless;
    number = subst (λ n. n + 1 < 2 ^ 63) (sym (t.incarnation c.name)) m.number;
  }

  change-on : (name : List ℕ) (e : Entry) (known : NameFacts) → live_in (image log) name ≡ Some known → MayChangeIn e known → (made : Made) × (live log name ≡ Some made) × MayChange e made
  change-on name e known here may =
      let was = was_there (known_of (incarnation log name)) (live log name) known (sym ((images-tell log).live name) ∙ here) in
      (was.value, was.here, record { fits = (tell-fits was.value.history e).0 (subst (λ k. MayChangeIn e k) (sym was.gives) may).fits; faultless = may.faultless })

  change-back : (name : List ℕ) (e : Entry) (made : Made) → live log name ≡ Some made → MayChange e made → (known : NameFacts) × (live_in (image log) name ≡ Some known) × MayChangeIn e known
  change-back name e made here may = (
    known_of (incarnation log name) made,
    (images-tell log).live name ∙ ap (option_map (known_of (incarnation log name))) here,
    record { fits = (tell-fits made.history e).1 may.fits; faultless = may.faultless },
  )

-- which record may follow
pub tell-legal : (log : List Rec) (r : Rec) → MayFollowImage (image log) r ↔ MayFollow log r
tell-legal log (Boot number) = let b = (images-tell log).boot in (
  λ m. (m.0 ∙ ap (λ n. n + 1) b, m.1),
  λ m. (m.0 ∙ ap (λ n. n + 1) (sym b), m.1),
)
tell-legal log (Create time config) = let b = (images-tell log).boot in (
  λ m. (subst (λ n. 1 ≤ n) b m.0, make-on log config m.1),
  λ m. (subst (λ n. 1 ≤ n) (sym b) m.0, make-back log config m.1),
)
tell-legal log (Remove name) = let t = images-tell log in (
  λ m. (subst (λ n. 1 ≤ n) t.boot m.0, some_back (known_of (incarnation log name)) (live log name) (subst IsSome (t.live name) m.1)),
  λ m. (subst (λ n. 1 ≤ n) (sym t.boot) m.0, subst IsSome (sym (t.live name)) (some_on (known_of (incarnation log name)) (live log name) m.1)),
)
tell-legal log (Of name entry) = let b = (images-tell log).boot in (
  λ m. (let c = change-on log name entry m.1 m.2 m.3 in (subst (λ n. 1 ≤ n) b m.0, c.0, c.1, c.2)),
  λ m. (let c = change-back log name entry m.1 m.2 m.3 in (subst (λ n. 1 ≤ n) (sym b) m.0, c.0, c.1, c.2)),
)

-- ---- entries of a legal log

-- the entries of each stream that stands fit
abbrev pub StandingFit : List Rec → Type 0
StandingFit log = (name : List ℕ) (m : Made) → live log name ≡ Some m → AllFit m.history

-- the latest stream of a name, if it stands
abbrev latest_of : Named → Option Made
latest_of n = cond n.stands (by_incarnation n.made (length n.made)) None

fit-push : (h : History) (es : List Entry) (e : Entry) → FitAfter h es → Fits (record { config = h.config; entries = h.entries ++ es }) e → FitAfter h (es ++ e ∷ [])
fit-push h [] e fit fits = (subst (λ l. Fits (record { config = h.config; entries = l }) e) (append-nil h.entries) fits, tt)
fit-push h (x ∷ es) e fit fits = (
  fit.0,
  fit-push (with_entry h x) es e fit.1 (subst (λ l. Fits (record { config = h.config; entries = l }) e) (sym (append_assoc h.entries (x ∷ []) es)) fits),
)

same_Some : (x y : Made) → Some x ≡ Some y → x ≡ y
same_Some x y e = cc

-- with an entry that fits the latest stream
fit-entered : (n : Named) (s : (earlier : List Made) × (latest : Made) × (n.made ≡ earlier ++ latest ∷ [])) (e : Entry) (made m : Made) → latest_of n ≡ Some made → AllFit made.history → Fits made.history e
    → cond n.stands (by_incarnation (to_last e n.made) (length (to_last e n.made))) None ≡ Some m → AllFit m.history
fit-entered n s e made m here fit fits is = by n.stands here is
  where
    pushed : by_incarnation (to_last e n.made) (length (to_last e n.made)) ≡ Some (with_change e s.1)
    pushed = ap (λ ms. by_incarnation (to_last e ms) (length (to_last e ms))) s.2 ∙ (ap (λ ms. by_incarnation ms (length ms)) (to_last-snoc e s.0 s.1) ∙ latest-snoc s.0 (with_change e s.1))

    latest : by_incarnation n.made (length n.made) ≡ Some s.1
    latest = ap (λ ms. by_incarnation ms (length ms)) s.2 ∙ latest-snoc s.0 s.1

    by : (b : Bool) → cond b (by_incarnation n.made (length n.made)) None ≡ Some made → cond b (by_incarnation (to_last e n.made) (length (to_last e n.made))) None ≡ Some m → AllFit m.history
    by false h i = absurd (cc)
    by true h i =
        let own : s.1 ≡ made = same_Some s.1 made (sym latest ∙ h) in
        let now : with_change e s.1 ≡ m = same_Some (with_change e s.1) m (sym pushed ∙ i) in
        subst (λ (k : Made). AllFit k.history) (ap (with_change e) (sym own) ∙ now)
        (fit-push (record { config = made.history.config; entries = [] }) made.history.entries e fit fits)

-- the streams of a name of which one stands
parts-of : (n : Named) (o : Option NameFacts) (made : Made) → NameSays n o → latest_of n ≡ Some made → (earlier : List Made) × (latest : Made) × (n.made ≡ earlier ++ latest ∷ [])
parts-of n None made says here =
    let gone : None ≡ Some made = sym (ap (λ b. cond b (by_incarnation n.made (length n.made)) None) says.1) ∙ here in
    absurd (cc)
parts-of n (Some f) made says here = (says.earlier, says.latest, says.are)

-- a record says nothing of other names
fit-create : (n : Named) (t : ℕ) (c : Config) (m : Made) (b : Bool) → (latest_of n ≡ Some m → AllFit m.history)
    → latest_of (cond b (record { made = n.made ++ (record { created = t; history = record { config = c; entries = [] } }) ∷ []; stands = true }) n) ≡ Some m → AllFit m.history
fit-create n t c m true before here =
    let new : Made = record { created = t; history = record { config = c; entries = [] } } in
    subst (λ (k : Made). AllFit k.history) (same_Some new m (sym (latest-snoc n.made new) ∙ here)) tt
fit-create n t c m false before here = before here

fit-remove : (n : Named) (m : Made) (b : Bool) → (latest_of n ≡ Some m → AllFit m.history) → latest_of (cond b (record { made = n.made; stands = false }) n) ≡ Some m → AllFit m.history
fit-remove n m true before here = absurd (cc)
fit-remove n m false before here = before here

fit-entry : (log : List Rec) (other name : List ℕ) (e : Entry) (m : Made) (b : Bool) → bytes_eq other name ≡ b → StandingFit log → MayFollow log (Of other e)
    → latest_of (cond b (record { made = to_last e (named log name).made; stands = (named log name).stands }) (named log name)) ≡ Some m → AllFit m.history
fit-entry log other name e m true q fit may here =
    let live_is : live log name ≡ Some may.1 = ap (live log) (sym ((bytes_decides other name).0 q)) ∙ may.2 in
    fit-entered (named log name) (parts-of (named log name) (get (image log).names name) may.1 (name-says log name) live_is) e may.1 m live_is (fit name may.1 live_is) may.3.fits here
fit-entry log other name e m false q fit may here = fit name m here

fit-record : (log : List Rec) (r : Rec) (name : List ℕ) (m : Made) → StandingFit log → MayFollow log r → latest_of (recorded name (named log name) r) ≡ Some m → AllFit m.history
fit-record log (Boot number) name m fit may here = fit name m here
fit-record log (Create t c) name m fit may here = fit-create (named log name) t c m (bytes_eq c.name name) (fit name m) here
fit-record log (Remove other) name m fit may here = fit-remove (named log name) m (bytes_eq other name) (fit name m) here
fit-record log (Of other e) name m fit may here = fit-entry log other name e m (bytes_eq other name) refl fit may here

fit-next : (log : List Rec) (r : Rec) → StandingFit log → MayFollow log r → StandingFit (log ++ r ∷ [])
fit-next log r fit may name m here = fit-record log r name m fit may (sym (ap latest_of (named_after-snoc name (record { made = []; stands = false }) log r)) ∙ here)

fit-all : (log more : List Rec) → StandingFit log → MayAllFollow log more → StandingFit (log ++ more)
fit-all log [] fit may = subst StandingFit (sym (append-nil log)) fit
fit-all log (r ∷ more) fit may = subst StandingFit (append_assoc log (r ∷ []) more) (fit-all (log ++ r ∷ []) more (fit-next log r fit may.0) may.1)

nothing-stands : StandingFit []
unfolding named_after
nothing-stands name m here = absurd (cc)

-- in a legal log each entry of a stream that stands fits those before it
pub legal-fit : (log : List Rec) (name : List ℕ) (m : Made) → IsLegal log → live log name ≡ Some m → AllFit m.history
legal-fit log name m legal here = fit-all [] log nothing-stands legal name m here
