-- What holds of each stream of a legal log, and which record keeps it.
use Rattle.std.proofs.Common.{◌≡◌, ℕ, zero, suc, ◌<◌, ◌^◌, max, false, List, [], ◌∷◌, ◌++◌, Some, None, refl, sym, ap, ◌∙◌, subst, arith, inl, inr, append_assoc, append-nil}
use Rattle.stream_fold.specs.declared.config.Config.{Config}
use Rattle.stream_fold.specs.declared.entry.Entry.{Entry}
use Rattle.stream_fold.specs.declared.entry.Entry.TheVariants.{Put, Del, Purge, Expire, Bind, Limits}
use Rattle.stream_fold.specs.Histories.{History, with_entry, stands, last, number_put, limits_after, NumbersRise}
use Rattle.stream_fold.specs.Copying.{Follows, FollowFrom, NumbersFollow}
use Rattle.stream_fold.specs.Checking.{config_fault, is_mirror}
use Rattle.stream_fold.specs.Fits.{Fits, FitAfter, AllFit, KeepsMembers}
use Rattle.stream_fold.proofs.Folds.{last-push, stands-push}
use Rattle.record_codec.specs.declared.records.Rec.{Rec}
use Rattle.record_codec.specs.declared.records.Rec.TheVariants.{Create, Of}
use Rattle.shard_machine.specs.Logs.{Made, named_after, with_change, incarnation, made, live}
use Rattle.shard_machine.specs.Legal.{MayFollow, IsLegal}
use Rattle.shard_machine.proofs.LogSteps.{all_follow-snoc}
use Rattle.run_soundness.specs.Below.{Laws}
use Rattle.run_soundness.proofs.Logs.{hist-push, AddsEntry, MakesHistory, live-is, new_made}

-- ---- what holds of each entry after those before it

-- what an entry that fits keeps holds of the whole history
pub fit-all : (P : History → Type 0) → ((k : History) (e : Entry) → P k → Fits k e → P (with_entry k e)) → (h : History) (es : List Entry) → P h → FitAfter h es → P (record { config = h.config; entries = h.entries ++ es })
fit-all P f h [] p fit = subst (λ (l : List Entry). P (record { config = h.config; entries = l })) (sym (append-nil h.entries)) p
fit-all P f h (e ∷ es) p fit = subst (λ (l : List Entry). P (record { config = h.config; entries = l })) (append_assoc h.entries (e ∷ []) es) (fit-all P f (with_entry h e) es (f h e p fit.0) fit.1)

fit-push : (h : History) (es : List Entry) (e : Entry) → FitAfter h es → Fits (record { config = h.config; entries = h.entries ++ es }) e → FitAfter h (es ++ e ∷ [])
fit-push h [] e fit fits = (subst (λ (l : List Entry). Fits (record { config = h.config; entries = l }) e) (append-nil h.entries) fits, tt)
fit-push h (x ∷ es) e fit fits = (
  fit.0,
  fit-push (with_entry h x) es e fit.1 (subst (λ (l : List Entry). Fits (record { config = h.config; entries = l }) e) (sym (append_assoc h.entries (x ∷ []) es)) fits),
)

-- an entry more that fits
pub AllFit-entry : (h : History) (e : Entry) → AllFit h → Fits h e → AllFit (with_entry h e)
AllFit-entry h e fit fits = fit-push (record { config = h.config; entries = [] }) h.entries e fit fits

-- the members that never change are those of the creation
Keeps : History → Type 0
Keeps h = KeepsMembers h.config (stands h).limits

limits-keep : (c k : Config) (h : History) (e : Entry) → Fits h e → k ≡ (stands h).limits → KeepsMembers c k → KeepsMembers c (limits_after k e)
limits-keep c k h (Put number message mark) fits is keeps = keeps
limits-keep c k h (Del number) fits is keeps = keeps
limits-keep c k h (Purge pattern below) fits is keeps = keeps
limits-keep c k h (Expire now) fits is keeps = keeps
limits-keep c k h (Bind index incarnation start) fits is keeps = keeps
limits-keep c k h (Limits config) fits is keeps =
    let more : KeepsMembers k config = subst (λ (x : Config). KeepsMembers x config) (sym is) fits in
    record { name = more.name ∙ keeps.name; window = more.window ∙ keeps.window; copies = more.copies ∙ keeps.copies }

keeps-entry : (h : History) (e : Entry) → Keeps h → Fits h e → Keeps (with_entry h e)
unfolding Keeps
keeps-entry h e keeps fits =
    subst (λ k. KeepsMembers h.config k.limits) (sym (stands-push h e)) (limits-keep h.config (stands h).limits h e fits refl keeps)

pub fit-keeps : (h : History) → AllFit h → KeepsMembers h.config (stands h).limits
unfolding Keeps
fit-keeps h fit = fit-all Keeps keeps-entry (record { config = h.config; entries = [] }) h.entries (record { name = refl; window = refl; copies = refl }) fit

-- numbers are below 2^63
Bounded : History → Type 0
Bounded h = last h.entries < 2 ^ 63

number-bound : (h : History) (e : Entry) → Fits h e → number_put e < 2 ^ 63
number-bound h (Put number message mark) fits = fits.1
number-bound h (Del number) fits = omega arith
number-bound h (Purge pattern below) fits = omega arith
number-bound h (Expire now) fits = omega arith
number-bound h (Bind index incarnation start) fits = omega arith
number-bound h (Limits config) fits = omega arith

max_below : (a b n : ℕ) → a < n → b < n → max a b < n
max_below a b n p q = omega arith

bound-entry : (h : History) (e : Entry) → Bounded h → Fits h e → Bounded (with_entry h e)
unfolding Bounded
bound-entry h e below fits = subst (λ n. n < 2 ^ 63) (sym (last-push h.entries e)) (max_below (last h.entries) (number_put e) (2 ^ 63) below (number-bound h e fits))

pub fit-bound : (h : History) → AllFit h → last h.entries < 2 ^ 63
unfolding Bounded
fit-bound h fit = fit-all Bounded bound-entry (record { config = h.config; entries = [] }) h.entries (omega arith) fit

-- ---- numbers without gaps

follow-push : (es : List Entry) (e : Entry) (low : ℕ) → FollowFrom low es → Follows (max low (last es)) e → FollowFrom low (es ++ e ∷ [])
follow-push [] e low h f = (subst (λ l. Follows l e) (let q : max low 0 ≡ low = omega arith in q) f, tt)
follow-push (x ∷ es) e low h f = (
  h.0,
  follow-push es e (max low (number_put x)) h.1
      (subst (λ l. Follows l e) (let q : max low (max (number_put x) (last es)) ≡ max (max low (number_put x)) (last es) = omega arith in q) f),
)

pub NumbersFollow-entry : (h : History) (e : Entry) → NumbersFollow h.entries → Follows (last h.entries) e → NumbersFollow (with_entry h e).entries
NumbersFollow-entry h e follow next = follow-push h.entries e 0 follow (subst (λ l. Follows l e) (let q : last h.entries ≡ max 0 (last h.entries) = omega arith in q) next)

-- ---- logs

-- A stream that was made under a name: its configuration may be one and names it, each entry fits those
-- before it, and where it is no mirror its own numbers have no gaps.
pub record MadeOk (name : List ℕ) (m : Made) : Type 0 where
  pub name_is : m.history.config.name ≡ name
  pub fit : AllFit m.history
  pub faultless : config_fault m.history.config ≡ None
  pub follow : is_mirror m.history.config.copies ≡ false → NumbersFollow m.history.entries

-- a legal log, and what holds of each of its streams, also of those that were removed
pub record LogOk (log : List Rec) : Type 0 where
  pub legal : IsLegal log
  pub each : (name : List ℕ) (i : ℕ) (m : Made) → made log name i ≡ Some m → MadeOk name m

-- a record that may stand behind the log
pub record MayStand (log : List Rec) (r : Rec) : Type 0 where
  pub follows : MayFollow log r
  pub number : (name : List ℕ) (e : Entry) (m : Made) → r ≡ Of name e → live log name ≡ Some m → is_mirror m.history.config.copies ≡ false → Follows (last m.history.entries) e

pub made-rise : Laws → (name : List ℕ) (m : Made) → MadeOk name m → NumbersRise m.history.entries
made-rise laws name m ok = laws.fitting m.history ok.fit

pub log-rise : Laws → (log : List Rec) (name : List ℕ) (i : ℕ) (m : Made) → LogOk log → made log name i ≡ Some m → NumbersRise m.history.entries
log-rise laws log name i m ok e = made-rise laws name m (ok.each name i m e)

same_Some : (x y : Made) → Some x ≡ Some y → x ≡ y
same_Some x y e = cc

-- with an entry that may stand behind the log
with-entry-ok : (log : List Rec) (name : List ℕ) (e : Entry) (old : Made) → made log name (incarnation log name) ≡ Some old → MadeOk name old → MayStand log (Of name e) → MadeOk name (with_change e old)
with-entry-ok log name e old was ok may =
    let w = may.follows.1 in
    let here : live log name ≡ Some w = may.follows.2 in
    let same : w ≡ old = same_Some w old (sym (live-is log name w here).1 ∙ was) in
    let fits : Fits old.history e = subst (λ (m : Made). Fits m.history e) same may.follows.3.fits in
    record {
      name_is = ok.name_is;
      fit = AllFit-entry old.history e ok.fit fits;
      faultless = ok.faultless;
      follow = λ no. NumbersFollow-entry old.history e (ok.follow no) (may.number name e old refl (here ∙ ap Some same) no);
    }

made-ok : (log : List Rec) (r : Rec) (time : ℕ) (config : Config) → r ≡ Create time config → MayStand log r → MadeOk config.name (new_made time config)
made-ok log r time config is may =
    let follows : MayFollow log (Create time config) = subst (MayFollow log) is may.follows in
    record { name_is = refl; fit = tt; faultless = follows.1.faultless; follow = λ no. tt }

adds-ok : (log : List Rec) (r : Rec) (name : List ℕ) (i : ℕ) (new : Made) → LogOk log → MayStand log r → AddsEntry log r name i new → MadeOk name new
adds-ok log r name i new ok may a =
    subst (MadeOk name) (sym a.becomes)
    (with-entry-ok log name a.entry a.old (subst (λ j. made log name j ≡ Some a.old) a.latest a.was) (ok.each name i a.old a.was) (subst (MayStand log) a.is_record may))

makes-ok : (log : List Rec) (r : Rec) (name : List ℕ) (i : ℕ) (new : Made) → MayStand log r → MakesHistory log r name i new → MadeOk name new
makes-ok log r name i new may a =
    subst (MadeOk name) (sym a.becomes) (subst (λ n. MadeOk n (new_made a.time a.config)) a.name_is (made-ok log r a.time a.config a.is_record may))

pub LogOk-push : (log : List Rec) (r : Rec) → LogOk log → MayStand log r → LogOk (log ++ r ∷ [])
LogOk-push log r ok may = record {
  legal = all_follow-snoc [] log r ok.legal may.follows;
  each = λ name i m e. elim (hist-push log r name i m e) [
    | inl same ↦ ok.each name i m same
    | inr more ↦ (elim more [ inl adds ↦ adds-ok log r name i m ok may adds | inr makes ↦ makes-ok log r name i m may makes ])
  ];
}

none-made : (name : List ℕ) (i : ℕ) (m : Made) → made [] name i ≡ Some m → MadeOk name m
unfolding named_after
none-made name zero m e = absurd (cc)
none-made name (suc i) m e = absurd (cc)

pub LogOk-empty : LogOk []
LogOk-empty = record { legal = tt; each = none-made }

-- the stream that stands
pub live-ok : (log : List Rec) (name : List ℕ) (m : Made) → LogOk log → live log name ≡ Some m → MadeOk name m
live-ok log name m ok e = ok.each name (incarnation log name) m (live-is log name m e).1
