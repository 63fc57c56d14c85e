-- A stream that takes an entry.
use Rattle.std.proofs.Common.{◌≡◌, ℕ, ◌+◌, ◌≤◌, Bool, cond, List, [], ◌∷◌, ◌++◌, length, Option, None, Some, refl, sym, ap, ◌∙◌, subst, arith, append_assoc, append-nil}
use Rattle.std.specs.Prelude.{◌-◌, count_by}
use Rattle.stream_fold.specs.declared.config.Config.{Config}
use Rattle.stream_fold.specs.declared.entry.Entry.{Entry}
use Rattle.stream_fold.specs.declared.entry.Entry.TheVariants.{Put, Del, Purge, Expire, Bind, Limits}
use Rattle.stream_fold.specs.declared.entry.Numbered.{Numbered}
use Rattle.stream_fold.specs.Checking.{config_fault}
use Rattle.stream_fold.specs.Facts.{FitsFacts, StreamFacts, facts_after}
use Rattle.stream_fold.specs.Fits.{AllFit, FitAfter, Fits}
use Rattle.stream_fold.specs.Held.{StandsFor}
use Rattle.stream_fold.specs.Histories.{Folded, History, IsAbove, RiseFrom, NumbersRise, changed_rows, kept, last, limited, limits_after, stands, with_entry}
use Rattle.stream_fold.specs.RowLists.{EachRow, Rises, seqs}
use Rattle.stream_fold.proofs.FactLemmas.{facts-push, facts-tell, tell-fits}
use Rattle.stream_fold.proofs.Folds.{last-push, stands-push}
use Rattle.stream_fold.proofs.KeptRows.{kept-below, kept-rises}
use Rattle.log_replay.specs.declared.replay.Standing.{Standing}
use Rattle.shard_machine.specs.Images.{MayChangeIn, NameFacts, entered}
use Rattle.shard_machine.specs.Views.{count_gone}
use Rattle.shard_streams.specs.HeldImages.{IsStreamOf}
use Rattle.shard_streams.specs.Places.{stored_number}
use Rattle.shard_streams.proofs.Counting.{IsPart, count-added, count-part, ends-limited, is_gone, part-filter, part-limited, part-refl, part-trans, rises-push}
use Rattle.shard_streams.proofs.Replaying.{faultless-entry}

-- ---- histories that fit

-- with an entry more that fits
fit_push : (h : History) (es : List Entry) (e : Entry) → FitAfter h es → Fits (record { config = h.config; entries = h.entries ++ es }) e → FitAfter h (es ++ e ∷ [])
fit_push h [] e fit fits = (subst (λ (l : List Entry). Fits (record { config = h.config; entries = l }) e) (append-nil h.entries) fits, tt)
fit_push h (x ∷ es) e fit fits = (
  fit.0,
  fit_push (with_entry h x) es e fit.1 (subst (λ (l : List Entry). Fits (record { config = h.config; entries = l }) e) (sym (append_assoc h.entries (x ∷ []) es)) fits),
)

pub all_fit-push : (h : History) (e : Entry) → AllFit h → Fits h e → AllFit (with_entry h e)
all_fit-push h e fit fits = fit_push (record { config = h.config; entries = [] }) h.entries e fit fits

above_of : (h : History) (e : Entry) → Fits h e → IsAbove (last h.entries) e
above_of h (Put number message mark) fits = fits.0
above_of h (Del number) fits = tt
above_of h (Purge pattern below) fits = tt
above_of h (Expire now) fits = tt
above_of h (Bind index incarnation start) fits = tt
above_of h (Limits config) fits = tt

fit-rise : (h : History) (es : List Entry) → FitAfter h es → RiseFrom (last h.entries) es
fit-rise h [] fit = tt
fit-rise h (e ∷ es) fit = (above_of h e fit.0, subst (λ (l : ℕ). RiseFrom l es) (last-push h.entries e) (fit-rise (with_entry h e) es fit.1))

all_fit-rise : (h : History) → AllFit h → NumbersRise h.entries
all_fit-rise h fit = fit-rise (record { config = h.config; entries = [] }) h.entries fit

name_after : (h : History) (e : Entry) → Fits h e → (limits_after (stands h).limits e).name ≡ (stands h).limits.name
name_after h (Put number message mark) fits = refl
name_after h (Del number) fits = refl
name_after h (Purge pattern below) fits = refl
name_after h (Expire now) fits = refl
name_after h (Bind index incarnation start) fits = refl
name_after h (Limits config) fits = fits.name

-- an entry that fits leaves the name
name_stays : (h : History) (e : Entry) → Fits h e → (stands (with_entry h e)).limits.name ≡ (stands h).limits.name
name_stays h e fits = ap (λ (k : Folded). k.limits.name) (stands-push h e) ∙ name_after h e fits

-- ---- the stream that took the entry

module _ (name : List ℕ) (old : Standing) (e : Entry) (known : NameFacts) (s : IsStreamOf name old known) (may : MayChangeIn e known) where
  pub fits_history : Fits s.history e
  fits_history = (tell-fits s.history e).0 (subst (λ (f : StreamFacts). FitsFacts f e) s.facts_are may.fits)

  pub entered_is : entered e known ≡ record { created = known.created; incarnation = known.incarnation; stands = known.stands; stream = facts_after known.stream e }
  entered_is = ap (λ (b : Bool). cond b (record { created = known.created; incarnation = known.incarnation; stands = known.stands; stream = facts_after known.stream e }) known) s.here

  pub stream_after : (new : Standing) → new.created ≡ old.created → StandsFor new.state (with_entry s.history e) → IsStreamOf name new (entered e known)
  stream_after new made state = subst (λ (k : NameFacts). IsStreamOf name new k) (sym entered_is) (record {
    history = with_entry s.history e;
    here = s.here;
    created = made ∙ s.created;
    fit = all_fit-push s.history e s.fit fits_history;
    state = state;
    facts_are = ap (λ (f : StreamFacts). facts_after f e) s.facts_are ∙ sym (facts-push s.history e);
    name_is = ap (λ (c : Config). c.name) state.limits ∙ (name_stays s.history e fits_history ∙ (sym (ap (λ (c : Config). c.name) s.state.limits) ∙ s.name_is));
    faultless = subst (λ (c : Config). config_fault c ≡ None) (sym state.limits) (faultless-entry s.history e (subst (λ (c : Config). config_fault c ≡ None) s.state.limits s.faultless) may.faultless);
  })

-- ---- the messages that go

-- how many go, by the counts before and after
abbrev pub gone_by : Option ℕ → ℕ → ℕ → ℕ
gone_by None before after = before - after
gone_by (Some seq) before after = before - (after - 1)

pub gone_none : (o : Option ℕ) (was now before after count : ℕ) → o ≡ None → before ≡ was → after ≡ now → gone_by o was now ≡ count → before - after ≡ count
gone_none None was now before after count none b a g = subst (λ (n : ℕ). n - after ≡ count) (sym b) (subst (λ (n : ℕ). was - n ≡ count) (sym a) g)
gone_none (Some seq) was now before after count none b a g = cc

pub gone_some : (o : Option ℕ) (seq was now before after count : ℕ) → o ≡ Some seq → before ≡ was → after ≡ now → gone_by o was now ≡ count → before - (after - 1) ≡ count
gone_some None seq was now before after count some b a g = cc
gone_some (Some n) seq was now before after count some b a g = subst (λ (k : ℕ). k - (after - 1) ≡ count) (sym b) (subst (λ (k : ℕ). was - (k - 1) ≡ count) (sym a) g)

part-gone : (rows changed : List Numbered) (c : Config) → IsPart changed rows → Rises 0 (seqs rows) → count_by (is_gone (limited c changed)) rows ≡ length rows - length (limited c changed)
part-gone rows changed c part rise =
    let counted : count_by (is_gone (limited c changed)) rows + length (limited c changed) ≡ length rows = count-part 0 (limited c changed) rows (part-trans (limited c changed) changed rows (part-limited c changed) part) rise in
    omega arith

gone-facts : (f : StreamFacts) (e : Entry) → Rises 0 (seqs f.rows) → EachRow (λ row. row.seq ≤ f.last) f.rows → FitsFacts f e → count_gone f e ≡ gone_by (stored_number e) (length f.rows) (length (facts_after f e).rows)
gone-facts f (Put number message mark) rise below fits =
    let row : Numbered = record { seq = number; message = message } in
    let out : List Numbered = limited f.config (f.rows ++ row ∷ []) in
    count-added 0 row f.rows out (part-limited f.config (f.rows ++ row ∷ [])) (ends-limited f.config row f.rows) (rises-push 0 f.last f.rows row (omega arith) fits.0 below rise)
gone-facts f (Del number) rise below fits = part-gone f.rows (changed_rows f.config (Del number) f.rows) f.config (part-filter _ f.rows) rise
gone-facts f (Purge pattern end) rise below fits = part-gone f.rows (changed_rows f.config (Purge pattern end) f.rows) f.config (part-filter _ f.rows) rise
gone-facts f (Expire now) rise below fits = part-gone f.rows (changed_rows f.config (Expire now) f.rows) f.config (part-filter _ f.rows) rise
gone-facts f (Bind index incarnation start) rise below fits = part-gone f.rows f.rows f.config (part-refl f.rows) rise
gone-facts f (Limits config) rise below fits = part-gone f.rows f.rows config (part-refl f.rows) rise

module _ (name : List ℕ) (old : Standing) (e : Entry) (known : NameFacts) (s : IsStreamOf name old known) (may : MayChangeIn e known) where
  rows-known : known.stream.rows ≡ kept s.history
  rows-known = ap (λ (f : StreamFacts). f.rows) s.facts_are ∙ (facts-tell s.history).rows

  last-known : known.stream.last ≡ last s.history.entries
  last-known = ap (λ (f : StreamFacts). f.last) s.facts_are ∙ (facts-tell s.history).last

  rows-after : (facts_after known.stream e).rows ≡ kept (with_entry s.history e)
  rows-after = ap (λ (f : StreamFacts). (facts_after f e).rows) s.facts_are ∙ (ap (λ (f : StreamFacts). f.rows) (sym (facts-push s.history e)) ∙ (facts-tell (with_entry s.history e)).rows)

  rise-known : Rises 0 (seqs known.stream.rows)
  rise-known = subst (λ (l : List Numbered). Rises 0 (seqs l)) (sym rows-known) (kept-rises s.history (all_fit-rise s.history s.fit))

  below-known : EachRow (λ row. row.seq ≤ known.stream.last) known.stream.rows
  below-known = subst (λ (n : ℕ). EachRow (λ row. row.seq ≤ n) known.stream.rows) (sym last-known) (subst (λ (l : List Numbered). EachRow (λ row. row.seq ≤ last s.history.entries) l) (sym rows-known) (kept-below s.history))

  pub gone_after : (new : Standing) → StandsFor new.state (with_entry s.history e) → gone_by (stored_number e) (length old.state.held.rows) (length new.state.held.rows) ≡ count_gone known.stream e
  gone_after new state =
      let before : length old.state.held.rows ≡ length known.stream.rows = ap length (s.state.rows ∙ sym rows-known) in
      let now : length new.state.held.rows ≡ length (facts_after known.stream e).rows = ap length (state.rows ∙ sym rows-after) in
      ap (λ (n : ℕ). gone_by (stored_number e) n (length new.state.held.rows)) before
      ∙ (ap (λ (n : ℕ). gone_by (stored_number e) (length known.stream.rows) n) now
      ∙ sym (gone-facts known.stream e rise-known below-known may.fits))
