-- What is held of a log, and what it says of the records that may follow.
use Rattle.std.proofs.Common.{◌≡◌, ℕ, ◌+◌, ◌<◌, ◌≤◌, ◌^◌, Bool, true, false, if◌then◌else◌, List, [], ◌∷◌, ◌++◌, length, Option, None, Some, is_some, IsSome, MatchBool, MatchOption, IfOk, Result, Ok, Err, inl, inr, refl, sym, ap, ◌∙◌, subst, arith}
use Rattle.std.proofs.lemmas.Bool.{cases_Bool}
use Rattle.std.proofs.lemmas.Slice.Eq.{bytes_eq-Decides}
use Rattle.std.specs.Str.{bytes_eq}
use Rattle.stream_fold.specs.declared.config.Config.{Config}
use Rattle.stream_fold.specs.declared.entry.Entry.{Entry}
use Rattle.stream_fold.specs.Checking.{config_fault}
use Rattle.stream_fold.specs.declared.entry.Entry.TheVariants.{Put, Del, Purge, Expire, Bind, Limits}
use Rattle.stream_fold.specs.Histories.{History, Folded, with_entry, stands, standing, after, limits_after}
use Rattle.stream_fold.specs.Fits.{Fits}
use Rattle.stream_fold.specs.Held.{Held, State, StandsFor, repeated_in}
use Rattle.stream_fold.specs.Copying.{binding_at, mark_in}
use Rattle.nats_text.specs.declared.fault.NoMemory.{NoMemory}
use Rattle.record_codec.specs.declared.records.Rec.{Rec}
use Rattle.record_codec.specs.declared.records.Rec.TheVariants.{Boot, Create, Remove, Of}
use Rattle.log_replay.specs.declared.replay.Known.{Known}
use Rattle.log_replay.specs.declared.replay.Standing.{Standing}
use Rattle.log_replay.specs.declared.replay.Replay.{Replay}
use Rattle.shard_machine.specs.Logs.{Made, Named, boot, boot_after, named, recorded, live, incarnation, with_change}
use Rattle.shard_machine.specs.Legal.{HasFaultless, MayChange}
use Rattle.log_replay.specs.Replays.{found, Knows, StandsAs, StandsIf, IsReplayOf, Takes}
use Rattle.shard_machine.proofs.LogSteps.{boot-snoc, named_after-snoc, latest-snoc, length-snoc, to_last-snoc}
use Rattle.log_replay.proofs.MapSteps.{Puts}

-- none stands
pub none_live : (log : List Rec) (name : List ℕ) → (named log name).stands ≡ false → live log name ≡ None
none_live log name gone = rw gone refl

-- the one that stands is the one that was made last
pub one_live : (log : List Rec) (name : List ℕ) (standing : Standing) → (s : StandsAs name standing (named log name)) → live log name ≡ Some s.latest
one_live log name standing s = rw (s.here, s.are) (latest-snoc s.earlier s.latest)

-- what is held of a name that has a stream, and of one that has none
pub some_live : (log : List Rec) (name : List ℕ) (o : Option Standing) → StandsIf name o (named log name) → true ≡ is_some o → IsSome (live log name)
some_live log name None s e = absurd (cc)
some_live log name (Some standing) s e = rw (one_live log name standing s) refl

pub nothing_live : (log : List Rec) (name : List ℕ) (o : Option Standing) → StandsIf name o (named log name) → false ≡ is_some o → live log name ≡ None
nothing_live log name None s e = none_live log name s
nothing_live log name (Some standing) s e = absurd (cc)

no_stream : (log : List Rec) (name : List ℕ) (o : Option Standing) → StandsIf name o (named log name) → live log name ≡ None → o ≡ None
no_stream log name None s gone = refl
no_stream log name (Some standing) s gone = let e = one_live log name standing s in absurd (cc)

-- what is held of a name that has no stream is what may be made next
pub next_fits : (log : List Rec) (name : List ℕ) (known : Known) (next : Option ℕ)
    → Knows name (Some known) (named log name)
    → MatchOption next (known.stream ≡ None → known.incarnation + 1 < 2 ^ 63 → ⊥) (λ n. (known.stream ≡ None) × (n ≡ known.incarnation + 1) × (n < 2 ^ 63))
    → MatchOption next (live log name ≡ None → incarnation log name + 1 < 2 ^ 63 → ⊥) (λ n. (live log name ≡ None) × (n ≡ incarnation log name + 1) × (n < 2 ^ 63))
next_fits log name known None k h = λ gone small. h (no_stream log name known.stream k.1 gone) (rw k.0 small)
next_fits log name known (Some n) k h = (nothing_live log name known.stream k.1 (rw h.0 refl), h.1 ∙ ap (λ (i : ℕ). i + 1) k.0, h.2)

-- a record leaves what the log says of any other name
abbrev pub LeavesOthers : List ℕ → Rec → Type 0
LeavesOthers name r = (q : List ℕ) (n : Named) → bytes_eq name q ≡ false → recorded q n r ≡ n

-- a record that changes what is held under one name
pub with_record : (old new : Replay) (log : List Rec) (r : Rec) (name : List ℕ) (w : Option Known)
    → IsReplayOf old log
    → new.boot ≡ boot_after (boot log) (r ∷ [])
    → Puts name w old.names new.names
    → LeavesOthers name r
    → Knows name w (recorded name (named log name) r)
    → IsReplayOf new (log ++ r ∷ [])
with_record old new log r name w is boot_is puts leaves knows = record {
  boot_is = boot_is ∙ sym (boot-snoc 0 log r);
  knows = λ q. rw (named_after-snoc q _ log r, puts q) (at q);
}
  where
    at : (q : List ℕ) → Knows q (if bytes_eq name q then w else found q old.names) (recorded q (named log q) r)
    at q = elim (cases_Bool (bytes_eq name q)) [
      | inl same ↦ rw same (subst (λ (p : List ℕ). Knows p w (recorded p (named log p) r)) ((bytes_eq-Decides name q).0 same) knows)
      | inr apart ↦ rw (apart, leaves q (named log q) apart) (is.knows q)
    ]

pub at_found : (replay : Replay) (log : List Rec) (name : List ℕ) (w : Option Known) → IsReplayOf replay log → found name replay.names ≡ w → Knows name w (named log name)
at_found replay log name w is e = subst (λ (o : Option Known). Knows name o (named log name)) e (is.knows name)

-- ---- openings

pub with_boot : (old new : Replay) (log : List Rec) (number : ℕ) → IsReplayOf old log → new.boot ≡ number → new.names ≡ old.names → IsReplayOf new (log ++ Boot number ∷ [])
unfolding boot_after
with_boot old new log number is b e = record {
  boot_is = b ∙ last;
  knows = λ q. rw (named_after-snoc q _ log (Boot number), e) (is.knows q);
}
  where
    last : number ≡ boot (log ++ Boot number ∷ [])
    last = sym (boot-snoc 0 log (Boot number))

-- ---- removals

eq_true : (name : List ℕ) → bytes_eq name name ≡ true
eq_true name = (bytes_eq-Decides name name).1 refl

pub none_some : (log : List Rec) (name : List ℕ) → live log name ≡ None → IsSome (live log name) → ⊥
none_some log name gone some = let e : is_some {T = Made} None ≡ true = rw gone at some in absurd (cc)

leaves_others-remove : (name : List ℕ) → LeavesOthers name (Remove name)
leaves_others-remove name q n apart = rw apart refl

pub takes_remove : (old new : Replay) (log : List Rec) (name : List ℕ) (w v : Known) (taken : Bool)
    → IsReplayOf old log
    → 1 ≤ boot log
    → found name old.names ≡ Some w
    → new.boot ≡ old.boot
    → Puts name (Some v) old.names new.names
    → v.stream ≡ None
    → v.incarnation ≡ w.incarnation
    → taken ≡ is_some w.stream
    → Takes log (Remove name) new (Ok taken)
unfolding boot_after
takes_remove old new log name w v true is begun here b puts none same stood = (
  (begun, some_live log name w.stream (at_found old log name (Some w) is here).1 stood),
  with_record old new log (Remove name) name (Some v) is (b ∙ is.boot_is) puts (leaves_others-remove name)
      (rw (eq_true name) (same ∙ (at_found old log name (Some w) is here).0, rw none refl)),
)
takes_remove old new log name w v false is begun here b puts none same stood =
    λ may. let gone = nothing_live log name w.stream (at_found old log name (Some w) is here).1 stood in none_some log name gone may.1

-- ---- creations

leaves_others-create : (time : ℕ) (config : Config) → LeavesOthers config.name (Create time config)
leaves_others-create time config q n apart = rw apart refl

pub takes_create : (old new : Replay) (log : List Rec) (time : ℕ) (config : Config) (n : ℕ) (state : State)
    → IsReplayOf old log
    → 1 ≤ boot log
    → config_fault config ≡ None
    → (live log config.name ≡ None) × (n ≡ incarnation log config.name + 1) × (n < 2 ^ 63)
    → StandsFor state (record { config = config; entries = [] })
    → new.boot ≡ old.boot
    → Puts config.name (Some (record { incarnation = n; stream = Some (record { created = time; state = state }) })) old.names new.names
    → Takes log (Create time config) new (Ok true)
unfolding boot_after
takes_create old new log time config n state is begun faultless next stands b puts = (
  (begun, record { free = next.0; faultless = faultless; number = rw (← next.1) next.2 }),
  with_record old new log (Create time config) config.name _ is (b ∙ is.boot_is) puts (leaves_others-create time config)
      (rw (eq_true config.name) (
        count,
        record {
          earlier = (named log config.name).made;
          latest = record { created = time; history = record { config = config; entries = [] } };
          are = refl;
          here = refl;
          created = refl;
          state = stands;
          name_is = ap (λ (c : Config). c.name) stands.limits;
        },
      )),
)
  where
    count : n ≡ length ((named log config.name).made ++ (record { created = time; history = record { config = config; entries = [] } }) ∷ [])
    count = rw length-snoc (let e = next.1 in omega arith)

-- ---- changes of a stream

standing-snoc : (k : Folded) (es : List Entry) (e : Entry) → standing k (es ++ e ∷ []) ≡ after (standing k es) e
standing-snoc k [] e = refl
standing-snoc k (x ∷ es) e = standing-snoc (after k x) es e

name_after : (h : History) (e : Entry) → Fits h e → (limits_after (stands h).limits e).name ≡ (stands h).limits.name
name_after h (Put number message mark) fits = refl
name_after h (Del number) fits = refl
name_after h (Purge pattern below) fits = refl
name_after h (Expire now) fits = refl
name_after h (Bind index incarnation start) fits = refl
name_after h (Limits config) fits = fits.name

-- an entry that fits leaves the name
keeps_name : (h : History) (e : Entry) → Fits h e → (stands (with_entry h e)).limits.name ≡ (stands h).limits.name
keeps_name h e fits = ap (λ (f : Folded). f.limits.name) (standing-snoc (record { limits = h.config; rows = [] }) h.entries e) ∙ name_after h e fits

-- a state in which the same is looked up stands for the same history
pub stands_still : (old new : State) (h : History) → new.held ≡ old.held → StandsFor old h → StandsFor new h
stands_still old new h same s = record {
  limits = ap (λ (k : Held). k.limits) same ∙ s.limits;
  window = ap (λ (k : Held). k.window) same ∙ s.window;
  rows = ap (λ (k : Held). k.rows) same ∙ s.rows;
  last = ap (λ (k : Held). k.last) same ∙ s.last;
  clock = ap (λ (k : Held). k.clock) same ∙ s.clock;
  bound = λ index. ap (λ (k : Held). binding_at index k.bindings) same ∙ s.bound index;
  marks = λ index. ap (λ (k : Held). mark_in index k.marks) same ∙ s.marks index;
  repeats = λ id now. ap (λ (k : Held). repeated_in k (Some id) now) same ∙ s.repeats id now;
}

-- what is held of a name that has a stream stands for a history
pub some_history : (log : List Rec) (name : List ℕ) (standing : Standing) → StandsAs name standing (named log name) → (h : History) × StandsFor standing.state h
some_history log name standing s = (s.latest.history, s.state)

-- an entry may come next and is taken, or it may not
abbrev pub Changes : History → Standing → Standing → Entry → Bool → Type 0
Changes h old new entry taken = MatchBool taken
    (Fits h entry × HasFaultless entry × (new.created ≡ old.created) × StandsFor new.state (with_entry h entry))
    (Fits h entry → HasFaultless entry → ⊥)

-- an entry may come next in the stream that stands under the name and is taken, or it may not
abbrev pub ChangesKnown : List Rec → List ℕ → Known → Entry → Bool → Type 0
ChangesKnown log name new entry taken = MatchBool taken
    ((made : Made) × (live log name ≡ Some made) × MayChange entry made × Knows name (Some new) (named (log ++ Of name entry ∷ []) name))
    ((made : Made) → live log name ≡ Some made → MayChange entry made → ⊥)

changed : (log : List Rec) (name : List ℕ) (old new : Standing) (n : ℕ) (entry : Entry) → n ≡ length (named log name).made → (s : StandsAs name old (named log name))
    → Changes s.latest.history old new entry true → Knows name (Some (record { incarnation = n; stream = Some new })) (named (log ++ Of name entry ∷ []) name)
changed log name old new n entry count s did = rw (named_after-snoc name _ log (Of name entry), eq_true name, s.are) (
  rw (s.are, length-snoc) at count ∙ sym (ap length (to_last-snoc entry s.earlier s.latest) ∙ length-snoc s.earlier (with_change entry s.latest)),
  record {
    earlier = s.earlier;
    latest = with_change entry s.latest;
    are = to_last-snoc entry s.earlier s.latest;
    here = s.here;
    created = did.2 ∙ s.created;
    state = did.3;
    name_is = ap (λ (c : Config). c.name) did.3.limits ∙ keeps_name s.latest.history entry did.0 ∙ sym (ap (λ (c : Config). c.name) s.state.limits) ∙ s.name_is;
  },
)

change_known : (log : List Rec) (name : List ℕ) (old new : Standing) (n : ℕ) (entry : Entry) (taken : Bool) → n ≡ length (named log name).made → (s : StandsAs name old (named log name))
    → Changes s.latest.history old new entry taken → ChangesKnown log name (record { incarnation = n; stream = Some new }) entry taken
change_known log name old new n entry true count s did = (s.latest, one_live log name old s, record { fits = did.0; faultless = did.1 }, changed log name old new n entry count s did)
change_known log name old new n entry false count s did = λ made is may.
    let e : s.latest ≡ made = let one = one_live log name old s in cc in
    did (subst (λ (m : Made). Fits m.history entry) (sym e) may.fits) may.faultless

pub changes_known : (log : List Rec) (name : List ℕ) (old new : Standing) (n : ℕ) (entry : Entry) (result : Result Bool NoMemory) → n ≡ length (named log name).made → (s : StandsAs name old (named log name))
    → IfOk result (Changes s.latest.history old new entry) → IfOk result (ChangesKnown log name (record { incarnation = n; stream = Some new }) entry)
changes_known log name old new n entry (Ok taken) count s did = change_known log name old new n entry taken count s did
changes_known log name old new n entry (Err fault) count s did = tt

leaves_others-change : (name : List ℕ) (entry : Entry) → LeavesOthers name (Of name entry)
leaves_others-change name entry q n apart = rw apart refl

pub takes_change : (old new : Replay) (log : List Rec) (name : List ℕ) (w v : Known) (entry : Entry) (result : Result Bool NoMemory)
    → IsReplayOf old log
    → 1 ≤ boot log
    → found name old.names ≡ Some w
    → new.boot ≡ old.boot
    → Puts name (Some v) old.names new.names
    → ((l : List Rec) (q : List ℕ) → Knows q (Some w) (named l q) → IfOk result (ChangesKnown l q v entry))
    → Takes log (Of name entry) new result
unfolding boot_after
takes_change old new log name w v entry (Err fault) is begun here b puts did = tt
takes_change old new log name w v entry (Ok true) is begun here b puts did =
    let d : ChangesKnown log name v entry true = did log name (at_found old log name (Some w) is here) in (
      (begun, d.0, d.1, d.2),
      with_record old new log (Of name entry) name (Some v) is (b ∙ is.boot_is) puts (leaves_others-change name entry)
          (subst (λ (n : Named). Knows name (Some v) n) (named_after-snoc name _ log (Of name entry)) d.3),
    )
takes_change old new log name w v entry (Ok false) is begun here b puts did = λ may.
    did log name (at_found old log name (Some w) is here) may.1 may.2 may.3
