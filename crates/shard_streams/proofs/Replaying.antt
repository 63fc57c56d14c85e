-- What was replayed of a legal log holds the log's image.
use Rattle.std.proofs.Common.{◌≡◌, ℕ, Bool, true, false, cond, List, [], ◌∷◌, ◌++◌, length, Option, None, Some, refl, sym, ap, ◌∙◌, subst, append_assoc, append-nil}
use Rattle.std.specs.FinMap.{get}
use Rattle.std.specs.Cmp.Lexicographic.{bytes_decides}
use Rattle.std.specs.Str.{bytes_eq}
use Rattle.stream_fold.specs.declared.config.Config.{Config}
use Rattle.stream_fold.specs.declared.entry.Entry.{Entry}
use Rattle.stream_fold.specs.declared.entry.Entry.TheVariants.{Put, Del, Purge, Expire, Bind, Limits}
use Rattle.stream_fold.specs.Checking.{config_fault}
use Rattle.stream_fold.specs.Facts.{facts}
use Rattle.stream_fold.specs.Histories.{History, Folded, limits_after, stands, with_entry}
use Rattle.stream_fold.proofs.Folds.{stands-push}
use Rattle.record_codec.specs.declared.records.Rec.{Rec}
use Rattle.record_codec.specs.declared.records.Rec.TheVariants.{Boot, Create, Remove, Of}
use Rattle.log_replay.specs.declared.replay.Known.{Known}
use Rattle.log_replay.specs.declared.replay.Replay.{Replay}
use Rattle.log_replay.specs.declared.replay.Standing.{Standing}
use Rattle.log_replay.specs.Replays.{found, IsReplayOf, Knows, StandsAs, StandsIf}
use Rattle.log_replay.proofs.LogKnown.{one_live}
use Rattle.shard_machine.specs.Images.{NameFacts, image}
use Rattle.shard_machine.specs.Legal.{HasFaultless, IsLegal, MayAllFollow, MayFollow}
use Rattle.shard_machine.specs.Logs.{Made, Named, by_incarnation, live, named, named_after, recorded, to_last, with_change}
use Rattle.shard_machine.proofs.Images.{NameSays, Says, images-tell, name-says}
use Rattle.shard_machine.proofs.Legality.{legal-fit}
use Rattle.shard_machine.proofs.LogSteps.{latest-snoc, named_after-snoc, to_last-snoc}
use Rattle.shard_streams.specs.HeldImages.{HoldsImage, HoldsName, HoldsStream, IsStreamOf}

-- ---- configurations of streams that stand

-- the configuration in force is one that a stream may have
abbrev pub IsFaultless : History → Type 0
IsFaultless h = config_fault (stands h).limits ≡ None

faultless-limits : (c : Config) (e : Entry) → config_fault c ≡ None → HasFaultless e → config_fault (limits_after c e) ≡ None
faultless-limits c (Put seq message mark) was has = was
faultless-limits c (Del seq) was has = was
faultless-limits c (Purge pattern below) was has = was
faultless-limits c (Expire now) was has = was
faultless-limits c (Bind index incarnation start) was has = was
faultless-limits c (Limits config) was has = has

-- it stays one with an entry that a log may have
pub faultless-entry : (h : History) (e : Entry) → IsFaultless h → HasFaultless e → IsFaultless (with_entry h e)
faultless-entry h e was has = subst (λ (k : Folded). config_fault k.limits ≡ None) (sym (stands-push h e)) (faultless-limits (stands h).limits e was has)

-- the latest stream of a name, if it stands
abbrev latest_of : Named → Option Made
latest_of n = cond n.stands (by_incarnation n.made (length n.made)) None

-- each stream that stands has a configuration that it may have
abbrev pub AllFaultless : List Rec → Type 0
AllFaultless log = (name : List ℕ) (m : Made) → live log name ≡ Some m → IsFaultless m.history

same_made : (x y : Made) → Some x ≡ Some y → x ≡ y
same_made x y e = cc

none_made : (m : Made) → None ≡ Some m → ⊥
none_made m e = cc

latest_made : (ms earlier : List Made) (m : Made) → ms ≡ earlier ++ m ∷ [] → by_incarnation ms (length ms) ≡ Some m
latest_made ms earlier m e = ap (λ (l : List Made). by_incarnation l (length l)) e ∙ latest-snoc earlier m

faultless-create : (n : Named) (t : ℕ) (c : Config) (m : Made) (b : Bool) → config_fault c ≡ None → (latest_of n ≡ Some m → IsFaultless m.history)
    → latest_of (cond b (record { made = n.made ++ (record { created = t; history = record { config = c; entries = [] } }) ∷ []; stands = true }) n) ≡ Some m → IsFaultless m.history
faultless-create n t c m true has before here =
    let new : Made = record { created = t; history = record { config = c; entries = [] } } in
    subst (λ (k : Made). IsFaultless k.history) (same_made new m (sym (latest-snoc n.made new) ∙ here)) has
faultless-create n t c m false has before here = before here

faultless-remove : (n : Named) (m : Made) (b : Bool) → (latest_of n ≡ Some m → IsFaultless m.history) → latest_of (cond b (record { made = n.made; stands = false }) n) ≡ Some m → IsFaultless m.history
faultless-remove n m true before here = absurd (none_made m here)
faultless-remove n m false before here = before here

-- the streams of a name of which one stands
abbrev Parts : Named → Type 0
Parts n = (earlier : List Made) × (latest : Made) × (n.made ≡ earlier ++ latest ∷ [])

parts_of : (n : Named) (o : Option NameFacts) (made : Made) → NameSays n o → latest_of n ≡ Some made → Parts n
parts_of n None made says here = absurd (none_made made (sym (ap (λ (b : Bool). cond b (by_incarnation n.made (length n.made)) None) says.1) ∙ here))
parts_of n (Some f) made says here = (says.earlier, says.latest, says.are)

faultless-latest : (n : Named) (p : Parts n) (e : Entry) (made m : Made) (b : Bool) → IsFaultless made.history → HasFaultless e
    → cond b (by_incarnation n.made (length n.made)) None ≡ Some made
    → cond b (by_incarnation (to_last e n.made) (length (to_last e n.made))) None ≡ Some m
    → IsFaultless m.history
faultless-latest n p e made m true was has here is =
    let own : p.1 ≡ made = same_made p.1 made (sym (latest_made n.made p.0 p.1 p.2) ∙ here) in
    let now : with_change e p.1 ≡ m = same_made (with_change e p.1) m (sym (latest_made (to_last e n.made) p.0 (with_change e p.1) (ap (to_last e) p.2 ∙ to_last-snoc e p.0 p.1)) ∙ is) in
    subst (λ (k : Made). IsFaultless k.history) (ap (with_change e) (sym own) ∙ now) (faultless-entry made.history e was has)
faultless-latest n p e made m false was has here is = absurd (none_made made here)

faultless-change : (log : List Rec) (other name : List ℕ) (e : Entry) (m : Made) (b : Bool) → bytes_eq other name ≡ b → AllFaultless log → MayFollow log (Of other e)
    → latest_of (cond b (record { made = to_last e (named log name).made; stands = (named log name).stands }) (named log name)) ≡ Some m → IsFaultless m.history
faultless-change log other name e m true q all may here =
    let live_is : live log name ≡ Some may.1 = ap (live log) (sym ((bytes_decides other name).0 q)) ∙ may.2 in
    faultless-latest (named log name) (parts_of (named log name) (get (image log).names name) may.1 (name-says log name) live_is) e may.1 m (named log name).stands (all name may.1 live_is) may.3.faultless live_is here
faultless-change log other name e m false q all may here = all name m here

faultless-record : (log : List Rec) (r : Rec) (name : List ℕ) (m : Made) → AllFaultless log → MayFollow log r → latest_of (recorded name (named log name) r) ≡ Some m → IsFaultless m.history
faultless-record log (Boot number) name m all may here = all name m here
faultless-record log (Create t c) name m all may here = faultless-create (named log name) t c m (bytes_eq c.name name) may.1.faultless (all name m) here
faultless-record log (Remove other) name m all may here = faultless-remove (named log name) m (bytes_eq other name) (all name m) here
faultless-record log (Of other e) name m all may here = faultless-change log other name e m (bytes_eq other name) refl all may here

faultless-next : (log : List Rec) (r : Rec) → AllFaultless log → MayFollow log r → AllFaultless (log ++ r ∷ [])
faultless-next log r all may name m here = faultless-record log r name m all may (sym (ap latest_of (named_after-snoc name (record { made = []; stands = false }) log r)) ∙ here)

faultless-all : (log more : List Rec) → AllFaultless log → MayAllFollow log more → AllFaultless (log ++ more)
faultless-all log [] all may = subst AllFaultless (sym (append-nil log)) all
faultless-all log (r ∷ more) all may = subst AllFaultless (append_assoc log (r ∷ []) more) (faultless-all (log ++ r ∷ []) more (faultless-next log r all may.0) may.1)

none_faultless : AllFaultless []
unfolding named_after
none_faultless name m here = absurd (none_made m here)

-- in a legal log each stream that stands has a configuration that it may have
pub legal-faultless : (log : List Rec) → IsLegal log → AllFaultless log
legal-faultless log legal = faultless-all [] log none_faultless legal

-- ---- name by name

snoc_is_some : (ms : List Made) (m : Made) → [] ≡ ms ++ m ∷ [] → ⊥
snoc_is_some [] m e = cc
snoc_is_some (k ∷ ms) m e = let z : [] ≡ k ∷ (ms ++ m ∷ []) = e in cc

stands_apart : (b : Bool) → b ≡ false → b ≡ true → ⊥
stands_apart b e k = cc

no_stream : (name : List ℕ) (s : Option Standing) (n : Named) → n.stands ≡ false → StandsIf name s n → s ≡ None
no_stream name None n gone h = refl
no_stream name (Some standing) n gone h = absurd (stands_apart n.stands gone h.here)

module _ (log : List Rec) (legal : IsLegal log) (name : List ℕ) where
  -- the stream that stands
  stream-held : (standing : Standing) (f : NameFacts) → StandsAs name standing (named log name) → Says (named log name) f → IsStreamOf name standing f
  stream-held standing f h s =
      let same : s.latest ≡ h.latest = same_made s.latest h.latest (sym (latest_made (named log name).made s.earlier s.latest s.are) ∙ latest_made (named log name).made h.earlier h.latest h.are) in
      let lives : live log name ≡ Some h.latest = one_live log name standing h in
      record {
        history = h.latest.history;
        here = s.stands ∙ h.here;
        created = h.created ∙ (ap (λ (m : Made). m.created) (sym same) ∙ sym s.created);
        fit = legal-fit log name h.latest legal lives;
        state = h.state;
        facts_are = s.stream h.here ∙ ap (λ (m : Made). facts m.history) same;
        name_is = h.name_is;
        faultless = subst (λ (c : Config). config_fault c ≡ None) (sym h.state.limits) (legal-faultless log legal name h.latest lives);
      }

  if-held : (s : Option Standing) (f : NameFacts) → StandsIf name s (named log name) → Says (named log name) f → HoldsStream name s f
  if-held None f h says = says.stands ∙ h
  if-held (Some standing) f h says = stream-held standing f h says

  name-held : (o : Option Known) (p : Option NameFacts) → Knows name o (named log name) → NameSays (named log name) p → HoldsName name o p
  name-held None None k says = tt
  name-held None (Some f) k says = absurd (snoc_is_some says.earlier says.latest (sym k.0 ∙ says.are))
  name-held (Some held) None k says = (k.0 ∙ ap length says.0, no_stream name held.stream (named log name) says.1 k.1)
  name-held (Some held) (Some f) k says = (k.0 ∙ sym says.incarnation, if-held held.stream f k.1 says)

-- what was replayed of a legal log holds the log's image
pub replays-hold : (replay : Replay) (log : List Rec) → IsLegal log → IsReplayOf replay log → HoldsImage replay (image log)
replays-hold replay log legal is = record {
  boot_is = is.boot_is ∙ sym (images-tell log).boot;
  holds = λ name. name-held log legal name (found name replay.names) (get (image log).names name) (is.knows name) (name-says log name);
}
