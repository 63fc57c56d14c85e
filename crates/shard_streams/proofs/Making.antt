-- Places under names, streams that are made in them, and streams that go.
use Rattle.std.proofs.Common.{◌≡◌, ℕ, suc, ◌+◌, ◌<◌, ◌^◌, Bool, true, false, cond, List, [], Option, None, Some, is_some, IsSome, refl, sym, ap, ◌∙◌, subst, arith}
use Rattle.std.specs.Prelude.{option_map, OnOk, Result}
use Rattle.std.specs.BTreeMap.{BTreeMap}
use Rattle.std.specs.Global.{Vec}
use Rattle.std.proofs.lemmas.Result.{on_ok_weaker}
use Rattle.std.specs.FinMap.{get}
use Rattle.std.specs.Cmp.Lexicographic.{bytes_decides}
use Rattle.stream_fold.specs.declared.config.Config.{Config}
use Rattle.stream_fold.specs.declared.entry.Entry.{Entry}
use Rattle.stream_fold.specs.Checking.{config_fault}
use Rattle.stream_fold.specs.Facts.{facts_after}
use Rattle.stream_fold.specs.Held.{StandsFor}
use Rattle.stream_fold.proofs.FactLemmas.{at_text}
use Rattle.record_codec.specs.declared.records.Rec.TheVariants.{Boot, Create, Remove, Of}
use Rattle.log_replay.specs.declared.replay.Known.{Known}
use Rattle.log_replay.specs.declared.replay.Replay.{Replay}
use Rattle.log_replay.specs.declared.replay.Standing.{Standing}
use Rattle.log_replay.specs.Replays.{found}
use Rattle.log_replay.proofs.MapSteps.{Puts}
use Rattle.shard_machine.specs.Images.{LogImage, MayChangeIn, MayFollowImage, NameFacts, Names, changed, count_of, entered, if_stands, just_made, live_in, next, removed}
use Rattle.shard_streams.specs.HeldImages.{HoldsImage, HoldsName, HoldsStream}
use Rattle.shard_streams.specs.Places.{HasPlaceFor, IsFree, MayTake}
use Rattle.shard_streams.proofs.Names.{at_name, changed_here, changed_others, counts_held, falls_known, none_known, same_name, stands_known, with_name}

-- ---- openings

pub boot_holds : (old new : Replay) (i : LogImage) (number : ℕ) → HoldsImage old i → new.boot ≡ number → new.names ≡ old.names → HoldsImage new (next i (Boot number))
boot_holds old new i number h boot_is same = record {
  boot_is = boot_is;
  holds = λ q. subst (λ (o : Option Known). HoldsName q o (get i.names q)) (sym (ap (found q) same)) (h.holds q);
}

-- ---- streams that go

removed_name : (name : List ℕ) (w v : Known) (o : Option NameFacts) → HoldsName name (Some w) o → v.incarnation ≡ w.incarnation → v.stream ≡ None → HoldsName name (Some v) (option_map removed o)
removed_name name w v None h same none = (same ∙ h.0, none)
removed_name name w v (Some known) h same none = (same ∙ h.0, subst (λ (s : Option Standing). HoldsStream name s (removed known)) (sym none) refl)

pub remove_holds : (old new : Replay) (i : LogImage) (name : List ℕ) (w v : Known)
    → HoldsImage old i
    → found name old.names ≡ Some w
    → new.boot ≡ old.boot
    → Puts name (Some v) old.names new.names
    → v.incarnation ≡ w.incarnation
    → v.stream ≡ None
    → HoldsImage new (next i (Remove name))
remove_holds old new i name w v h here b puts same none =
    with_name old new i (next i (Remove name)) name (Some v) h (b ∙ h.boot_is) puts
    (λ q apart. changed_others i.names name q removed apart)
    (subst (λ (o : Option NameFacts). HoldsName name (Some v) o) (sym (changed_here i.names name removed)) (removed_name name w v (get i.names name) (at_name old i name (Some w) h here) same none))

-- nothing goes where nothing is held
pub remove_none : (old new : Replay) (i : LogImage) (name : List ℕ) → HoldsImage old i → found name old.names ≡ None → new.boot ≡ old.boot → ((q : List ℕ) → found q new.names ≡ found q old.names) → HoldsImage new (next i (Remove name))
remove_none old new i name h here b same =
    let none : get i.names name ≡ None = none_known name (get i.names name) (at_name old i name None h here) in
    let names : changed name removed (get i.names name) i.names ≡ i.names = ap (λ (o : Option NameFacts). changed name removed o i.names) none in
    record {
      boot_is = b ∙ h.boot_is;
      holds = λ q. subst (λ (m : Names). HoldsName q (found q new.names) (get m q)) (sym names) (subst (λ (o : Option Known). HoldsName q o (get i.names q)) (sym (same q)) (h.holds q));
    }

-- ---- streams that are made

made_name : (i : LogImage) (w v : Known) (standing : Standing) (config : Config)
    → HoldsName config.name (Some w) (get i.names config.name)
    → v.incarnation ≡ w.incarnation + 1
    → v.stream ≡ Some standing
    → StandsFor standing.state (record { config = config; entries = [] })
    → config_fault config ≡ None
    → HoldsName config.name (Some v) (Some (just_made standing.created config (count_of (get i.names config.name))))
made_name i w v standing config h more stream state faultless =
    let count : w.incarnation ≡ count_of (get i.names config.name) = counts_held config.name w (get i.names config.name) h in
    let number : v.incarnation ≡ suc (count_of (get i.names config.name)) = omega arith in (
      number,
      subst (λ (s : Option Standing). HoldsStream config.name s (just_made standing.created config (count_of (get i.names config.name)))) (sym stream) (record {
        history = record { config = config; entries = [] };
        here = refl;
        created = refl;
        fit = tt;
        state = state;
        facts_are = refl;
        name_is = ap (λ (c : Config). c.name) state.limits;
        faultless = subst (λ (c : Config). config_fault c ≡ None) (sym state.limits) faultless;
      }),
    )

make_here : (old new : Replay) (i : LogImage) (w v : Known) (standing : Standing) (config : Config)
    → HoldsImage old i
    → found config.name old.names ≡ Some w
    → new.boot ≡ old.boot
    → Puts config.name (Some v) old.names new.names
    → v.incarnation ≡ w.incarnation + 1
    → v.stream ≡ Some standing
    → StandsFor standing.state (record { config = config; entries = [] })
    → MayFollowImage i (Create standing.created config)
    → HoldsImage new (next i (Create standing.created config))
make_here old new i w v standing config h here b puts more stream state may =
    let known : NameFacts = just_made standing.created config (count_of (get i.names config.name)) in
    with_name old new i (next i (Create standing.created config)) config.name (Some v) h (b ∙ h.boot_is) puts
    (λ q apart. at_text i.names config.name known q ∙ ap (λ (t : Bool). cond t (Some known) (get i.names q)) apart)
    (subst (λ (o : Option NameFacts). HoldsName config.name (Some v) o)
    (sym (at_text i.names config.name known config.name ∙ ap (λ (t : Bool). cond t (Some known) (get i.names config.name)) ((bytes_decides config.name config.name).1 refl)))
    (made_name i w v standing config (at_name old i config.name (Some w) h here) more stream state may.1.faultless))

pub make_holds : (old new : Replay) (i : LogImage) (name : List ℕ) (w v : Known) (standing : Standing) (config : Config)
    → HoldsImage old i
    → found name old.names ≡ Some w
    → new.boot ≡ old.boot
    → Puts name (Some v) old.names new.names
    → v.incarnation ≡ w.incarnation + 1
    → v.stream ≡ Some standing
    → config.name ≡ name
    → StandsFor standing.state (record { config = config; entries = [] })
    → MayFollowImage i (Create standing.created config)
    → HoldsImage new (next i (Create standing.created config))
make_holds old new i name w v standing config h here b puts more stream named state may =
    make_here old new i w v standing config h (ap (λ (n : List ℕ). found n old.names) named ∙ here) b
    (subst (λ (n : List ℕ). Puts n (Some v) old.names new.names) (sym named) puts) more stream state may

-- the incarnation has a successor of 64 bits
pub makes_room : (old : Replay) (i : LogImage) (name : List ℕ) (w : Known) (time : ℕ) (config : Config) → HoldsImage old i → found name old.names ≡ Some w → config.name ≡ name → MayFollowImage i (Create time config) → w.incarnation + 1 < 2 ^ 64
makes_room old i name w time config h here named may =
    let count : w.incarnation ≡ count_of (get i.names name) = counts_held name w (get i.names name) (at_name old i name (Some w) h here) in
    let number : count_of (get i.names name) + 1 < 2 ^ 63 = subst (λ (n : List ℕ). count_of (get i.names n) + 1 < 2 ^ 63) named may.1.number in
    omega arith

-- ---- places

none_some : {T : Type 0} (x : T) → None ≡ Some x → ⊥
none_some x e = cc

is_none_some : IsSome {T = NameFacts} None → ⊥
is_none_some h = let z : false ≡ true = h in cc

free-by : (name : List ℕ) (n : ℕ) (s : Option Standing) (o : Option NameFacts) → HoldsName name (Some (record { incarnation = n; stream = s })) o → if_stands o ≡ None → s ≡ None
free-by name n None o h free = refl
free-by name n (Some standing) None h free = h.1
free-by name n (Some standing) (Some known) h free = absurd (none_some known (sym free ∙ stands_known known h.1.here))

-- nothing is held in the place of a stream where none stands
pub free_place : (i : LogImage) (name : List ℕ) (w : Known) → HoldsName name (Some w) (get i.names name) → live_in i name ≡ None → w.stream ≡ None
free_place i name w h free = free-by name w.incarnation w.stream (get i.names name) h free

taken-by : (name : List ℕ) (n : ℕ) (s : Option Standing) (o : Option NameFacts) → HoldsName name (Some (record { incarnation = n; stream = s })) o → IsSome (if_stands o) → IsSome s
taken-by name n (Some standing) o h some = refl
taken-by name n None None h some = absurd (is_none_some some)
taken-by name n None (Some known) h some = absurd (is_none_some (subst (λ (x : Option NameFacts). IsSome x) (falls_known known h.1) some))

-- a stream is held where one stands
pub taken_place : (i : LogImage) (name : List ℕ) (w : Known) → HoldsName name (Some w) (get i.names name) → IsSome (live_in i name) → IsSome w.stream
taken_place i name w h some = taken-by name w.incarnation w.stream (get i.names name) h some

-- a place that is held has no stream where none stands
pub free_found : (old : Replay) (i : LogImage) (name : List ℕ) → HoldsImage old i → live_in i name ≡ None → is_some (found name old.names) ≡ true → IsFree (found name old.names)
free_found old i name h free some = by (found name old.names) refl some
  where
    by : (o : Option Known) → found name old.names ≡ o → is_some o ≡ true → IsFree o
    by None here s = let z : false ≡ true = s in cc
    by (Some w) here s = free_place i name w (at_name old i name (Some w) h here) free

pub none_held : (o : Option Known) → is_some o ≡ false → o ≡ None
none_held None e = refl
none_held (Some w) e = let z : true ≡ false = e in cc

new_name : (name : List ℕ) (v : Known) (o : Option NameFacts) → HoldsName name None o → v.incarnation ≡ 0 → v.stream ≡ None → HoldsName name (Some v) o
new_name name v None h none gone = (none, gone)
new_name name v (Some known) h none gone = absurd h

-- a place is made
pub place_holds : (old new : Replay) (i : LogImage) (name : List ℕ) (v : Known)
    → HoldsImage old i
    → found name old.names ≡ None
    → new.boot ≡ old.boot
    → Puts name (Some v) old.names new.names
    → v.incarnation ≡ 0
    → v.stream ≡ None
    → HoldsImage new i
place_holds old new i name v h here b puts none gone = same_name old new i name (Some v) h b puts (new_name name v (get i.names name) (at_name old i name None h here) none gone)

kept_name : (name : List ℕ) (w v : Known) (o : Option NameFacts) → HoldsName name (Some w) o → v.incarnation ≡ w.incarnation → ((n : List ℕ) (f : NameFacts) → HoldsStream n w.stream f → HoldsStream n v.stream f) → (w.stream ≡ None → v.stream ≡ None)
    → HoldsName name (Some v) o
kept_name name w v None h same stays none = (same ∙ h.0, none h.1)
kept_name name w v (Some known) h same stays none = (same ∙ h.0, stays name known h.1)

-- a stream takes memory, and stands for the same history
pub keep_holds : (old new : Replay) (i : LogImage) (name : List ℕ) (w v : Known)
    → HoldsImage old i
    → found name old.names ≡ Some w
    → new.boot ≡ old.boot
    → Puts name (Some v) old.names new.names
    → v.incarnation ≡ w.incarnation
    → ((n : List ℕ) (f : NameFacts) → HoldsStream n w.stream f → HoldsStream n v.stream f)
    → (w.stream ≡ None → v.stream ≡ None)
    → HoldsImage new i
keep_holds old new i name w v h here b puts same stays none = same_name old new i name (Some v) h b puts (kept_name name w v (get i.names name) (at_name old i name (Some w) h here) same stays none)

-- what is held under a name that was put there
pub placed : (name : List ℕ) (w : Option Known) (old new : BTreeMap (Vec ℕ) Known) → Puts name w old new → found name new ≡ w
placed name w old new puts = puts name ∙ ap (λ (b : Bool). cond b w (found name old)) ((bytes_decides name name).1 refl)

-- the stream may take the entry for which it took memory
pub takes_place : {T E : Type 0} (i : LogImage) (name : List ℕ) (old : Replay) (names : BTreeMap (Vec ℕ) Known) (w v : Known) (e : Entry) (r : Result T E)
    → HoldsImage old i
    → found name old.names ≡ Some w
    → IsSome (live_in i name)
    → Puts name (Some v) old.names names
    → OnOk r (IsSome w.stream → HasPlaceFor e v.stream)
    → OnOk r (MayTake e (found name names))
takes_place i name old names w v e r h here lives puts ok =
    let now : found name names ≡ Some v = placed name (Some v) old.names names puts in
    on_ok_weaker r (λ (place : IsSome w.stream → HasPlaceFor e v.stream). subst (λ (o : Option Known). MayTake e o) (sym now) (place (taken_place i name w (at_name old i name (Some w) h here) lives))) ok

-- nothing changes
pub found_same : (old new : Replay) (i : LogImage) → HoldsImage old i → new.boot ≡ old.boot → ((q : List ℕ) → found q new.names ≡ found q old.names) → HoldsImage new i
found_same old new i h b same = record {
  boot_is = b ∙ h.boot_is;
  holds = λ q. subst (λ (o : Option Known). HoldsName q o (get i.names q)) (sym (same q)) (h.holds q);
}

-- ---- entries

some_same : (x y : NameFacts) → Some x ≡ Some y → x ≡ y
some_same x y e = cc

-- the entry may come next in the stream that stands
pub may_change : (i : LogImage) (name : List ℕ) (e : Entry) (known : NameFacts) → MayFollowImage i (Of name e) → live_in i name ≡ Some known → MayChangeIn e known
may_change i name e known may lives = subst (λ (k : NameFacts). MayChangeIn e k) (some_same may.1 known (sym may.2 ∙ lives)) may.3

live-get : (o : Option NameFacts) (known : NameFacts) → if_stands o ≡ Some known → o ≡ Some known
live-get None known e = e
live-get (Some k) known e = by k.stands e
  where
    by : (b : Bool) → cond b (Some k) None ≡ Some known → Some k ≡ Some known
    by true q = q
    by false q = absurd (none_some known q)

-- what is known of a stream that stands
pub live_get : (i : LogImage) (name : List ℕ) (known : NameFacts) → live_in i name ≡ Some known → get i.names name ≡ Some known
live_get i name known e = live-get (get i.names name) known e

entered_count : (e : Entry) (known : NameFacts) → (entered e known).incarnation ≡ known.incarnation
entered_count e known = by known.stands
  where
    by : (b : Bool) → (cond b (record { created = known.created; incarnation = known.incarnation; stands = known.stands; stream = facts_after known.stream e }) known).incarnation ≡ known.incarnation
    by true = refl
    by false = refl

-- what the stream that is held knows
pub held_of : (old : Replay) (i : LogImage) (name : List ℕ) (w : Known) (known : NameFacts) → HoldsImage old i → found name old.names ≡ Some w → live_in i name ≡ Some known → HoldsName name (Some w) (Some known)
held_of old i name w known h here lives = subst (λ (o : Option NameFacts). HoldsName name (Some w) o) (live_get i name known lives) (at_name old i name (Some w) h here)

pub take_holds : (old new : Replay) (i : LogImage) (name : List ℕ) (w v : Known) (e : Entry)
    → HoldsImage old i
    → found name old.names ≡ Some w
    → new.boot ≡ old.boot
    → Puts name (Some v) old.names new.names
    → v.incarnation ≡ w.incarnation
    → ((n : List ℕ) (f : NameFacts) → HoldsStream n w.stream f → MayChangeIn e f → HoldsStream n v.stream (entered e f))
    → MayFollowImage i (Of name e)
    → HoldsImage new (next i (Of name e))
take_holds old new i name w v e h here b puts same takes may =
    let held : HoldsName name (Some w) (Some may.1) = held_of old i name w may.1 h here may.2 in
    with_name old new i (next i (Of name e)) name (Some v) h (b ∙ h.boot_is) puts
    (λ q apart. changed_others i.names name q (entered e) apart)
    (subst (λ (o : Option NameFacts). HoldsName name (Some v) o)
    (sym (changed_here i.names name (entered e) ∙ ap (option_map (entered e)) (live_get i name may.1 may.2)))
    (same ∙ (held.0 ∙ sym (entered_count e may.1)), takes name may.1 held.1 may.3))
