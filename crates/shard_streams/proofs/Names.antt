-- What is held under a name, and a change of what is held there.
use Rattle.std.proofs.Common.{◌≡◌, ℕ, Bool, true, false, cond, List, Option, None, Some, refl, sym, ap, ◌∙◌, subst}
use Rattle.std.specs.Prelude.{option_map}
use Rattle.std.specs.FinMap.{get}
use Rattle.std.specs.Cmp.Lexicographic.{bytes_decides}
use Rattle.std.specs.Str.{bytes_eq}
use Rattle.stream_fold.proofs.FactLemmas.{at_text}
use Rattle.log_replay.specs.declared.replay.Known.{Known}
use Rattle.log_replay.specs.declared.replay.Replay.{Replay}
use Rattle.log_replay.specs.declared.replay.Standing.{Standing}
use Rattle.log_replay.specs.Replays.{found}
use Rattle.log_replay.proofs.MapSteps.{Puts}
use Rattle.shard_machine.specs.Images.{LogImage, NameFacts, Names, changed, count_of, if_stands, incarnation_in, live_in}
use Rattle.shard_streams.specs.HeldImages.{HoldsImage, HoldsName, IsStreamOf, ShowsLive}

-- ---- what is held of a name

pub at_name : (replay : Replay) (i : LogImage) (name : List ℕ) (o : Option Known) → HoldsImage replay i → found name replay.names ≡ o → HoldsName name o (get i.names name)
at_name replay i name o h e = subst (λ (x : Option Known). HoldsName name x (get i.names name)) e (h.holds name)

-- nothing is known where nothing is held
pub none_known : (name : List ℕ) (o : Option NameFacts) → HoldsName name None o → o ≡ None
none_known name None h = refl
none_known name (Some known) h = absurd h

pub none_lives : (i : LogImage) (name : List ℕ) → HoldsName name None (get i.names name) → live_in i name ≡ None
none_lives i name h = ap if_stands (none_known name (get i.names name) h)

pub none_counts : (i : LogImage) (name : List ℕ) → HoldsName name None (get i.names name) → 0 ≡ incarnation_in i name
none_counts i name h = sym (ap count_of (none_known name (get i.names name) h))

-- the incarnation that is held is the one that is known
pub counts_held : (name : List ℕ) (held : Known) (o : Option NameFacts) → HoldsName name (Some held) o → held.incarnation ≡ count_of o
counts_held name held None h = h.0
counts_held name held (Some known) h = h.0

none_is_some : (standing : Standing) → Some standing ≡ None → ⊥
none_is_some standing e = cc

-- what stands by what is known of the name
abbrev pub Shows : List ℕ → Option NameFacts → Option Standing → Type 0
Shows name o None = if_stands o ≡ None
Shows name o (Some standing) = (known : NameFacts) × (if_stands o ≡ Some known) × IsStreamOf name standing known

pub stands_known : (known : NameFacts) → known.stands ≡ true → if_stands (Some known) ≡ Some known
stands_known known e = ap (λ (b : Bool). cond b (Some known) None) e

pub falls_known : (known : NameFacts) → known.stands ≡ false → if_stands (Some known) ≡ None
falls_known known e = ap (λ (b : Bool). cond b (Some known) None) e

shown : (name : List ℕ) (n : ℕ) (s : Option Standing) (o : Option NameFacts) → HoldsName name (Some (record { incarnation = n; stream = s })) o → Shows name o s
shown name n None None h = refl
shown name n (Some standing) None h = absurd (none_is_some standing h.1)
shown name n None (Some known) h = falls_known known h.1
shown name n (Some standing) (Some known) h = (known, stands_known known h.1.here, h.1)

-- the stream that is held is the one that stands
pub shows_live : (i : LogImage) (name : List ℕ) (held : Known) → HoldsName name (Some held) (get i.names name) → ShowsLive i name held.stream
shows_live i name held h = by held.stream (shown name held.incarnation held.stream (get i.names name) h)
  where
    by : (s : Option Standing) → Shows name (get i.names name) s → ShowsLive i name s
    by None k = k
    by (Some standing) k = k

-- ---- a change under one name

-- what is held under one name changes as the image does, and under each other name both stay
pub with_name : (old new : Replay) (i j : LogImage) (name : List ℕ) (w : Option Known)
    → HoldsImage old i
    → new.boot ≡ j.boot
    → Puts name w old.names new.names
    → ((q : List ℕ) → bytes_eq name q ≡ false → get j.names q ≡ get i.names q)
    → HoldsName name w (get j.names name)
    → HoldsImage new j
with_name old new i j name w h boot_is puts leaves here = record {
  boot_is = boot_is;
  holds = λ q. subst (λ (o : Option Known). HoldsName q o (get j.names q)) (sym (puts q)) (at q (bytes_eq name q) refl);
}
  where
    at : (q : List ℕ) (b : Bool) → bytes_eq name q ≡ b → HoldsName q (cond b w (found q old.names)) (get j.names q)
    at q true same = subst (λ (p : List ℕ). HoldsName p w (get j.names p)) ((bytes_decides name q).0 same) here
    at q false apart = subst (λ (o : Option NameFacts). HoldsName q (found q old.names) o) (sym (leaves q apart)) (h.holds q)

-- what is held under one name changes, and says the same
pub same_name : (old new : Replay) (i : LogImage) (name : List ℕ) (w : Option Known) → HoldsImage old i → new.boot ≡ old.boot → Puts name w old.names new.names → HoldsName name w (get i.names name) → HoldsImage new i
same_name old new i name w h boot_is puts here = with_name old new i i name w h (boot_is ∙ h.boot_is) puts (λ q apart. refl) here

-- what is held under the name itself
pub put_here : (old new : Replay) (name : List ℕ) (w : Option Known) → Puts name w old.names new.names → found name new.names ≡ w
put_here old new name w puts = puts name ∙ ap (λ (b : Bool). cond b w (found name old.names)) ((bytes_decides name name).1 refl)

-- ---- what is known of a name after a change

changed-at : (names : Names) (name q : List ℕ) (f : NameFacts → NameFacts) (o : Option NameFacts) (b : Bool) → get names name ≡ o → bytes_eq name q ≡ b
    → get (changed name f o names) q ≡ cond b (option_map f o) (get names q)
changed-at names name q f None true e same = ap (get names) (sym ((bytes_decides name q).0 same)) ∙ e
changed-at names name q f None false e apart = refl
changed-at names name q f (Some known) true e same = at_text names name (f known) q ∙ ap (λ (b : Bool). cond b (Some (f known)) (get names q)) same
changed-at names name q f (Some known) false e apart = at_text names name (f known) q ∙ ap (λ (b : Bool). cond b (Some (f known)) (get names q)) apart

pub changed_here : (names : Names) (name : List ℕ) (f : NameFacts → NameFacts) → get (changed name f (get names name) names) name ≡ option_map f (get names name)
changed_here names name f = changed-at names name name f (get names name) true refl ((bytes_decides name name).1 refl)

pub changed_others : (names : Names) (name q : List ℕ) (f : NameFacts → NameFacts) → bytes_eq name q ≡ false → get (changed name f (get names name) names) q ≡ get names q
changed_others names name q f apart = changed-at names name q f (get names name) false refl apart
