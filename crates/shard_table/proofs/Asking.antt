-- Copies that ask, stream by stream, and beats that come before them.
use Rattle.std.proofs.Common.{◌≡◌, ℕ, ◌+◌, ◌<◌, List, [], ◌∷◌, ◌++◌, map, take, length, get_or, Option, Some, None, refl, sym, ap, ◌∙◌, subst, append_assoc, append-nil}
use Rattle.std.specs.Prelude.{flat_map}
use Rattle.std.specs.FinMap.{get}
use Rattle.std.proofs.lemmas.List.{take_more, map-append}
use Rattle.std.proofs.lemmas.List.Elements.{filter-append}
use Rattle.std.proofs.lemmas.List.Concat.{flat_map-append}
use Rattle.js_wire.specs.declared.packet.Packet.{Packet}
use Rattle.stream_fold.specs.Facts.{facts}
use Rattle.stream_fold.specs.Histories.{History}
use Rattle.replica_ask.specs.Askers.{AskerState, is_due}
use Rattle.std.specs.Str.{bytes_eq}
use Rattle.shard_machine.specs.Images.{NameFacts, live_in}
use Rattle.shard_machine.specs.Views.{View, Askers, Copy, ask_of, asker_of, asker_or_new, askers_of, asks_of, copies_of, copies_under, node_or}
use Rattle.shard_copies.specs.declared.chosen.Chosen.{Chosen}
use Rattle.shard_copies.specs.declared.chosen.Chosen.TheVariants as those
use Rattle.shard_copies.specs.Asked.{AskersState, AskingState, AreKept, Asks, HavePlaces, ShowsAskers, ShowsSame, asked_of, chosen, id_in}
use Rattle.shard_copies.specs.Standing.{ConsumersState}
use Rattle.shard_streams.specs.declared.streams.Streams.{Streams}
use Rattle.shard_streams.specs.HeldImages.{HoldsImage}
use Rattle.shard_table.specs.declared.table.Table.{Table}
use Rattle.shard_table.specs.Holding.{Holds}

-- ---- askers that look the same

pub same-self : (s : AskersState) → ShowsSame s s
same-self s = record { node = refl; boot = refl; each = λ stream index. refl }

-- askers that look the same show the same view
pub shows-same : (a b : AskersState) (v : View) (askers : Askers) → ShowsSame a b → ShowsAskers a v askers → ShowsAskers b v askers
shows-same a b v askers h k = record {
  node = h.node ∙ k.node;
  boot = h.boot ∙ k.boot;
  each = λ stream index.
      h.each stream index ∙ (k.each stream index
      ∙ (ap (λ (n : List ℕ). asker_or_new (record { node = n; stream = stream; index = index }) a.boot (get (askers_of askers stream) index)) (sym h.node)
      ∙ ap (λ (m : ℕ). asker_or_new (id_in b stream index) m (get (askers_of askers stream) index)) (sym h.boot)));
}

-- a table whose askers look the same holds the same view
pub holds-same : (old new : Table) (v : View) → new.streams ≡ old.streams → new.consumers ≡ old.consumers → ShowsSame old.askers new.askers → Holds old v → Holds new v
holds-same old new v streams consumers same h = record {
  streams = subst (λ (s : Streams). HoldsImage s.replay v.image) (sym streams) h.streams;
  boot = ap (λ (s : ConsumersState). s.boot) consumers ∙ h.boot;
  given = ap (λ (s : ConsumersState). s.given) consumers ∙ h.given;
  consumers = ap (λ (s : ConsumersState). s.all) consumers ∙ h.consumers;
  askers = shows-same old.askers new.askers v v.askers same h.askers;
}

-- ---- what is asked

pub asks-none : (a : AskingState) (v : View) (now : ℕ) → Asks a a v now []
asks-none a v now = record { packets = sym (append-nil a.packets); askers = sym (append-nil a.askers) }

asks-join : (a b d : AskingState) (v : View) (now : ℕ) (cs ds : List Copy) → Asks a b v now cs → Asks b d v now ds → Asks a d v now (cs ++ ds)
asks-join a b d v now cs ds h k = record {
  packets = k.packets ∙ (ap (λ (p : List Packet). p ++ map (ask_of v) ds) h.packets ∙ (append_assoc a.packets (map (ask_of v) cs) (map (ask_of v) ds) ∙ ap (λ (p : List Packet). a.packets ++ p) (sym (map-append (ask_of v) cs ds))));
  askers = k.askers ∙ (ap (λ (p : List AskerState). p ++ map (asked_of v now) ds) h.askers ∙ (append_assoc a.askers (map (asked_of v now) cs) (map (asked_of v now) ds) ∙ ap (λ (p : List AskerState). a.askers ++ p) (sym (map-append (asked_of v now) cs ds))));
}

chosen-append : (which : Chosen) (v : View) (now : ℕ) (cs ds : List Copy) → chosen which v now (cs ++ ds) ≡ chosen which v now cs ++ chosen which v now ds
chosen-append those.All v now cs ds = refl
chosen-append those.Due v now cs ds = filter-append (λ c. is_due now (asker_of v c).phase) cs ds
chosen-append (those.OfNode node) v now cs ds = filter-append (λ c. bytes_eq (node_or v.node c.want.node) node) cs ds

pub chosen-none : (which : Chosen) (v : View) (now : ℕ) → chosen which v now [] ≡ []
chosen-none those.All v now = refl
chosen-none those.Due v now = refl
chosen-none (those.OfNode node) v now = refl

-- what is listed for one name more
pub listed-more : {X : Type 0} (f : List ℕ → List X) (names : List (List ℕ)) (i : ℕ) (name : List ℕ) → i < length names → name ≡ get_or names i name → flat_map f (take (i + 1) names) ≡ flat_map f (take i names) ++ f name
listed-more f names i name l at =
    ap (flat_map f) (take_more names i name l ∙ ap (λ (n : List ℕ). take i names ++ n ∷ []) (sym at))
    ∙ (flat_map-append f (take i names) (name ∷ []) ∙ ap (λ r. flat_map f (take i names) ++ r) (append-nil (f name)))

-- before the first stream none asks
pub asks-start : (a : AskingState) (v : View) (now : ℕ) (which : Chosen) → Asks a a v now (chosen which v now [])
asks-start a v now which = subst (λ (cs : List Copy). Asks a a v now cs) (sym (chosen-none which v now)) (asks-none a v now)

-- the copies of one stream more ask
pub asks-more : (a b d : AskingState) (v : View) (now : ℕ) (which : Chosen) (names : List (List ℕ)) (i : ℕ) (name : List ℕ) → i < length names → name ≡ get_or names i name → Asks a b v now (chosen which v now (flat_map (copies_under v.image) (take i names)))
    → Asks b d v now (chosen which v now (copies_under v.image name)) → Asks a d v now (chosen which v now (flat_map (copies_under v.image) (take (i + 1) names)))
asks-more a b d v now which names i name l at h k =
    let before : List Copy = flat_map (copies_under v.image) (take i names) in
    let more : flat_map (copies_under v.image) (take (i + 1) names) ≡ before ++ copies_under v.image name = listed-more (copies_under v.image) names i name l at in
    subst (λ (cs : List Copy). Asks a d v now cs) (sym (ap (chosen which v now) more ∙ chosen-append which v now before (copies_under v.image name)))
    (asks-join a b d v now (chosen which v now before) (chosen which v now (copies_under v.image name)) h k)

-- the copies of a stream that stands are those of its facts
pub copies-live : (v : View) (name : List ℕ) (known : NameFacts) → live_in v.image name ≡ Some known → copies_under v.image name ≡ copies_of name known.stream
copies-live v name known is = ap copies_if is
  where
    copies_if : Option NameFacts → List Copy
    copies_if None = []
    copies_if (Some known) = copies_of name known.stream

-- a stream that doesn't stand has none
pub copies-gone : (v : View) (name : List ℕ) → live_in v.image name ≡ None → copies_under v.image name ≡ []
copies-gone v name is = ap copies_if is
  where
    copies_if : Option NameFacts → List Copy
    copies_if None = []
    copies_if (Some known) = copies_of name known.stream

-- the copies of a stream that stands, by its history
pub copies-facts : (v : View) (name : List ℕ) (known : NameFacts) (h : History) → live_in v.image name ≡ Some known → known.stream ≡ facts h → copies_under v.image name ≡ copies_of name (facts h)
copies-facts v name known h live is = copies-live v name known live ∙ ap (copies_of name) is

-- no copy of a stream that doesn't stand asks
pub asks-gone : (a : AskingState) (v : View) (now : ℕ) (which : Chosen) (name : List ℕ) → live_in v.image name ≡ None → Asks a a v now (chosen which v now (copies_under v.image name))
asks-gone a v now which name gone = subst (λ (cs : List Copy). Asks a a v now cs) (sym (ap (chosen which v now) (copies-gone v name gone) ∙ chosen-none which v now)) (asks-none a v now)

-- ---- what was asked

-- no copy asks yet, so that the askers have their places
pub kept-none : (s : AskersState) (a : AskingState) → a.askers ≡ [] → AreKept s a
kept-none s a none = subst (HavePlaces s.all) (sym none) tt

-- nothing was asked before
pub only-askers : (a b : AskingState) (v : View) (now : ℕ) (copies : List Copy) → a.askers ≡ [] → Asks a b v now copies → b.askers ≡ map (asked_of v now) copies
only-askers a b v now copies none h = h.askers ∙ ap (λ (l : List AskerState). l ++ map (asked_of v now) copies) none

-- the packets come behind the first ones
pub behind-first : (a b : AskingState) (v : View) (now : ℕ) (copies : List Copy) (first : List Packet) → a.packets ≡ first → Asks a b v now copies → b.packets ≡ first ++ asks_of v copies
behind-first a b v now copies first is h = h.packets ∙ ap (λ (l : List Packet). l ++ asks_of v copies) is
