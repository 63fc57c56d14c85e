-- The beats of a stream's consumers, one after another.
use Rattle.std.proofs.Common.{◌≡◌, ℕ, ◌+◌, ◌<◌, Bool, true, false, cond, ◌&&◌, List, [], ◌∷◌, ◌++◌, map, take, length, get_or, Option, Some, None, refl, sym, ap, ◌∙◌, append_assoc, append-nil}
use Rattle.std.specs.Prelude.{flat_map, filter}
use Rattle.std.proofs.lemmas.List.{take_more, map-append}
use Rattle.std.proofs.lemmas.List.Elements.{filter-append}
use Rattle.std.proofs.lemmas.List.Concat.{flat_map-append}
use Rattle.js_wire.specs.declared.packet.Packet.{Packet}
use Rattle.push_consumer.specs.Progress.{ConsumerState, beat, beats, beat_at}
use Rattle.shard_machine.specs.Views.{View}
use Rattle.shard_machine.specs.Answers.{reads_stream, consumers_of, beats_of}

-- the beat of a consumer, where it is time
abbrev pub beats_in : ℕ → ConsumerState → List Packet
beats_in now c = listed (beat_at now c) where
  listed : Option Packet → List Packet
  listed None = []
  listed (Some packet) = packet ∷ []

-- as the answers of a shard name them
pub beats-are : (v : View) (now : ℕ) (name : List ℕ) → beats_of v now name ≡ flat_map (beats_in now) (consumers_of name v.consumers)
beats-are v now name = refl

beats-by : (now : ℕ) (c : ConsumerState) → beats_in now c ≡ cond (beats now c) (beat c ∷ []) []
beats-by now c = by (beats now c)
  where
    listed : Option Packet → List Packet
    listed None = []
    listed (Some packet) = packet ∷ []

    by : (b : Bool) → listed (cond b (Some (beat c)) None) ≡ cond b (beat c ∷ []) []
    by true = refl
    by false = refl

pub consumers-more : (name : List ℕ) (all : List ConsumerState) (i : ℕ) (c : ConsumerState) → i < length all → c ≡ get_or all i c → consumers_of name (take (i + 1) all) ≡ consumers_of name (take i all) ++ cond (reads_stream name c) (c ∷ []) []
consumers-more name all i c l at =
    ap (consumers_of name) (take_more all i c l ∙ ap (λ (x : ConsumerState). take i all ++ x ∷ []) (sym at)) ∙ filter-append (reads_stream name) (take i all) (c ∷ [])

-- one consumer more
pub beats-more : (now : ℕ) (name : List ℕ) (all : List ConsumerState) (i : ℕ) (c : ConsumerState) → i < length all → c ≡ get_or all i c
    → flat_map (beats_in now) (consumers_of name (take (i + 1) all)) ≡ flat_map (beats_in now) (consumers_of name (take i all)) ++ cond (reads_stream name c && beats now c) (beat c ∷ []) []
beats-more now name all i c l at =
    ap (flat_map (beats_in now)) (consumers-more name all i c l at)
    ∙ (flat_map-append (beats_in now) (consumers_of name (take i all)) (cond (reads_stream name c) (c ∷ []) [])
    ∙ ap (λ (r : List Packet). flat_map (beats_in now) (consumers_of name (take i all)) ++ r) (by (reads_stream name c) (beats-by now c)))
  where
    by : (b : Bool) → beats_in now c ≡ cond (beats now c) (beat c ∷ []) [] → flat_map (beats_in now) (cond b (c ∷ []) []) ≡ cond (b && beats now c) (beat c ∷ []) []
    by true e = append-nil (beats_in now c) ∙ e
    by false e = refl

-- ---- pumps

module _ (name : List ℕ) (all : List ConsumerState) (i : ℕ) (c : ConsumerState) (l : i < length all) (at : c ≡ get_or all i c) where
  -- one consumer of the stream more
  pub pump-one : (f : ConsumerState → List Packet) → reads_stream name c ≡ true → flat_map f (consumers_of name (take (i + 1) all)) ≡ flat_map f (consumers_of name (take i all)) ++ f c
  pump-one f e =
      ap (flat_map f) (consumers-more name all i c l at ∙ ap (λ b. consumers_of name (take i all) ++ cond b (c ∷ []) []) e)
      ∙ (flat_map-append f (consumers_of name (take i all)) (c ∷ []) ∙ ap (λ (r : List Packet). flat_map f (consumers_of name (take i all)) ++ r) (append-nil (f c)))

  pub change-one : (g : ConsumerState → ConsumerState) → reads_stream name c ≡ true → map g (consumers_of name (take (i + 1) all)) ≡ map g (consumers_of name (take i all)) ++ g c ∷ []
  change-one g e = ap (map g) (consumers-more name all i c l at ∙ ap (λ b. consumers_of name (take i all) ++ cond b (c ∷ []) []) e) ∙ map-append g (consumers_of name (take i all)) (c ∷ [])

  -- one of another stream
  pub none-more : reads_stream name c ≡ false → consumers_of name (take (i + 1) all) ≡ consumers_of name (take i all)
  none-more e = consumers-more name all i c l at ∙ (ap (λ b. consumers_of name (take i all) ++ cond b (c ∷ []) []) e ∙ append-nil (consumers_of name (take i all)))
