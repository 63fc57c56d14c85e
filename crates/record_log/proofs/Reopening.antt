-- For which logs two disks stand at each moment of an opening.
use Rattle.std.proofs.Common.{◌≡◌, ◌⊎◌, inl, inr, ⊎_elim, ℕ, ◌≤◌, true, false, List, [], ◌∷◌, length, refl, sym, ◌∙◌, ap, subst, arith}
use Rattle.std.proofs.lemmas.Bool.{cases_Bool}
use Rattle.std.proofs.lemmas.Slice.Eq.{bytes_eq-Decides}
use Rattle.std.specs.Prelude.{Bool, Option, None, Some}
use Rattle.std.specs.Str.{bytes_eq}
use Rattle.leaf_edges.specs.Disks.{Torn}
use Rattle.gate_journal.specs.Areas.{max_area}
use Rattle.gate_journal.specs.Journals.{JournalState, MayTear, new_area}
use Rattle.record_codec.specs.declared.records.Rec.{Rec}
use Rattle.record_log.specs.Standing.{as_loaded, StandIn, StandFor, EachStandsFor, SinceStandFor, SinceStandOrTorn, IsTornFormat}
use Rattle.record_log.specs.Stores.{StoreHolds}
use Rattle.record_log.specs.Serving.{IsFormatted, IsServed, Serves}
use Rattle.record_log.specs.Loading.{LeavesOrTears}
use Rattle.record_log.proofs.Areas.{held_whole}

-- disks that are read alike stand alike
stand_same : (a b a' b' : List ℕ) → as_loaded true a ≡ as_loaded true a' → as_loaded false b ≡ as_loaded false b' → (logs : List (List Rec)) → StandFor a b logs → StandFor a' b' logs
stand_same a b a' b' same same' [] stood = absurd stood
stand_same a b a' b' same same' (log ∷ logs) stood = ⊎_elim
    (λ (s : StandIn log a b). inl (record {
      short = (subst (λ (c : List ℕ). length c ≤ max_area) same s.short.0, subst (λ (c : List ℕ). length c ≤ max_area) same' s.short.1);
      holds = subst (λ (c : List ℕ). StoreHolds log c (Some (as_loaded false b'))) same (subst (λ (c : List ℕ). StoreHolds log (as_loaded true a) (Some c)) same' s.holds);
    }))
    (λ (rest : StandFor a b logs). inr (stand_same a b a' b' same same' logs rest))
    stood

module _ {D : Type 0} (moment : D → ℕ) (left_since : D → ℕ → List ℕ → Type 0) (seen : D → List ℕ) (images : D → List ℕ → Type 0) where
  -- whatever a crash left of an opened disk is read like something from before, or is a torn write of the new area
  settles : (seen_is : (d : D) → images d (seen d)) (counts_now : (d : D) (t : ℕ) (c : List ℕ) → t ≤ moment d → images d c → left_since d t c) (counts : Bool) (old new : D) → LeavesOrTears moment left_since seen images old new → (t : ℕ) (c : List ℕ) → t ≤ moment old → left_since new t c
      → ((was : List ℕ) × left_since old t was × (as_loaded counts was ≡ as_loaded counts c)) ⊎ IsTornFormat seen images counts old c
  settles seen_is counts_now counts old new run t c le left = ⊎_elim
      (λ (was : left_since old t c). inl (c, was, refl))
      (λ (torn : (seen old ≡ []) × MayTear (images old) 0 18 c). ⊎_elim
      (λ (now : images old c). inl (c, counts_now old t c le now, refl))
      (λ (tear : (d : List ℕ) × images old d × Torn 0 18 d c). elim (cases_Bool (bytes_eq (as_loaded counts c) (new_area counts))) [
        | inl same ↦ (let is : as_loaded counts c ≡ new_area counts = (bytes_eq-Decides (as_loaded counts c) (new_area counts)).0 same in
            inl ([], counts_now old t [] le (subst (λ (l : List ℕ). images old l) torn.0 (seen_is old)), sym is))
        | inr other ↦ inr (torn.0, (λ is. let wrong : true ≡ false = sym ((bytes_eq-Decides (as_loaded counts c) (new_area counts)).1 is) ∙ other in absurd (cc)), tear.0, tear.1, tear.2)
      ])
      torn.1)
      (run.1 t c le left)

  -- at each moment of an opening
  pub opened_moments : (seen_is : (d : D) → images d (seen d)) (counts_now : (d : D) (t : ℕ) (c : List ℕ) → t ≤ moment d → images d c → left_since d t c) (main spare main' spare' : D) → LeavesOrTears moment left_since seen images main main' → LeavesOrTears moment left_since seen images spare spare'
      → (t u : ℕ) (logs : List (List Rec)) → t ≤ moment main → u ≤ moment spare → SinceStandFor left_since t u main spare logs → SinceStandOrTorn seen images left_since t u main spare logs main' spare'
  opened_moments seen_is counts_now main spare main' spare' one two t u logs le le' since = λ a b la lb.
      elim (settles seen_is counts_now true main main' one t a le la) [
        | inr torn ↦ inr (inl torn)
        | inl was ↦ elim (settles seen_is counts_now false spare spare' two u b le' lb) [
          | inr torn ↦ inr (inr torn)
          | inl was' ↦ inl (stand_same was.0 was'.0 a b was.2 was'.2 logs (since was.0 was'.0 was.1 was'.1))
        ]
      ]

  module _ (seen_is : (d : D) → images d (seen d)) where
    -- a disk that is formatted isn't empty
    not_empty : (d : D) → IsFormatted images d → seen d ≡ [] → ⊥
    not_empty d long empty = omega (arith, long (seen d) (seen_is d), ap length empty)

    leaves_old : (d new : D) → IsFormatted images d → LeavesOrTears moment left_since seen images d new → (t : ℕ) (c : List ℕ) → t ≤ moment d → left_since new t c → left_since d t c
    leaves_old d new long run t c le left = ⊎_elim (λ was. was) (λ (torn : (seen d ≡ []) × MayTear (images d) 0 18 c). absurd (not_empty d long torn.0)) (run.1 t c le left)

    pub reopened_moments : (main spare main' spare' : D) → IsFormatted images main × IsFormatted images spare → LeavesOrTears moment left_since seen images main main' → LeavesOrTears moment left_since seen images spare spare'
        → (t u : ℕ) (logs : List (List Rec)) → t ≤ moment main → u ≤ moment spare → SinceStandFor left_since t u main spare logs → SinceStandFor left_since t u main' spare' logs
    reopened_moments main spare main' spare' long one two t u logs le le' since = λ a b la lb. since a b (leaves_old main main' long.0 one t a le la) (leaves_old spare spare' long.1 two u b le' lb)

    module _ (counts_now : (d : D) (t : ℕ) (c : List ℕ) → t ≤ moment d → images d c → left_since d t c) (only_now : (d : D) (c : List ℕ) → left_since d (moment d) c → images d c) where
      images_old : (d new : D) → IsFormatted images d → LeavesOrTears moment left_since seen images d new → (c : List ℕ) → images new c → images d c
      images_old d new long run c now = only_now d c (leaves_old d new long run (moment d) c (omega arith) (counts_now new (moment d) c run.0 now))

      pub reopened_now : (main spare main' spare' : D) → IsFormatted images main × IsFormatted images spare → LeavesOrTears moment left_since seen images main main' → LeavesOrTears moment left_since seen images spare spare'
          → (logs : List (List Rec)) → EachStandsFor images main spare logs → EachStandsFor images main' spare' logs
      reopened_now main spare main' spare' long one two logs stand = λ a b ia ib. stand a b (images_old main main' long.0 one a ia) (images_old spare spare' long.1 two b ib)

      pub still_formatted : (main spare main' spare' : D) → IsFormatted images main × IsFormatted images spare → LeavesOrTears moment left_since seen images main main' → LeavesOrTears moment left_since seen images spare spare' → IsFormatted images main' × IsFormatted images spare'
      still_formatted main spare main' spare' long one two = (λ c now. long.0 c (images_old main main' long.0 one c now), λ c now. long.1 c (images_old spare spare' long.1 two c now))

-- the disks of a log, open or not, are formatted
served_formatted : {D : Type 0} (images : D → List ℕ → Type 0) (o : Bool) (main spare : D) (j : JournalState) → IsServed images main spare o j → IsFormatted images main × IsFormatted images spare
served_formatted images false main spare j s = (λ c now. let h = held_whole j.generation s.bodies c (s.stands.each c now) in h.long, λ c now. let z = s.other c now in z.1.long)
served_formatted images true main spare j s = (λ c now. let z = s.other c now in z.1.long, λ c now. let h = held_whole j.generation s.bodies c (s.stands.each c now) in h.long)

pub serves_formatted : {D : Type 0} (tells : Type 0) (images : D → List ℕ → Type 0) (o : Bool) (main spare : D) (j : Option JournalState) → Serves tells images main spare o j → tells → IsFormatted images main × IsFormatted images spare
serves_formatted tells images o main spare None s t = s t
serves_formatted tells images o main spare (Some j) s t = served_formatted images o main spare j (s t)
