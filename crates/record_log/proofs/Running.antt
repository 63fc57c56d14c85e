-- For which logs two disks stand at each moment of an append.
use Rattle.std.proofs.Common.{◌≡◌, ◌⊎◌, inl, inr, ⊎_elim, ℕ, ◌≤◌, true, false, List, [], ◌∷◌, ◌++◌, length, sym, subst, arith}
use Rattle.std.specs.Prelude.{Bool, Ok}
use Rattle.leaf_edges.specs.Disks.{LeavesOnly}
use Rattle.gate_journal.specs.Areas.{max_area, IsArea}
use Rattle.gate_journal.specs.Journals.{IsBeforeOrAfter}
use Rattle.record_codec.specs.declared.records.Rec.{Rec}
use Rattle.record_codec.specs.Reading.{reading}
use Rattle.shard_machine.specs.Legal.{IsLogOf, MayFollow}
use Rattle.record_log.specs.LogStates.{in_use}
use Rattle.record_log.specs.Standing.{StandIn, StandFor, EachStandsFor, SinceStandFor}
use Rattle.record_log.specs.Serving.{IsPassedOver, IsFormatted}
use Rattle.record_log.proofs.Areas.{held_whole}
use Rattle.record_log.proofs.Growing.{log_of-push, lifted, main_grows, spare_grows, main_stands, spare_stands, main_log, spare_log}

-- two disks that stand for one log
pub stand_alone : (log : List Rec) (a b : List ℕ) → StandFor a b (log ∷ []) → StandIn log a b
stand_alone log a b s = ⊎_elim (λ (t : StandIn log a b). t) absurd s

both_same : {A : Type 0} → A ⊎ A → A
both_same {A} e = ⊎_elim (λ (t : A). t) (λ (t : A). t) e

-- at each moment two disks stand for one of the logs, but for pairs of which one is set apart
abbrev pub SinceBut : {D : Type 0} → (D → ℕ → List ℕ → Type 0) → ℕ → ℕ → D → D → (List ℕ → Type 0) → (List ℕ → Type 0) → List (List Rec) → Type 0
SinceBut left_since t u main spare P Q logs = (a b : List ℕ) → left_since main t a → left_since spare u b → StandFor a b logs ⊎ (P a ⊎ Q b)

beside : (a b : List ℕ) (P Q : List ℕ → Type 0) (log : List Rec) (logs : List (List Rec)) → StandFor a b logs ⊎ (P a ⊎ Q b) → StandFor a b (log ∷ logs) ⊎ (P a ⊎ Q b)
beside a b P Q log logs (inl stood) = inl (inr stood)
beside a b P Q log logs (inr apart) = inr apart

apart_main : (s a b : List ℕ) (P Q : List ℕ → Type 0) (logs logs' : List (List Rec)) → (P s → ⊥) → (StandFor s b logs → StandFor a b logs') → StandFor s b logs ⊎ (P s ⊎ Q b) → StandFor a b logs' ⊎ (P a ⊎ Q b)
apart_main s a b P Q logs logs' apart grows (inl stood) = inl (grows stood)
apart_main s a b P Q logs logs' apart grows (inr (inl p)) = absurd (apart p)
apart_main s a b P Q logs logs' apart grows (inr (inr q)) = inr (inr q)

apart_spare : (a s b : List ℕ) (P Q : List ℕ → Type 0) (logs logs' : List (List Rec)) → (Q s → ⊥) → (StandFor a s logs → StandFor a b logs') → StandFor a s logs ⊎ (P a ⊎ Q s) → StandFor a b logs' ⊎ (P a ⊎ Q b)
apart_spare a s b P Q logs logs' apart grows (inl stood) = inl (grows stood)
apart_spare a s b P Q logs logs' apart grows (inr (inl p)) = inr (inl p)
apart_spare a s b P Q logs logs' apart grows (inr (inr q)) = absurd (apart q)

none_apart : (a b : List ℕ) (logs : List (List Rec)) → StandFor a b logs ⊎ (⊥ ⊎ ⊥) → StandFor a b logs
none_apart a b logs (inl stood) = stood
none_apart a b logs (inr (inl p)) = absurd p
none_apart a b logs (inr (inr q)) = absurd q

module _ {D : Type 0} (moment : D → ℕ) (left_since : D → ℕ → List ℕ → Type 0) (seen : D → List ℕ) (images : D → List ℕ → Type 0)
    (seen_is : (d : D) → images d (seen d)) (counts_now : (d : D) (t : ℕ) (c : List ℕ) → t ≤ moment d → images d c → left_since d t c) (only_now : (d : D) (c : List ℕ) → left_since d (moment d) c → images d c)
    (g : ℕ) (bs : List (List ℕ)) where
  -- the log for which the disks stand is that of the journal's bodies
  pub log_of_journal : (o : Bool) (main spare : D) → ((c : List ℕ) → images (in_use o main spare) c → IsArea true g bs c) → IsPassedOver images o g (in_use o spare main) → (log : List Rec) → EachStandsFor images main spare (log ∷ []) → IsLogOf log bs
  log_of_journal false main spare each other log stand =
      let z = other (seen spare) (seen_is spare) in
      main_log g bs (seen main) (seen spare) z.0 (each (seen main) (seen_is main)) z.1 z.2 log (stand_alone log (seen main) (seen spare) (stand (seen main) (seen spare) (seen_is main) (seen_is spare)))
  log_of_journal true main spare each other log stand =
      let z = other (seen main) (seen_is main) in
      spare_log g bs (seen main) (seen spare) z.0 (each (seen spare) (seen_is spare)) z.1 z.2 log (stand_alone log (seen main) (seen spare) (stand (seen main) (seen spare) (seen_is main) (seen_is spare)))

  -- afterwards each image of the disk that counts has these bodies, which are this log
  pub stands_after : (o : Bool) (main spare main' spare' : D) → ((c : List ℕ) → images (in_use o main spare) c → IsArea true g bs c) → IsPassedOver images o g (in_use o spare main) → in_use o spare' main' ≡ in_use o spare main
      → (bs' : List (List ℕ)) (w : List Rec) → IsLogOf w bs' → ((c : List ℕ) → images (in_use o main' spare') c → IsArea true g bs' c × (length c ≤ max_area))
      → (log : List Rec) → EachStandsFor images main spare (log ∷ []) → EachStandsFor images main' spare' (w ∷ [])
  stands_after false main spare main' spare' each other same bs' w whole now log stand = λ a b ia ib.
      let ib' = subst (λ (d : D). images d b) same ib in
      let z = other b ib' in
      inl (main_stands g bs bs' w whole (seen main) b a z.0 (each (seen main) (seen_is main)) (now a ia).0 (now a ia).1 z.1 z.2 log (stand_alone log (seen main) b (stand (seen main) b (seen_is main) ib')))
  stands_after true main spare main' spare' each other same bs' w whole now log stand = λ a b ia ib.
      let ia' = subst (λ (d : D). images d a) same ia in
      let z = other a ia' in
      inl (spare_stands g bs bs' w whole a (seen spare) b z.0 (each (seen spare) (seen_is spare)) (now b ib).0 (now b ib).1 z.1 z.2 log (stand_alone log a (seen spare) (stand a (seen spare) ia' (seen_is spare))))

  module _ (body : List ℕ) (log : List Rec) (it : Rec) (spells : reading body ≡ Ok it) (may : MayFollow log it) where
    module _ (P Q : List ℕ → Type 0) where
      moments_main : (main spare main' : D) → ((c : List ℕ) → images main c → IsArea true g bs c) → IsLogOf log bs → LeavesOnly moment left_since main main' (IsBeforeOrAfter g bs body) → (P (seen main) → ⊥)
          → (t u : ℕ) (logs : List (List Rec)) → t ≤ moment main → SinceBut left_since t u main spare P Q logs → SinceBut left_since t u main' spare P Q ((log ++ it ∷ []) ∷ logs)
      moments_main main spare main' each is run apart t u logs le since = λ a b la lb.
          let s = seen main in
          let was = each s (seen_is main) in
          let longer = log_of-push log bs it body is spells may in
          ⊎_elim
          (λ (old : left_since main t a). beside a b P Q (log ++ it ∷ []) logs (since a b old lb))
          (λ (p : IsBeforeOrAfter g bs body a). apart_main s a b P Q logs ((log ++ it ∷ []) ∷ logs) apart
          (λ stood. ⊎_elim
          (λ (here : IsArea true g bs a). lifted s b a b (log ++ it ∷ []) logs (λ k st. inr (both_same (main_grows g bs bs log is s b a was here p.0 k k (λ n. n) st))) stood)
          (λ (here : IsArea true g (bs ++ body ∷ []) a). lifted s b a b (log ++ it ∷ []) logs (λ k st. main_grows g bs (bs ++ body ∷ []) (log ++ it ∷ []) longer s b a was here p.0 k (log ++ it ∷ []) (λ _. longer) st) stood)
          p.1)
          (since s b (counts_now main t s le (seen_is main)) lb))
          (run.before t a le la)

      moments_spare : (main spare spare' : D) → ((c : List ℕ) → images spare c → IsArea true g bs c) → IsLogOf log bs → LeavesOnly moment left_since spare spare' (IsBeforeOrAfter g bs body) → (Q (seen spare) → ⊥)
          → (t u : ℕ) (logs : List (List Rec)) → u ≤ moment spare → SinceBut left_since t u main spare P Q logs → SinceBut left_since t u main spare' P Q ((log ++ it ∷ []) ∷ logs)
      moments_spare main spare spare' each is run apart t u logs le since = λ a b la lb.
          let s = seen spare in
          let was = each s (seen_is spare) in
          let longer = log_of-push log bs it body is spells may in
          ⊎_elim
          (λ (old : left_since spare u b). beside a b P Q (log ++ it ∷ []) logs (since a b la old))
          (λ (p : IsBeforeOrAfter g bs body b). apart_spare a s b P Q logs ((log ++ it ∷ []) ∷ logs) apart
          (λ stood. ⊎_elim
          (λ (here : IsArea true g bs b). lifted a s a b (log ++ it ∷ []) logs (λ k st. inr (both_same (spare_grows g bs bs log is a s b was here p.0 k k (λ n. n) st))) stood)
          (λ (here : IsArea true g (bs ++ body ∷ []) b). lifted a s a b (log ++ it ∷ []) logs (λ k st. spare_grows g bs (bs ++ body ∷ []) (log ++ it ∷ []) longer a s b was here p.0 k (log ++ it ∷ []) (λ _. longer) st) stood)
          p.1)
          (since a s la (counts_now spare u s le (seen_is spare))))
          (run.before u b le lb)

      -- each moment of an append, but for pairs of which one is set apart
      pub moments_but : (o : Bool) (main spare main' spare' : D) → ((c : List ℕ) → images (in_use o main spare) c → IsArea true g bs c) → IsPassedOver images o g (in_use o spare main)
          → LeavesOnly moment left_since (in_use o main spare) (in_use o main' spare') (IsBeforeOrAfter g bs body) → in_use o spare' main' ≡ in_use o spare main → EachStandsFor images main spare (log ∷ [])
          → ((c : List ℕ) → images main c → P c → ⊥) → ((c : List ℕ) → images spare c → Q c → ⊥)
          → (t u : ℕ) (logs : List (List Rec)) → t ≤ moment main → u ≤ moment spare → SinceBut left_since t u main spare P Q logs → SinceBut left_since t u main' spare' P Q ((log ++ it ∷ []) ∷ logs)
      moments_but false main spare main' spare' each other run same stand apart apart' t u logs le le' since =
          subst (λ (d : D). SinceBut left_since t u main' d P Q ((log ++ it ∷ []) ∷ logs)) (sym same) (moments_main main spare main' each (log_of_journal false main spare each other log stand) run (apart (seen main) (seen_is main)) t u logs le since)
      moments_but true main spare main' spare' each other run same stand apart apart' t u logs le le' since =
          subst (λ (d : D). SinceBut left_since t u d spare' P Q ((log ++ it ∷ []) ∷ logs)) (sym same) (moments_spare main spare spare' each (log_of_journal true main spare each other log stand) run (apart' (seen spare) (seen_is spare)) t u logs le' since)

    -- each moment of an append
    pub moments : (o : Bool) (main spare main' spare' : D) → ((c : List ℕ) → images (in_use o main spare) c → IsArea true g bs c) → IsPassedOver images o g (in_use o spare main)
        → LeavesOnly moment left_since (in_use o main spare) (in_use o main' spare') (IsBeforeOrAfter g bs body) → in_use o spare' main' ≡ in_use o spare main → EachStandsFor images main spare (log ∷ [])
        → (t u : ℕ) (logs : List (List Rec)) → t ≤ moment main → u ≤ moment spare → SinceStandFor left_since t u main spare logs → SinceStandFor left_since t u main' spare' ((log ++ it ∷ []) ∷ logs)
    moments o main spare main' spare' each other run same stand t u logs le le' since = λ a b la lb.
        none_apart a b ((log ++ it ∷ []) ∷ logs) (moments_but (λ _. ⊥) (λ _. ⊥) o main spare main' spare' each other run same stand (λ _ _ p. p) (λ _ _ p. p) t u logs le le' (λ x y lx ly. inl (since x y lx ly)) a b la lb)

  -- no moment falls
  pub no_earlier : (o : Bool) (main spare main' spare' : D) → moment (in_use o main spare) ≤ moment (in_use o main' spare') → in_use o spare' main' ≡ in_use o spare main → (moment main ≤ moment main') × (moment spare ≤ moment spare')
  no_earlier false main spare main' spare' later same = (later, subst (λ (d : D). moment spare ≤ moment d) (sym same) (omega arith))
  no_earlier true main spare main' spare' later same = (subst (λ (d : D). moment main ≤ moment d) (sym same) (omega arith), later)

  area_long : (bodies : List (List ℕ)) (c : List ℕ) → IsArea true g bodies c → 18 ≤ length c
  area_long bodies c a = let h = held_whole g bodies c a in h.long

  -- both disks stay formatted
  pub stay_formatted : (o : Bool) (main spare main' spare' : D) (body : List ℕ) → IsPassedOver images o g (in_use o spare main)
      → LeavesOnly moment left_since (in_use o main spare) (in_use o main' spare') (IsBeforeOrAfter g bs body) → in_use o spare' main' ≡ in_use o spare main → IsFormatted images main' × IsFormatted images spare'
  stay_formatted false main spare main' spare' body other run same = (
    λ c now. ⊎_elim (area_long bs c) (area_long (bs ++ body ∷ []) c) (run.each c (counts_now main' (moment main) c run.later now)).1,
    λ c now. let z = other c (subst (λ (d : D). images d c) same now) in z.1.long,
  )
  stay_formatted true main spare main' spare' body other run same = (
    λ c now. let z = other c (subst (λ (d : D). images d c) same now) in z.1.long,
    λ c now. ⊎_elim (area_long bs c) (area_long (bs ++ body ∷ []) c) (run.each c (counts_now spare' (moment spare) c run.later now)).1,
  )

  -- and afterwards
  pub stand_now : (body : List ℕ) (log : List Rec) (it : Rec) → reading body ≡ Ok it → MayFollow log it → (o : Bool) (main spare main' spare' : D) → ((c : List ℕ) → images (in_use o main spare) c → IsArea true g bs c) → IsPassedOver images o g (in_use o spare main)
      → LeavesOnly moment left_since (in_use o main spare) (in_use o main' spare') (IsBeforeOrAfter g bs body) → in_use o spare' main' ≡ in_use o spare main → EachStandsFor images main spare (log ∷ []) → EachStandsFor images main' spare' ((log ++ it ∷ []) ∷ log ∷ [])
  stand_now body log it spells may o main spare main' spare' each other run same stand = λ a b ia ib.
      let later = no_earlier o main spare main' spare' run.later same in
      moments body log it spells may o main spare main' spare' each other run same stand (moment main) (moment spare) (log ∷ []) (omega arith) (omega arith)
      (λ x y lx ly. stand x y (only_now main x lx) (only_now spare y ly)) a b (counts_now main' (moment main) a later.0 ia) (counts_now spare' (moment spare) b later.1 ib)
