-- The rule after the view at one place changed.
use Rattle.std.proofs.Common.{◌≡◌, ◌≢◌, ◌⊎◌, ⊎_elim, ℕ, ◌<◌, ◌≤◌, ◌^◌, List, [], ◌∷◌, length, Option, Some, refl, sym, ap, ◌∙◌, subst, arith}
use Rattle.std.specs.Prelude.{slice_set}
use mathlib.Core.Option as maybe
use mathlib.Core.Option.{some, none, some-injective}
use lib.ListN.{get_elem?}
use Rattle.atomic_table.specs.Table.{State}
use Rattle.atomic_table.proofs.Lists.{at_set}
use Rattle.turn_lock.specs.declared.rule.View.{View}
use Rattle.turn_lock.specs.Own.{Owns}
use Rattle.turn_lock.specs.Turns.{weight, total, Knows, Apart, Has, IsKept, Holds, made}
use Rattle.turn_lock.proofs.Places.{total_set, at_one}

module _ {S O : Type 0} where
  pub apart_back : (v w : View S O) → Apart v w → Apart w v
  apart_back v w a = record { turns = λ t e f. a.turns t f e; owns = λ k x y h g. a.owns k y x g h }

  -- what is apart from v is apart from a view with the same turn or none, and the same own steps
  pub apart_like : (v w u : View S O) → ((t : ℕ) → w.turn ≡ Some t → v.turn ≡ Some t) → w.own ≡ v.own → Apart v u → Apart w u
  apart_like v w u turns own a = record { turns = λ t e f. a.turns t (turns t e) f; owns = λ k x y h g. a.owns k x y (subst (λ l. Owns l k x) own h) g }

  pub apart_set : (l : List (View S O)) (id : ℕ) (v w : View S O) → get_elem? l id ≡ some v
      → ((a b : ℕ) (p q : View S O) → a ≢ b → get_elem? l a ≡ some p → get_elem? l b ≡ some q → Apart p q)
      → ((b : ℕ) (u : View S O) → b ≢ id → get_elem? l b ≡ some u → Apart w u)
      → (a b : ℕ) (p q : View S O) → a ≢ b → get_elem? (slice_set l id w) a ≡ some p → get_elem? (slice_set l id w) b ≡ some q → Apart p q
  apart_set l id v w here apart new a b p q ne pa qb =
      ⊎_elim
      (λ x. ⊎_elim
      (λ y. absurd (ne (x.0 ∙ sym y.0)))
      (λ y. subst (λ z. Apart z q) x.1 (new b q y.0 y.1))
      (at_set l id b w q qb))
      (λ x. ⊎_elim
      (λ y. subst (λ z. Apart p z) y.1 (apart_back w p (new a p x.0 x.1)))
      (λ y. apart a b p q ne x.1 y.1)
      (at_set l id b w q qb))
      (at_set l id a w p pa)

module _ {V S O : Type 0} (stands : V → O → List S → Type 0) (o : O) (seats : ℕ) where
  late : (v x : View S O) (n : ℕ) → x ≡ v → x.stage ≡ n → 2 ≤ n → (v.stage ≡ 0) ⊎ (v.stage ≡ 1) → ⊥
  late v x n e st le early = let same : x.stage ≡ v.stage = ap (λ (y : View S O). y.stage) e in ⊎_elim (λ z. omega (arith, same, st, le, z)) (λ z. omega (arith, same, st, le, z)) early

  -- a seat whose stage is no stage of the start finds the value in
  pub started : (s : State (Option V) (View S O)) (id : ℕ) (v : View S O) → Holds stands o seats s → get_elem? s.views id ≡ some v → (v.stage ≡ 0) ⊎ (v.stage ≡ 1) → IsKept stands o seats s
  started s id v h here early = ⊎_elim
      (λ n. absurd (⊎_elim
      (λ p. late v (made o seats 2) 2 (at_one (made o seats 2) v id (sym (ap (λ l. get_elem? l id) p.0) ∙ here)) refl (omega arith) early)
      (λ p. late v (made o seats 3) 3 (at_one (made o seats 3) v id (sym (ap (λ l. get_elem? l id) p) ∙ here)) refl (omega arith) early)
      n.views))
      (λ k. k) h

  -- one seat has a new view, with the share that it had
  pub moved : (s : State (Option V) (View S O)) (k : IsKept stands o seats s) (id : ℕ) (v w : View S O) → get_elem? s.views id ≡ some v
      → (log : List S) (next : ℕ) (words : List ℕ) (homes : List (maybe.Option (Option V)))
      → words ≡ next ∷ length log ∷ [] → length log ≤ next → next < 2 ^ 64
      → Knows o log next k.depth w
      → ((b : ℕ) (u : View S O) → b ≢ id → get_elem? s.views b ≡ some u → Knows o log next k.depth u)
      → ((b : ℕ) (u : View S O) → b ≢ id → get_elem? s.views b ≡ some u → Apart w u)
      → ((i : ℕ) → i < length log → Has (slice_set s.views id w) (λ u. (x : S) × Owns u.own i x))
      → Has (slice_set s.views id w) (λ u. u.seen ≡ log)
      → weight k.depth w ≡ weight k.depth v
      → ((value : V) × (get_elem? homes 0 ≡ some (some (Some value))) × stands value o log) ⊎ Has (slice_set s.views id w) (λ u. u.stage ≡ 1)
      → IsKept stands o seats record { words = words; homes = homes; views = slice_set s.views id w }
  moved s k id v w here log next words homes words_are order below mine others apart whole last share home = record {
    log = log;
    next = next;
    depth = k.depth;
    words = words_are;
    order = order;
    below = below;
    views = λ b u at. ⊎_elim (λ x. subst (Knows o log next k.depth) x.1 mine) (λ x. others b u x.0 x.1) (at_set s.views id b w u at);
    apart = apart_set s.views id v w here k.apart apart;
    whole = whole;
    last = last;
    shares = let t = total_set k.depth s.views id v w here in let same : total k.depth (slice_set s.views id w) ≡ total k.depth s.views = omega (arith, t, share) in same ∙ k.shares;
    home = home;
  }
