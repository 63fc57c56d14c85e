-- That the steps that put the value in keep the rule, and the dealing of the seats.
use Rattle.std.proofs.Common.{◌≡◌, ⊎_elim, inl, inr, ℕ, zero, suc, ◌+◌, ◌-◌, ◌*◌, ◌<◌, ◌≤◌, ◌^◌, List, [], ◌∷◌, Option, Some, None, refl, sym, ap, ◌∙◌, subst, arith, add-mul}
use Rattle.std.specs.Prelude.{slice_set, slice_index}
use mathlib.Core.Option as maybe
use mathlib.Core.Option.{some, none, some-injective, some-ne-none}
use lib.ListN.{get_elem?}
use Rattle.atomic_table.specs.Table.{State, Me, Act, takes, gives, stepped, Valid, carried_after, Allows, Splits}
use Rattle.atomic_table.proofs.Lists.{set_here}
use Rattle.turn_lock.specs.declared.rule.View.{View}
use Rattle.turn_lock.specs.Turns.{total, Knows, IsKept, IsNew, Holds, made, dealt_left, dealt_right, Fetches, Fills}
use Rattle.turn_lock.proofs.Places.{at_one}
use Rattle.turn_lock.proofs.Steps.{none_some}
use Rattle.turn_lock.proofs.Shares.{split_allowed}

module _ {V S O : Type 0} (stands : V → O → List S → Type 0) (o : O) (seats : ℕ) where
  abbrev Tab : Type 0
  Tab = State (Option V) (View S O)

  -- no seat of a lock with its value in has the stage n
  not_kept : (s : Tab) (id : ℕ) (v : View S O) (n : ℕ) → v.stage ≡ n → 2 ≤ n → get_elem? s.views id ≡ some v → IsKept stands o seats s → ⊥
  not_kept s id v n st le here k = ⊎_elim (λ z. omega (arith, st, le, z)) (λ z. omega (arith, st, le, z.0)) ((k.views id v here).stage)

  other_stage : (m n : ℕ) → made {S = S} o seats m ≡ made o seats n → m ≡ n
  other_stage m n e = ap (λ (x : View S O). x.stage) e

  pub fetch_allowed : (slots : ℕ) → Allows (Holds stands o seats) slots 0 (made o seats 2, []) 1 (λ n. n) (λ _. Fetches (made o seats 2, []))
  fetch_allowed slots s h wide here word = ⊎_elim fresh (λ k. absurd (not_kept s 0 (made o seats 2) 2 refl (omega arith) here k)) h
    where
      fresh : IsNew o seats s → (w : View S O) × (a : Act (Option V)) × Valid s.homes [] a × Holds stands o seats (stepped s 1 (slice_index s.words 1) 0 [] w a)
          × Fetches (made o seats 2, []) (w, carried_after [] a)
      fresh n = ⊎_elim
          (λ p. (
            made o seats 3,
            takes 0 None,
            p.1,
            inl record {
              words = ap (λ l. slice_set l 1 (slice_index l 1)) n.words;
              views = inr (ap (λ l. slice_set l 0 (made o seats 3)) p.0);
            },
            refl,
          ))
          (λ p. let bad = other_stage 3 2 (at_one (made o seats 3) (made o seats 2) 0 (sym (ap (λ l. get_elem? l 0) p) ∙ here)) in absurd (omega (arith, bad)))
          n.views

  module _ (carried : List (ℕ × Option V)) (value : V) (holds : carried ≡ (0, Some value) ∷ []) (meets : stands value o []) where
    begun : (homes : List (maybe.Option (Option V))) → get_elem? homes 0 ≡ some (some (Some value)) → IsKept stands o seats record { words = 0 ∷ 0 ∷ []; homes = homes; views = made o seats 0 ∷ [] }
    begun homes at = record {
      log = [];
      next = 0;
      depth = 0;
      words = refl;
      order = omega arith;
      below = omega arith;
      views = λ b u at. subst (Knows o [] 0 0) (at_one (made o seats 0) u b at) record {
        opening = λ _. refl;
        seen = ([], refl);
        shorter = ([], refl);
        own = λ i x f. absurd f;
        rising = tt;
        turn = λ t e. absurd (none_some t e);
        stage = inl refl;
        halvings = omega arith;
        spent = λ _. (refl, refl, refl);
      };
      apart = λ a b x y off xa yb. absurd (off (zeroth x a xa ∙ sym (zeroth y b yb)));
      whole = λ i lt. absurd (omega (arith, lt));
      last = (0, made o seats 0, refl, refl);
      shares = sum;
      home = inl (value, at, meets);
    }
      where
        sum : total 0 (made {S = S} o seats 0 ∷ []) ≡ seats * 2 ^ 0
        sum = omega arith

        zeroth : (x : View S O) (i : ℕ) → get_elem? (made o seats 0 ∷ []) i ≡ some x → i ≡ 0
        zeroth x zero e = refl
        zeroth x (suc i) e = absurd (some-ne-none x (sym e))

    pub fill_allowed : (slots : ℕ) → 0 < slots → Allows (Holds stands o seats) slots 0 (made o seats 3, carried) 1 (λ _. 0) (λ _. Fills (made o seats 3, carried))
    fill_allowed slots some_slot s h wide here word = ⊎_elim fresh (λ k. absurd (not_kept s 0 (made o seats 3) 3 refl (omega arith) here k)) h
      where
        fresh : IsNew o seats s → (w : View S O) × (a : Act (Option V)) × Valid s.homes carried a × Holds stands o seats (stepped s 1 0 0 carried w a)
            × Fills (made o seats 3, carried) (w, carried_after carried a)
        fresh n = ⊎_elim
            (λ p. let bad = other_stage 2 3 (at_one (made o seats 2) (made o seats 3) 0 (sym (ap (λ l. get_elem? l 0) p.0) ∙ here)) in absurd (omega (arith, bad)))
            (λ p. (
              made o seats 0,
              gives,
              tt,
              inr (subst (λ (c : List (ℕ × Option V)). IsKept stands o seats (stepped s 1 0 0 c (made o seats 0) gives)) (sym holds)
                  (subst (λ (q : List ℕ × List (View S O)). IsKept stands o seats record { words = slice_set q.0 1 0; homes = slice_set s.homes 0 (some (Some value)); views = slice_set q.1 0 (made o seats 0) })
                  (λ i. (sym n.words i, sym p i))
                  (begun (slice_set s.homes 0 (some (Some value))) (set_here s.homes 0 (some (Some value)) (omega (arith, wide, some_slot)))))),
              refl,
            ))
            n.views

  pub deal_allowed : (id : ℕ) (v : View S O) → v.turn ≡ None → v.stage ≡ 0 → 1 < v.parts → Splits (Holds stands o seats) id v (dealt_left v) (dealt_right v)
  deal_allowed id v idle rests more = split_allowed stands o seats id v (v.parts - 1) 1 v.halvings idle rests (omega arith) (omega arith) (omega arith)
      (λ d le. (omega (arith, le), sym (add-mul (v.parts - 1) 1 (2 ^ (suc d - v.halvings))) ∙ ap (λ n. n * 2 ^ (suc d - v.halvings)) (back v.parts more)))
    where
      back : (p : ℕ) → 1 < p → p - 1 + 1 ≡ p
      back p lt = omega (arith, lt)

  pub fetch_at : (slots id : ℕ) (m : Me (Option V) (View S O)) → id ≡ 0 → m ≡ (made o seats 2, []) → Allows (Holds stands o seats) slots id m 1 (λ n. n) (λ _. Fetches m)
  fetch_at slots id m i e = subst (λ (x : ℕ × Me (Option V) (View S O)). Allows (Holds stands o seats) slots x.0 x.1 1 (λ n. n) (λ _. Fetches x.1)) (λ k. (sym i k, sym e k)) (fetch_allowed slots)

  pub fill_at : (slots id : ℕ) (m : Me (Option V) (View S O)) (value : V) → id ≡ 0 → m ≡ (made o seats 3, (0, Some value) ∷ []) → stands value o [] → 0 < slots
      → Allows (Holds stands o seats) slots id m 1 (λ _. 0) (λ _. Fills m)
  fill_at slots id m value i e meets some_slot = subst (λ (x : ℕ × Me (Option V) (View S O)). Allows (Holds stands o seats) slots x.0 x.1 1 (λ _. 0) (λ _. Fills x.1)) (λ k. (sym i k, sym e k)) (fill_allowed ((0, Some value) ∷ []) value refl meets slots some_slot)
