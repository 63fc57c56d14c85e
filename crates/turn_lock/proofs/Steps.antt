-- That the steps of a turn keep the rule.
use Rattle.std.proofs.Common.{append-nil, ◌≡◌, ◌≢◌, ⊎_elim, inl, inr, ℕ, ◌+◌, ◌<◌, ◌^◌, Bool, true, false, List, [], ◌∷◌, ◌++◌, length, Option, Some, None, refl, sym, ap, ◌∙◌, subst, arith, length-append}
use Rattle.std.specs.Prelude.{slice_set, slice_get, slice_index, unwrap_or, ◌==◌}
use Rattle.std.proofs.lemmas.Bool.Decides.{nat_tests}
use Rattle.std.proofs.lemmas.Option.{slice_get_within}
use mathlib.Core.Option as maybe
use mathlib.Core.Option.{some, none, some-injective}
use mathlib.Core.Logic.{dite}
use native.Mathlib.Decide.{ℕ_discrete}
use prog.Atomic.{either}
use lib.ListN.{get_elem?}
use Rattle.atomic_table.specs.Table.{State, Act, keeps, takes, gives, stepped, Valid, carried_after, Allows}
use Rattle.atomic_table.proofs.Lists.{set_here, set_again}
use Rattle.turn_lock.specs.declared.rule.View.{View}
use Rattle.turn_lock.specs.Own.{Owns}
use Rattle.turn_lock.specs.Turns.{IsKept, Holds, drawn, lent, gave, Draws, Looks, Serves, Recalls}
use Rattle.turn_lock.proofs.Owned.{get_longer, get_last, begins_refl, begins_more, owns_snoc, owns_snoc_left, owns_snoc_last, rises_snoc}
use Rattle.turn_lock.proofs.Places.{has_set, within}
use Rattle.turn_lock.proofs.Moved.{started, moved, apart_like}

is_in : {A : Type 0} → Option A → ℕ
is_in None = 0
is_in (Some t) = 1

pub none_some : {A : Type 0} (t : A) → None ≡ Some t → ⊥
unfolding is_in
none_some {A = A} t e = let one : is_in {A = A} None ≡ is_in {A = A} (Some t) = ap (is_in {A = A}) e in omega (arith, one)

pub same_turn : (a b : ℕ) → Some a ≡ Some b → a ≡ b
same_turn a b e = ap (λ x. unwrap_or x 0) e

module _ {V S O : Type 0} (stands : V → O → List S → Type 0) (o : O) (seats : ℕ) where
  abbrev Tab : Type 0
  Tab = State (Option V) (View S O)

  -- a ticket is drawn
  module _ (slots id : ℕ) (v : View S O) (carried : List (ℕ × Option V)) (old : ℕ) (idle : v.turn ≡ None) (rests : v.stage ≡ 0) (part : 0 < v.parts) (room : old + 1 < 2 ^ 64) where
    draws_kept : (s : Tab) (k : IsKept stands o seats s) → get_elem? s.views id ≡ some v → k.next ≡ old
        → IsKept stands o seats record { words = slice_set s.words 0 (old + 1); homes = s.homes; views = slice_set s.views id (drawn v old) }
    draws_kept s k here now =
        let was = k.views id v here in
        moved stands o seats s k id v (drawn v old) here k.log (old + 1) (slice_set s.words 0 (old + 1)) s.homes
        (ap (λ l. slice_set l 0 (old + 1)) k.words) (omega (arith, k.order, now)) room
        record {
          opening = was.opening;
          seen = was.seen;
          shorter = was.shorter;
          own = was.own;
          rising = was.rising;
          turn = λ t e. let same = same_turn old t e in (omega (arith, same, now, k.order), omega (arith, same));
          stage = inl rests;
          halvings = was.halvings;
          spent = λ e. absurd (omega (arith, e, part));
        }
        (λ b u ne at. let h = k.views b u at in record {
          opening = h.opening;
          seen = h.seen;
          shorter = h.shorter;
          own = h.own;
          rising = h.rising;
          turn = λ t e. let b = h.turn t e in (b.0, omega (arith, b.1, now));
          stage = h.stage;
          halvings = h.halvings;
          spent = h.spent;
        })
        (λ b u ne at. let a = k.apart id b v u (λ e. ne (sym e)) here at in record {
          turns = λ t e f. let same = same_turn old t e in let below = ((k.views b u at).turn t f).1 in omega (arith, same, below, now);
          owns = a.owns;
        })
        (λ i lt. has_set s.views id v (drawn v old) (λ u. (x : S) × Owns u.own i x) (λ u. (x : S) × Owns u.own i x) here (λ p. p) (λ j u ne at p. p) (k.whole i lt))
        (has_set s.views id v (drawn v old) (λ u. u.seen ≡ k.log) (λ u. u.seen ≡ k.log) here (λ p. p) (λ j u ne at p. p) k.last)
        refl
        (⊎_elim inl (λ h. inr (has_set s.views id v (drawn v old) (λ u. u.stage ≡ 1) (λ u. u.stage ≡ 1) here (λ p. p) (λ j u ne at p. p) h)) k.home)

    draws : (s : Tab) → IsKept stands o seats s → get_elem? s.views id ≡ some v → (b : Bool) → (slice_index s.words 0 == old) ≡ b
        → (w : View S O) × (a : Act (Option V)) × Valid s.homes carried a × Holds stands o seats (stepped s 0 (either b (old + 1) (slice_index s.words 0)) id carried w a)
        × Draws old (v, carried) (slice_index s.words 0) (w, carried_after carried a)
    draws s k here true is =
        let e : slice_index s.words 0 ≡ old = grind (arith, nat_tests) in
        let now : k.next ≡ old = sym (ap (λ l. slice_index l 0) k.words) ∙ e in
        (drawn v old, keeps, tt, inr (draws_kept s k here now), rw is refl)
    draws s k here false is =
        let back : slice_set s.words 0 (slice_index s.words 0) ≡ s.words = ap (λ l. slice_set l 0 (slice_index l 0)) k.words ∙ sym k.words in
        (v, keeps, tt, inr (subst (λ (p : List ℕ × List (View S O)). IsKept stands o seats record { words = p.0; homes = s.homes; views = p.1 }) (λ i. (sym back i, sym (set_again s.views id v here) i)) k), rw is refl)

    pub draw_allowed : Allows (Holds stands o seats) slots id (v, carried) 0 (λ n. either (n == old) (old + 1) n) (Draws old (v, carried))
    draw_allowed s h wide here word = draws s (started stands o seats s id v h here (inl rests)) here (slice_index s.words 0 == old) refl

  -- nothing changes, and what the seat knows is told
  module _ (slots id : ℕ) (v : View S O) (carried : List (ℕ × Option V)) (rests : v.stage ≡ 0) where
    pub recall_allowed : Allows (Holds stands o seats) slots id (v, carried) 0 (λ n. n) (λ _. Recalls (v, carried))
    recall_allowed s h wide here word =
        let k = started stands o seats s id v h here (inl rests) in
        let back : slice_set s.words 0 (slice_index s.words 0) ≡ s.words = ap (λ l. slice_set l 0 (slice_index l 0)) k.words ∙ sym k.words in (
          v,
          keeps,
          tt,
          inr (subst (λ (p : List ℕ × List (View S O)). IsKept stands o seats record { words = p.0; homes = s.homes; views = p.1 }) (λ i. (sym back i, sym (set_again s.views id v here) i)) k),
          (refl, (k.views id v here).shorter, (k.views id v here).rising),
        )

  -- the number that is served is read
  module _ (slots id : ℕ) (v : View S O) (carried : List (ℕ × Option V)) (ticket : ℕ) (waits : v.turn ≡ Some ticket) (rests : v.stage ≡ 0) (part : 0 < v.parts) where
    looks_kept : (s : Tab) (k : IsKept stands o seats s) → get_elem? s.views id ≡ some v → length k.log ≡ ticket → (homes : List (maybe.Option (Option V)))
        → IsKept stands o seats record { words = slice_set s.words 1 (slice_index s.words 1); homes = homes; views = slice_set s.views id (lent v k.log) }
    looks_kept s k here now homes =
        let was = k.views id v here in
        moved stands o seats s k id v (lent v k.log) here k.log k.next (slice_set s.words 1 (slice_index s.words 1)) homes
        (ap (λ l. slice_set l 1 (slice_index l 1)) k.words) k.order k.below
        record {
          opening = was.opening;
          seen = begins_refl k.log;
          shorter = (k.log, refl);
          own = was.own;
          rising = was.rising;
          turn = was.turn;
          stage = inr (refl, waits ∙ ap (λ (t : ℕ). Some t) (sym now), refl);
          halvings = was.halvings;
          spent = λ e. absurd (omega (arith, e, part));
        }
        (λ b u ne at. k.views b u at)
        (λ b u ne at. apart_like v (lent v k.log) u (λ t e. e) refl (k.apart id b v u (λ e. ne (sym e)) here at))
        (λ i lt. has_set s.views id v (lent v k.log) (λ u. (x : S) × Owns u.own i x) (λ u. (x : S) × Owns u.own i x) here (λ p. p) (λ j u ne at p. p) (k.whole i lt))
        (id, lent v k.log, set_here s.views id (lent v k.log) (within s.views id v here), refl)
        refl
        (inr (id, lent v k.log, set_here s.views id (lent v k.log) (within s.views id v here), refl))

    -- the value is at home, since no other seat has this turn
    at_home : (s : Tab) (k : IsKept stands o seats s) → get_elem? s.views id ≡ some v → length k.log ≡ ticket → (value : V) × (get_elem? s.homes 0 ≡ some (some (Some value))) × stands value o k.log
    at_home s k here now = ⊎_elim (λ h. h) (λ h. let (j, u, at, out) = h in absurd (elsewhere j u at out)) k.home
      where
        elsewhere : (j : ℕ) (u : View S O) → get_elem? s.views j ≡ some u → u.stage ≡ 1 → ⊥
        elsewhere j u at out = dite (ℕ_discrete j id)
            (λ e. let same : u ≡ v = some-injective u v (sym at ∙ ap (get_elem? s.views) e ∙ here) in let st : u.stage ≡ v.stage = ap (λ (x : View S O). x.stage) same in omega (arith, st, out, rests))
            (λ ne. ⊎_elim (λ z. omega (arith, z, out)) (λ z. (k.apart j id u v ne at here).turns (length k.log) z.1 (waits ∙ ap (λ (t : ℕ). Some t) (sym now))) ((k.views j u at).stage))

    pub look_allowed : Allows (Holds stands o seats) slots id (v, carried) 1 (λ n. n) (Looks stands (v, carried))
    look_allowed s h wide here word =
        let k = started stands o seats s id v h here (inl rests) in
        let found : slice_index s.words 1 ≡ length k.log = ap (λ l. slice_index l 1) k.words in
        let was = k.views id v here in
        dite (ℕ_discrete (length k.log) ticket)
        (λ now. let at = at_home s k here now in (
          lent v k.log,
          takes 0 (Some at.0),
          at.1,
          inr (looks_kept s k here now (slice_set s.homes 0 none)),
          (
            λ e. record {
              log = k.log;
              value = at.0;
              now = refl;
              place = sym found;
              seen = was.seen;
              own = was.own;
              rising = was.rising;
              meets = λ p e. subst (λ (q : O). stands at.0 q k.log) (some_inj o p (sym (was.opening part) ∙ e)) at.2;
            },
            λ no. absurd (no (waits ∙ ap (λ (t : ℕ). Some t) (sym now ∙ sym found))),
          ),
        ))
        (λ other.
        let back : slice_set s.words 1 (slice_index s.words 1) ≡ s.words = ap (λ l. slice_set l 1 (slice_index l 1)) k.words ∙ sym k.words in (
          v,
          keeps,
          tt,
          inr (subst (λ (p : List ℕ × List (View S O)). IsKept stands o seats record { words = p.0; homes = s.homes; views = p.1 }) (λ i. (sym back i, sym (set_again s.views id v here) i)) k),
          (λ e. absurd (other (sym found ∙ same_turn (slice_index s.words 1) ticket (sym e ∙ waits))), λ no. refl),
        ))
      where
        some_inj : (p q : O) → Some p ≡ Some q → p ≡ q
        some_inj p q e = ap (λ x. unwrap_or x p) e

  -- the step is added, and the next number is served
  module _ (slots id : ℕ) (v : View S O) (carried : List (ℕ × Option V)) (ticket : ℕ) (x : S) (value : V) (steps : List S) (told : steps ≡ x ∷ []) (holds : carried ≡ (0, Some value) ∷ []) (turn : v.turn ≡ Some ticket) (out : v.stage ≡ 1) (part : 0 < v.parts)
      (place : length v.seen ≡ ticket) (meets : stands value o (v.seen ++ x ∷ [])) where
    serves_kept : (s : Tab) (k : IsKept stands o seats s) → get_elem? s.views id ≡ some v → 0 < length s.homes → v.seen ≡ k.log
        → IsKept stands o seats record { words = slice_set s.words 1 (ticket + 1); homes = slice_set s.homes 0 (some (Some value)); views = slice_set s.views id (gave v x) }
    serves_kept s k here wide same =
        let was = k.views id v here in
        let long : length (k.log ++ x ∷ []) ≡ length k.log + 1 = length-append k.log (x ∷ []) in
        let at : length k.log ≡ ticket = sym (ap length same) ∙ place in
        let room = (was.turn ticket turn).1 in
        let here' = set_here s.views id (gave v x) (within s.views id v here) in
        let line : slice_set s.words 1 (ticket + 1) ≡ k.next ∷ length (k.log ++ x ∷ []) ∷ [] = ap (λ l. slice_set l 1 (ticket + 1)) k.words ∙ ap (λ n. k.next ∷ n ∷ []) (omega (arith, long, at)) in
        let mine : (i : ℕ) (y : S) → Owns v.own i y → i < length v.seen = λ i y p. let lt = slice_get_within k.log i y (was.own i y p) in omega (arith, lt, ap length same) in
        moved stands o seats s k id v (gave v x) here (k.log ++ x ∷ []) k.next (slice_set s.words 1 (ticket + 1)) (slice_set s.homes 0 (some (Some value)))
        line (omega (arith, long, at, room)) k.below
        record {
          opening = was.opening;
          seen = ([], ap (λ l. l ++ x ∷ []) (sym same) ∙ sym (nil (v.seen ++ x ∷ [])));
          shorter = (v.seen ++ x ∷ [], refl);
          own = λ i y p. ⊎_elim
              (λ q. get_longer k.log (x ∷ []) i y (was.own i y q))
              (λ q. subst (λ (z : ℕ × S). slice_get (k.log ++ x ∷ []) z.0 ≡ Some z.1) q (ap (λ (n : ℕ). slice_get (k.log ++ x ∷ []) n) (ap length same) ∙ get_last k.log x))
              (owns_snoc v.own (length v.seen, x) i y p);
          rising = rises_snoc 0 (length v.seen) v.own x was.rising mine (omega arith);
          turn = λ t e. absurd (none_some t e);
          stage = inl refl;
          halvings = was.halvings;
          spent = λ e. absurd (omega (arith, e, part));
        }
        (λ b u ne at'. let h = k.views b u at' in let a = k.apart id b v u (λ e. ne (sym e)) here at' in record {
          opening = h.opening;
          seen = begins_more u.seen k.log (x ∷ []) h.seen;
          shorter = h.shorter;
          own = λ i y p. get_longer k.log (x ∷ []) i y (h.own i y p);
          rising = h.rising;
          turn = λ t e. let b = h.turn t e in let ne' : t ≢ length k.log = λ q. a.turns t (turn ∙ ap (λ (n : ℕ). Some n) (sym (q ∙ at))) e in (omega (arith, b.0, ne', long), b.1);
          stage = ⊎_elim inl (λ z. absurd (a.turns (length k.log) (turn ∙ ap (λ (n : ℕ). Some n) (sym at)) z.1)) h.stage;
          halvings = h.halvings;
          spent = h.spent;
        })
        (λ b u ne at'. let h = k.views b u at' in let a = k.apart id b v u (λ e. ne (sym e)) here at' in record {
          turns = λ t e f. none_some t e;
          owns = λ i y z p q. ⊎_elim (λ r. a.owns i y z r q)
              (λ r. let is : length v.seen ≡ i = ap (λ (w : ℕ × S). w.0) r in let lt = slice_get_within k.log i z (h.own i z q) in omega (arith, is, lt, ap length same))
              (owns_snoc v.own (length v.seen, x) i y p);
        })
        (λ i lt. dite (ℕ_discrete i (length v.seen))
        (λ e. (id, gave v x, here', (x, subst (λ (n : ℕ). Owns (v.own ++ (length v.seen, x) ∷ []) n x) (sym e) (owns_snoc_last v.own (length v.seen) x))))
        (λ ne. has_set s.views id v (gave v x) (λ u. (y : S) × Owns u.own i y) (λ u. (y : S) × Owns u.own i y) here (λ p. (p.0, owns_snoc_left v.own (length v.seen, x) i p.0 p.1)) (λ j u _ _ p. p) (k.whole i (omega (arith, lt, long, ne, ap length same)))))
        (id, gave v x, here', ap (λ l. l ++ x ∷ []) same)
        refl
        (inl (value, set_here s.homes 0 (some (Some value)) wide, subst (λ l. stands value o (l ++ x ∷ [])) same meets))
      where
        nil : (l : List S) → l ++ [] ≡ l
        nil l = append-nil l

    pub serve_allowed : 0 < slots → Allows (Holds stands o seats) slots id (v, carried) 1 (λ _. ticket + 1) (λ _. Serves steps (v, carried))
    serve_allowed some_slot s h wide here word =
        let k = started stands o seats s id v h here (inr out) in
        let same : v.seen ≡ k.log = ⊎_elim (λ z. absurd (omega (arith, z, out))) (λ z. z.2) ((k.views id v here).stage) in (
          gave v x,
          gives,
          tt,
          inr (subst (λ (c : List (ℕ × Option V)). IsKept stands o seats (stepped s 1 (ticket + 1) id c (gave v x) gives)) (sym holds) (serves_kept s k here (omega (arith, wide, some_slot)) same)),
          (x, told, refl),
        )
