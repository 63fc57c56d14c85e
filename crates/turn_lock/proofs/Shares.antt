-- That the steps on shares keep the rule: a seat is cut in two, and two seats are made one.
use Rattle.std.proofs.Common.{map, ◌≡◌, ◌≢◌, ⊎_elim, inl, inr, ℕ, suc, ◌+◌, ◌-◌, ◌*◌, ◌<◌, ◌≤◌, ◌^◌, max, List, [], ◌∷◌, ◌++◌, length, Option, Some, None, refl, sym, ap, ◌∙◌, subst, arith, pow-add, pow_pos, mul_assoc, add-mul, eq-zero-or-pos, mul-pos}
use Rattle.std.specs.Prelude.{slice_set, slice_get}
use Rattle.std.proofs.Math.Nat.{two-pow-succ}
use mathlib.Core.Option.{some, some-injective}
use mathlib.Core.Logic.{dite}
use native.Mathlib.Decide.{ℕ_discrete}
use lib.ListN.{get_elem?}
use Rattle.atomic_table.specs.Table.{State, Splits, Joins, Final, Seen}
use Rattle.atomic_table.proofs.Lists.{at_set, set_else, set_here, at_longer}
use Rattle.turn_lock.specs.declared.rule.View.{View}
use Rattle.turn_lock.specs.Own.{Owns, RisesFrom}
use Rattle.turn_lock.specs.Turns.{weight, total, Knows, Apart, Has, IsKept, Holds, shared, joined, spent, half_left, half_right}
use Rattle.turn_lock.proofs.Owned.{owns_left, owns_right, owns_merged, rises_merged, longer_begins, shorter_begins, longer_left, longer_right, nothing, all_own}
use Rattle.turn_lock.proofs.Places.{has_set, within, at_end, total_set, total_end, total_two}
use Rattle.turn_lock.proofs.Moved.{started, apart_back, apart_like, apart_set}
use Rattle.turn_lock.proofs.Steps.{none_some}

deeper_power : (d h : ℕ) → h ≤ d → 2 ^ (suc d - h) ≡ 2 ^ (d - h) + 2 ^ (d - h)
deeper_power d h le = let e : suc d - h ≡ suc (d - h) = omega arith in ap (λ n. 2 ^ n) e ∙ two-pow-succ (d - h)

mul_twice : (a b : ℕ) → a * (b + b) ≡ a * b + a * b
mul_twice a b = grind arith

scaled : (p h m d : ℕ) → h ≤ m → m ≤ d → p * 2 ^ (m - h) * 2 ^ (d - m) ≡ p * 2 ^ (d - h)
scaled p h m d a b = let e : (m - h) + (d - m) ≡ d - h = omega arith in mul_assoc p (2 ^ (m - h)) (2 ^ (d - m)) ∙ ap (λ n. p * n) (sym (pow-add 2 (m - h) (d - m)) ∙ ap (λ n. 2 ^ n) e)

some_left : (p n : ℕ) → 0 < p → 0 < p * 2 ^ n
some_left p n a = mul-pos {m = p} {n = 2 ^ n} a (pow_pos n)

none_left : (p n : ℕ) → p * 2 ^ n ≤ 0 → p ≡ 0
none_left p n le = ⊎_elim (λ z. z) (λ z. let q = some_left p n z in absurd (omega (arith, q, le))) (eq-zero-or-pos p)

module _ {S O : Type 0} where
  pub weight_deeper : (d : ℕ) (v : View S O) → v.halvings ≤ d → weight (suc d) v ≡ weight d v + weight d v
  weight_deeper d v le = ap (λ n. v.parts * n) (deeper_power d v.halvings le) ∙ mul_twice v.parts (2 ^ (d - v.halvings))

  pub total_deeper : (d : ℕ) (l : List (View S O)) → ((i : ℕ) (v : View S O) → get_elem? l i ≡ some v → v.halvings ≤ d) → total (suc d) l ≡ total d l + total d l
  total_deeper d [] all = refl
  total_deeper d (x ∷ xs) all = let h = total_deeper d xs (λ i v at. all (suc i) v at) in let e = weight_deeper d x (all 0 x refl) in omega (arith, h, e)

module _ {V S O : Type 0} (stands : V → O → List S → Type 0) (o : O) (seats : ℕ) where
  abbrev Tab : Type 0
  Tab = State (Option V) (View S O)

  -- a seat at rest is cut in two seats, which have seen what it had. The first keeps its steps
  module _ (id : ℕ) (v : View S O) (p q h : ℕ) (idle : v.turn ≡ None) (rests : v.stage ≡ 0) (part : 0 < p) (other_part : 0 < q) (whole_part : 0 < v.parts)
      (fits : (d : ℕ) → v.halvings ≤ d → (h ≤ suc d) × (p * 2 ^ (suc d - h) + q * 2 ^ (suc d - h) ≡ v.parts * 2 ^ (suc d - v.halvings))) where
    abbrev left : View S O
    left = shared v v.own p h

    abbrev right : View S O
    right = shared v [] q h

    splits_kept : (s : Tab) (k : IsKept stands o seats s) → get_elem? s.views id ≡ some v
        → IsKept stands o seats record { words = s.words; homes = s.homes; views = slice_set s.views id left ++ right ∷ [] }
    splits_kept s k here =
        let was = k.views id v here in
        let d = suc k.depth in
        let fit = fits k.depth was.halvings in
        let views' : List (View S O) = slice_set s.views id left in
        record {
          log = k.log;
          next = k.next;
          depth = d;
          words = k.words;
          order = k.order;
          below = k.below;
          views = λ b u at. ⊎_elim
              (λ in'. ⊎_elim
              (λ x. subst (Knows o k.log k.next d) x.1 record {
                opening = λ _. was.opening whole_part;
                seen = was.seen;
                shorter = was.shorter;
                own = was.own;
                rising = was.rising;
                turn = was.turn;
                stage = was.stage;
                halvings = fit.0;
                spent = λ e. absurd (omega (arith, e, part));
              })
              (λ x. let g = k.views b u x.1 in record {
                opening = g.opening;
                seen = g.seen;
                shorter = g.shorter;
                own = g.own;
                rising = g.rising;
                turn = g.turn;
                stage = g.stage;
                halvings = omega (arith, g.halvings);
                spent = g.spent;
              })
              (at_set s.views id b left u in'))
              (λ x. subst (Knows o k.log k.next d) x.1 record {
                opening = λ _. was.opening whole_part;
                seen = was.seen;
                shorter = was.shorter;
                own = λ i y f. absurd f;
                rising = tt;
                turn = was.turn;
                stage = was.stage;
                halvings = fit.0;
                spent = λ e. absurd (omega (arith, e, other_part));
              })
              (at_end views' right u b at);
          apart = λ a b x y ne xa yb. ⊎_elim
              (λ xin. ⊎_elim
              (λ yin. old_apart s k here a b x y ne xin yin)
              (λ yn. subst (λ z. Apart x z) yn.1 (apart_back right x (apart_right x)))
              (at_end views' right y b yb))
              (λ xn. ⊎_elim
              (λ yin. subst (λ z. Apart z y) xn.1 (apart_right y))
              (λ yn. absurd (ne (xn.0 ∙ sym yn.0)))
              (at_end views' right y b yb))
              (at_end views' right x a xa);
          whole = λ i lt. longer_has (λ u. (x : S) × Owns u.own i x) views' (has_set s.views id v left (λ u. (x : S) × Owns u.own i x) (λ u. (x : S) × Owns u.own i x) here (λ f. f) (λ j u _ _ f. f) (k.whole i lt));
          last = longer_has (λ u. u.seen ≡ k.log) views' (has_set s.views id v left (λ u. u.seen ≡ k.log) (λ u. u.seen ≡ k.log) here (λ f. f) (λ j u _ _ f. f) k.last);
          shares = sums s k here;
          home = ⊎_elim inl (λ f. inr (longer_has (λ u. u.stage ≡ 1) views' (has_set s.views id v left (λ u. u.stage ≡ 1) (λ u. u.stage ≡ 1) here (λ g. g) (λ j u _ _ g. g) f))) k.home;
        }
      where
        longer_has : (P : View S O → Type 0) (l : List (View S O)) → Has l P → Has (l ++ right ∷ []) P
        longer_has P l (j, u, at, f) = (j, u, at_longer l (right ∷ []) j u at, f)

        apart_right : (u : View S O) → Apart right u
        apart_right u = record { turns = λ t e f. none_some t (sym idle ∙ e); owns = λ i x y f g. absurd f }

        old_apart : (s : Tab) (k : IsKept stands o seats s) → get_elem? s.views id ≡ some v → (a b : ℕ) (x y : View S O) → a ≢ b → get_elem? (slice_set s.views id left) a ≡ some x → get_elem? (slice_set s.views id left) b ≡ some y → Apart x y
        old_apart s k here = apart_set s.views id v left here k.apart (λ b u ne at. apart_like v left u (λ t e. e) refl (k.apart id b v u (λ e. ne (sym e)) here at))

        sums : (s : Tab) (k : IsKept stands o seats s) → get_elem? s.views id ≡ some v → total (suc k.depth) (slice_set s.views id left ++ right ∷ []) ≡ seats * 2 ^ suc k.depth
        sums s k here =
            let d = suc k.depth in
            let a = total_end d (slice_set s.views id left) right in
            let b = total_set d s.views id v left here in
            let c = total_deeper k.depth s.views (λ i u at. (k.views i u at).halvings) in
            let fit = (fits k.depth ((k.views id v here).halvings)).1 in
            let e : seats * 2 ^ suc k.depth ≡ seats * 2 ^ k.depth + seats * 2 ^ k.depth = ap (λ n. seats * n) (two-pow-succ k.depth) ∙ mul_twice seats (2 ^ k.depth) in
            let f = k.shares in
            omega (arith, a, b, c, fit, e, f)

    pub split_allowed : Splits (Holds stands o seats) id v left right
    split_allowed s h here = inr (splits_kept s (started stands o seats s id v h here (inl rests)) here)

  pub half_allowed : (id : ℕ) (v : View S O) → v.turn ≡ None → v.stage ≡ 0 → 0 < v.parts → Splits (Holds stands o seats) id v (half_left v) (half_right v)
  half_allowed id v idle rests part = split_allowed id v v.parts v.parts (suc v.halvings) idle rests part part part
      (λ d le. (
        omega (arith, le),
        let e : suc d - suc v.halvings ≡ d - v.halvings = omega arith in
            ap (λ n. v.parts * 2 ^ n + v.parts * 2 ^ n) e ∙ sym (weight_deeper d v le),
      ))

  -- two seats at rest become one, and the other is spent
  module _ (id : ℕ) (v : View S O) (other : ℕ) (w : View S O) (idle : v.turn ≡ None) (rests : v.stage ≡ 0) (part : 0 < v.parts) (idle' : w.turn ≡ None) (rests' : w.stage ≡ 0) (part' : 0 < w.parts) where
    abbrev both : View S O
    both = joined v w

    abbrev none_left_view : View S O
    none_left_view = spent

    module _ (s : Tab) (k : IsKept stands o seats s) (here : get_elem? s.views id ≡ some v) (ne : other ≢ id) (there : get_elem? s.views other ≡ some w) where
      abbrev one : List (View S O)
      one = slice_set s.views id both

      abbrev two : List (View S O)
      two = slice_set one other spent

      in_one : get_elem? one other ≡ some w
      in_one = set_else s.views id other both ne ∙ there

      in_two : get_elem? two id ≡ some both
      in_two = set_else one other id spent (λ e. ne (sym e)) ∙ set_here s.views id both (within s.views id v here)

      has_joined : (P Q : View S O → Type 0) → (P v → Q both) → (P w → Q both) → ((j : ℕ) (u : View S O) → P u → Q u) → Has s.views P → Has two Q
      has_joined P Q mine yours others (j, u, at, f) =
          dite (ℕ_discrete j id)
          (λ e. (id, both, in_two, mine (subst P (some-injective u v (sym at ∙ ap (get_elem? s.views) e ∙ here)) f)))
          (λ off. dite (ℕ_discrete j other)
          (λ e. (id, both, in_two, yours (subst P (some-injective u w (sym at ∙ ap (get_elem? s.views) e ∙ there)) f)))
          (λ off'. (j, u, set_else one other j spent off' ∙ set_else s.views id j both off ∙ at, others j u f)))

      apart_both : (b : ℕ) (u : View S O) → b ≢ id → b ≢ other → get_elem? s.views b ≡ some u → Apart both u
      apart_both b u off off' at =
          let a = k.apart id b v u (λ e. off (sym e)) here at in
          let a' = k.apart other b w u (λ e. off' (sym e)) there at in
          record {
            turns = λ t e f. none_some t (sym idle ∙ e);
            owns = λ i x y f g. ⊎_elim (λ z. a.owns i x y z g) (λ z. a'.owns i x y z g) (owns_merged v.own w.own i x f);
          }

      apart_one : (a b : ℕ) (x y : View S O) → a ≢ b → a ≢ other → b ≢ other → get_elem? one a ≡ some x → get_elem? one b ≡ some y → Apart x y
      apart_one a b x y off na nb xa yb = ⊎_elim
          (λ p. ⊎_elim
          (λ q. absurd (off (p.0 ∙ sym q.0)))
          (λ q. subst (λ z. Apart z y) p.1 (apart_both b y q.0 nb q.1))
          (at_set s.views id b both y yb))
          (λ p. ⊎_elim
          (λ q. subst (λ z. Apart x z) q.1 (apart_back both x (apart_both a x p.0 na p.1)))
          (λ q. k.apart a b x y off p.1 q.1)
          (at_set s.views id b both y yb))
          (at_set s.views id a both x xa)

      apart_spent : (u : View S O) → Apart spent u
      apart_spent u = record { turns = λ t e f. none_some t e; owns = λ i x y f g. absurd f }

      knows_both : Knows o k.log k.next k.depth both
      knows_both =
          let a = k.views id v here in
          let b = k.views other w there in
          let m : ℕ = max v.halvings w.halvings in
          record {
            opening = λ _. a.opening part;
            seen = longer_begins v.seen w.seen k.log a.seen b.seen;
            shorter = shorter_begins v.seen w.seen k.log a.seen b.seen;
            own = λ i x f. ⊎_elim (λ z. a.own i x z) (λ z. b.own i x z) (owns_merged v.own w.own i x f);
            rising = rises_merged 0 v.own w.own a.rising b.rising ((k.apart id other v w (λ e. ne (sym e)) here there).owns);
            turn = λ t e. absurd (none_some t (sym idle ∙ e));
            stage = inl rests;
            halvings = let h = a.halvings in let h' = b.halvings in omega (arith, h, h');
            spent = λ e. let q = some_left v.parts (m - v.halvings) part in absurd (omega (arith, e, q));
          }

      knows_spent : Knows o k.log k.next k.depth spent
      knows_spent = record {
        opening = λ z. absurd (omega (arith, z));
        seen = (k.log, refl);
        shorter = ([], refl);
        own = λ i x f. absurd f;
        rising = tt;
        turn = λ t e. absurd (none_some t e);
        stage = inl refl;
        halvings = omega arith;
        spent = λ e. (refl, refl, refl);
      }

      weight_both : weight k.depth both ≡ weight k.depth v + weight k.depth w
      weight_both =
          let m : ℕ = max v.halvings w.halvings in
          let d : ℕ = k.depth in
          let h = (k.views id v here).halvings in
          let h' = (k.views other w there).halvings in
          let top : m ≤ d = omega (arith, h, h') in
          let a : v.parts * 2 ^ (m - v.halvings) * 2 ^ (d - m) ≡ weight d v = scaled v.parts v.halvings m d (omega arith) top in
          let b : w.parts * 2 ^ (m - w.halvings) * 2 ^ (d - m) ≡ weight d w = scaled w.parts w.halvings m d (omega arith) top in
          add-mul (v.parts * 2 ^ (m - v.halvings)) (w.parts * 2 ^ (m - w.halvings)) (2 ^ (d - m)) ∙ (λ i. a i + b i)

      joins_kept : IsKept stands o seats record { words = s.words; homes = s.homes; views = two }
      joins_kept = record {
        log = k.log;
        next = k.next;
        depth = k.depth;
        words = k.words;
        order = k.order;
        below = k.below;
        views = λ b u at. ⊎_elim
            (λ x. subst (Knows o k.log k.next k.depth) x.1 knows_spent)
            (λ x. ⊎_elim (λ y. subst (Knows o k.log k.next k.depth) y.1 knows_both) (λ y. k.views b u y.1) (at_set s.views id b both u x.1))
            (at_set one other b spent u at);
        apart = λ a b x y no xa yb. ⊎_elim
            (λ p. subst (λ z. Apart z y) p.1 (apart_spent y))
            (λ p. ⊎_elim
            (λ q. subst (λ z. Apart x z) q.1 (apart_back spent x (apart_spent x)))
            (λ q. apart_one a b x y no p.0 q.0 p.1 q.1)
            (at_set one other b spent y yb))
            (at_set one other a spent x xa);
        whole = λ i lt. has_joined (λ u. (x : S) × Owns u.own i x) (λ u. (x : S) × Owns u.own i x) (λ f. (f.0, owns_left v.own w.own i f.0 f.1)) (λ f. (f.0, owns_right v.own w.own i f.0 f.1)) (λ j u f. f) (k.whole i lt);
        last = has_joined (λ u. u.seen ≡ k.log) (λ u. u.seen ≡ k.log) (λ f. longer_left v.seen w.seen k.log ((k.views other w there).seen) f) (λ f. longer_right v.seen w.seen k.log ((k.views id v here).seen) f) (λ j u f. f) k.last;
        shares =
            let d = k.depth in
            let a = total_set d s.views id v both here in
            let b = total_set d one other w spent in_one in
            let c = weight_both in
            let same : total d two ≡ total d s.views = omega (arith, a, b, c) in
            same ∙ k.shares;
        home = ⊎_elim inl (λ f. inr (has_joined (λ u. u.stage ≡ 1) (λ u. u.stage ≡ 1) (λ g. absurd (omega (arith, g, rests))) (λ g. absurd (omega (arith, g, rests'))) (λ j u g. g) f)) k.home;
      }

    pub join_allowed : Joins (Holds stands o seats) id v other w (joined v w) spent
    join_allowed s h here ne there = inr (joins_kept s (started stands o seats s id v h here (inl rests)) here ne (sym (set_else s.views id other (joined v w) ne) ∙ there))

  -- the seat is the only one
  module _ (id : ℕ) (v : View S O) (idle : v.turn ≡ None) (rests : v.stage ≡ 0) (all : v.parts ≡ seats * 2 ^ v.halvings) where
    pub record Ends (xs : List (Option V)) : Type 0 where
      pub value : V
      pub place : get_elem? xs 0 ≡ some (Some value)
      pub meets : stands value o v.seen
      pub own : (i : ℕ) (x : S) → Owns v.own i x → slice_get v.seen i ≡ Some x
      pub rising : RisesFrom 0 v.own
      pub whole : v.seen ≡ map (λ (p : ℕ × S). p.1) v.own

    module _ (s : Tab) (k : IsKept stands o seats s) (here : get_elem? s.views id ≡ some v) where
      no_others : (j : ℕ) (u : View S O) → j ≢ id → get_elem? s.views j ≡ some u → u.parts ≡ 0
      no_others j u ne at =
          let d : ℕ = k.depth in
          let h = (k.views id v here).halvings in
          let up : v.halvings + (d - v.halvings) ≡ d = omega (arith, h) in
          let mine : weight d v ≡ seats * 2 ^ d = ap (λ n. n * 2 ^ (d - v.halvings)) all ∙ mul_assoc seats (2 ^ v.halvings) (2 ^ (d - v.halvings)) ∙ ap (λ n. seats * n) (sym (pow-add 2 v.halvings (d - v.halvings)) ∙ ap (λ n. 2 ^ n) up) in
          let sum = total_two d s.views id j v u (λ e. ne (sym e)) here at in
          let total_is = k.shares in
          none_left u.parts (d - u.halvings) (omega (arith, mine, sum, total_is))

      is_last : v.seen ≡ k.log
      is_last = let (j, u, at, e) = k.last in
          dite (ℕ_discrete j id)
          (λ q. sym (ap (λ (x : View S O). x.seen) (some-injective u v (sym at ∙ ap (get_elem? s.views) q ∙ here))) ∙ e)
          (λ ne. let empty : k.log ≡ [] = sym e ∙ ((k.views j u at).spent (no_others j u ne at)).2 in nothing v.seen k.log ((k.views id v here).seen) (omega (arith, ap length empty)))

      owns_all : (i : ℕ) → i < length k.log → (x : S) × Owns v.own i x
      owns_all i lt = let (j, u, at, f) = k.whole i lt in
          dite (ℕ_discrete j id)
          (λ q. subst (λ (y : View S O). (x : S) × Owns y.own i x) (some-injective u v (sym at ∙ ap (get_elem? s.views) q ∙ here)) f)
          (λ ne. absurd (subst (λ l. Owns l i f.0) (((k.views j u at).spent (no_others j u ne at)).1) f.1))

      is_home : (value : V) × (get_elem? s.homes 0 ≡ some (some (Some value))) × stands value o k.log
      is_home = ⊎_elim (λ f. f) (λ f. let (j, u, at, out) = f in absurd (nowhere j u at out)) k.home
        where
          nowhere : (j : ℕ) (u : View S O) → get_elem? s.views j ≡ some u → u.stage ≡ 1 → ⊥
          nowhere j u at out =
              dite (ℕ_discrete j id)
              (λ q. let st : u.stage ≡ v.stage = ap (λ (x : View S O). x.stage) (some-injective u v (sym at ∙ ap (get_elem? s.views) q ∙ here)) in omega (arith, st, out, rests))
              (λ ne. ⊎_elim (λ z. omega (arith, z, out)) (λ z. none_some (length k.log) (sym (((k.views j u at).spent (no_others j u ne at)).0) ∙ z.1)) ((k.views j u at).stage))

    pub ends : (ws : List ℕ) (xs : List (Option V)) → Final (Seen (Holds stands o seats) id v) ws xs → Ends xs
    ends ws xs (s, (h, here), words, long, values) =
        let k = started stands o seats s id v h here (inl rests) in
        let home = is_home s k here in
        let same = is_last s k here in
        let was = k.views id v here in
        record {
          value = home.0;
          place = values 0 (Some home.0) home.1;
          meets = subst (stands home.0 o) (sym same) home.2;
          own = λ i x f. subst (λ l. slice_get l i ≡ Some x) (sym same) (was.own i x f);
          rising = was.rising;
          whole = same ∙ sym (all_own 0 v.own k.log was.rising (λ i x f. ap (λ n. slice_get k.log n) (minus i) ∙ was.own i x f) (λ i lt. let q = owns_all s k here i lt in (q.0, subst (λ n. Owns v.own n q.0) (plus i) q.1)));
        }
      where
        minus : (i : ℕ) → i - 0 ≡ i
        minus i = omega arith

        plus : (i : ℕ) → i ≡ 0 + i
        plus i = omega arith
