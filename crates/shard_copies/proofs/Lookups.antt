-- What is looked up in the askers of a view.
use Rattle.std.proofs.Common.{◌≡◌, ℕ, Bool, true, false, cond, eqb, List, [], ◌∷◌, Option, Some, None, refl, sym, ap, ◌∙◌, ◌⊎◌, inl, inr}
use Rattle.std.specs.Prelude.{map, option_map}
use Rattle.std.specs.FinMap.{empty, get, insert, entries, get-empty, get-entries, get-from_entries}
use Rattle.std.specs.FinMap.Entries.{find}
use Rattle.std.specs.declared.cmp.Ordering.{Ordering}
use Rattle.std.specs.Ordering.{nat_cmp, eq_by_cmp}
use Rattle.std.specs.Cmp.{nat_cmp_total}
use Rattle.std.specs.Cmp.Lexicographic.{slice_cmp, nat_list_cmp_total, bytes_decides}
use Rattle.std.specs.Str.{bytes_eq}
use Rattle.std.proofs.lemmas.Bool.{eqb-true, eq-eqb}
use Rattle.stream_fold.proofs.FactLemmas.{at_index, at_text}
use Rattle.replica_ask.specs.Askers.{AskerState, with_phase}
use Rattle.replica_ask.specs.declared.phase.Phase.TheVariants.{Idle}
use Rattle.shard_machine.specs.Views.{Askers, StreamAskers, askers_of, with_asker, all_idle, idle_askers, idle_under}

-- ---- looked up

-- the asker that a shard has of this stream and index
abbrev pub stored_at : Askers → List ℕ → ℕ → Option AskerState
stored_at askers stream index = get (askers_of askers stream) index

or_empty : Option StreamAskers → StreamAskers
or_empty None = empty
or_empty (Some found) = found

askers-of : (m : Askers) (s : List ℕ) (o : Option StreamAskers) → get m s ≡ o → askers_of m s ≡ or_empty o
unfolding or_empty
askers-of m s o e = ap of e
  where
    of : Option StreamAskers → StreamAskers
    of None = empty
    of (Some found) = found

inserted : (m : Askers) (s t : List ℕ) (x : StreamAskers) (b : Bool) → bytes_eq s t ≡ b → askers_of (insert m s x) t ≡ cond b x (askers_of m t)
unfolding or_empty
inserted m s t x true e = askers-of (insert m s x) t (Some x) (at_text m s x t ∙ ap (λ b. cond b (Some x) (get m t)) e)
inserted m s t x false e =
    askers-of (insert m s x) t (get m t) (at_text m s x t ∙ ap (λ b. cond b (Some x) (get m t)) e)
    ∙ sym (askers-of m t (get m t) refl)

stored-inserted : (m : Askers) (s t : List ℕ) (x : StreamAskers) (j : ℕ) → stored_at (insert m s x) t j ≡ cond (bytes_eq s t) (get x j) (stored_at m t j)
stored-inserted m s t x j = ap (λ (y : StreamAskers). get y j) (inserted m s t x (bytes_eq s t) refl) ∙ by (bytes_eq s t)
  where
    by : (b : Bool) → get (cond b x (askers_of m t)) j ≡ cond b (get x j) (get (askers_of m t) j)
    by true = refl
    by false = refl

-- the asker that was put in
pub with_asker-own : (s : List ℕ) (i : ℕ) (a : AskerState) (m : Askers) → stored_at (with_asker s i a m) s i ≡ Some a
with_asker-own s i a m =
    stored-inserted m s s (insert (askers_of m s) i a) i
    ∙ (ap (λ b. cond b (get (insert (askers_of m s) i a) i) (stored_at m s i)) ((bytes_decides s s).1 refl)
    ∙ (at_index (askers_of m s) i a i ∙ ap (λ b. cond b (Some a) (get (askers_of m s) i)) (eq-eqb i i refl)))

-- and the others
pub with_asker-cases : (s : List ℕ) (i : ℕ) (a : AskerState) (m : Askers) (t : List ℕ) (j : ℕ) → ((s ≡ t) × (i ≡ j)) ⊎ (stored_at (with_asker s i a m) t j ≡ stored_at m t j)
with_asker-cases s i a m t j = by (bytes_eq s t) refl (stored-inserted m s t (insert (askers_of m s) i a) j)
  where
    index : (b : Bool) → eqb i j ≡ b → s ≡ t → stored_at (with_asker s i a m) t j ≡ get (insert (askers_of m s) i a) j → ((s ≡ t) × (i ≡ j)) ⊎ (stored_at (with_asker s i a m) t j ≡ stored_at m t j)
    index true e same q = inl (same, eqb-true i j e)
    index false e same q = inr (q ∙ (at_index (askers_of m s) i a j ∙ (ap (λ b. cond b (Some a) (get (askers_of m s) j)) e ∙ ap (λ n. get (askers_of m n) j) same)))

    by : (b : Bool) → bytes_eq s t ≡ b → stored_at (with_asker s i a m) t j ≡ cond (bytes_eq s t) (get (insert (askers_of m s) i a) j) (stored_at m t j) → ((s ≡ t) × (i ≡ j)) ⊎ (stored_at (with_asker s i a m) t j ≡ stored_at m t j)
    by true e q = index (eqb i j) refl ((bytes_decides s t).0 e) (q ∙ ap (λ b. cond b (get (insert (askers_of m s) i a) j) (stored_at m t j)) e)
    by false e q = inr (q ∙ ap (λ b. cond b (get (insert (askers_of m s) i a) j) (stored_at m t j)) e)

-- ---- idle

abbrev pub rest_of : AskerState → AskerState
rest_of a = with_phase a Idle

module _ {K X : Type 0} (R : K → K → Ordering) (f : X → X) where
  find-map : (q : K) (es : List (K × X)) → find R q (map (λ p. (p.0, f p.1)) es) ≡ option_map f (find R q es)
  find-map q [] = refl
  find-map q (e ∷ es) = by (eq_by_cmp R q e.0) (find-map q es)
    where
      by : (b : Bool) → find R q (map (λ p. (p.0, f p.1)) es) ≡ option_map f (find R q es) → cond b (Some (f e.1)) (find R q (map (λ p. (p.0, f p.1)) es)) ≡ option_map f (cond b (Some e.1) (find R q es))
      by true h = refl
      by false h = h

get-idle : (m : StreamAskers) (i : ℕ) → get (all_idle m) i ≡ option_map rest_of (get m i)
get-idle m i =
    get-from_entries nat_cmp_total (map (λ p. (p.0, rest_of p.1)) (entries m)) i
    ∙ (find-map nat_cmp rest_of i (entries m) ∙ ap (option_map rest_of) (sym (get-entries m i)))

get-all_idle : (m : Askers) (s : List ℕ) → get (idle_askers m) s ≡ option_map all_idle (get m s)
get-all_idle m s =
    get-from_entries nat_list_cmp_total (map (λ p. (p.0, all_idle p.1)) (entries m)) s
    ∙ (find-map (slice_cmp nat_cmp) all_idle s (entries m) ∙ ap (option_map all_idle) (sym (get-entries m s)))

idle-or : (o : Option StreamAskers) (i : ℕ) → get (or_empty (option_map all_idle o)) i ≡ option_map rest_of (get (or_empty o) i)
unfolding or_empty
idle-or None i = get-empty nat_cmp i ∙ ap (option_map rest_of) (sym (get-empty nat_cmp i))
idle-or (Some found) i = get-idle found i

-- all askers are idle
pub stored-idle : (m : Askers) (s : List ℕ) (i : ℕ) → stored_at (idle_askers m) s i ≡ option_map rest_of (stored_at m s i)
stored-idle m s i =
    ap (λ (x : StreamAskers). get x i) (askers-of (idle_askers m) s (option_map all_idle (get m s)) (get-all_idle m s))
    ∙ (idle-or (get m s) i
    ∙ ap (λ (x : StreamAskers). option_map rest_of (get x i)) (sym (askers-of m s (get m s) refl)))

-- the askers of one stream are idle
pub stored-idle_under : (name : List ℕ) (m : Askers) (s : List ℕ) (i : ℕ) → (name ≡ s → stored_at (idle_under name m) s i ≡ option_map rest_of (stored_at m s i)) × ((name ≡ s) ⊎ (stored_at (idle_under name m) s i ≡ stored_at m s i))
unfolding or_empty
stored-idle_under name m s i = by (get m name) refl
  where
    under : Option StreamAskers → Askers
    under None = m
    under (Some found) = insert m name (all_idle found)

    none-here : get m name ≡ None → name ≡ s → stored_at m s i ≡ None
    none-here e same = ap (λ (x : StreamAskers). get x i) (askers-of m s None (ap (get m) (sym same) ∙ e)) ∙ get-empty nat_cmp i

    here : (found : StreamAskers) → get m name ≡ Some found → name ≡ s → stored_at (insert m name (all_idle found)) s i ≡ option_map rest_of (stored_at m s i)
    here found e same =
        stored-inserted m name s (all_idle found) i
        ∙ (ap (λ b. cond b (get (all_idle found) i) (stored_at m s i)) ((bytes_decides name s).1 same)
        ∙ (get-idle found i ∙ ap (λ (x : StreamAskers). option_map rest_of (get x i)) (sym (askers-of m s (Some found) (ap (get m) (sym same) ∙ e)))))

    else_by : (found : StreamAskers) (b : Bool) → bytes_eq name s ≡ b → (name ≡ s) ⊎ (stored_at (insert m name (all_idle found)) s i ≡ stored_at m s i)
    else_by found true q = inl ((bytes_decides name s).0 q)
    else_by found false q = inr (stored-inserted m name s (all_idle found) i ∙ ap (λ b. cond b (get (all_idle found) i) (stored_at m s i)) q)

    by : (o : Option StreamAskers) → get m name ≡ o → (name ≡ s → stored_at (under o) s i ≡ option_map rest_of (stored_at m s i)) × ((name ≡ s) ⊎ (stored_at (under o) s i ≡ stored_at m s i))
    by None e = (λ same. none-here e same ∙ ap (option_map rest_of) (sym (none-here e same)), inr refl)
    by (Some found) e = (here found e, else_by found (bytes_eq name s) refl)

-- of no askers none is found
pub stored-empty : (s : List ℕ) (i : ℕ) → stored_at empty s i ≡ None
unfolding or_empty
stored-empty s i = ap (λ (x : StreamAskers). get x i) (askers-of empty s None (get-empty (slice_cmp nat_cmp) s)) ∙ get-empty nat_cmp i
