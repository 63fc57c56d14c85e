-- What a crash leaves in each of the two writes of an append.
use Rattle.std.proofs.Common.{◌≡◌, ◌≢◌, ◌==◌, ◌⊎◌, inl, inr, ℕ, ◌+◌, ◌≤◌, min, Bool, true, false, List, [], ◌∷◌, ◌++◌, length, get_or, take, drop, refl, sym, ◌∙◌, ap, subst, arith, append_assoc, length-append, take-append-drop}
use Rattle.std.proofs.lemmas.List.{take_at, drop_at, drop_more}
use Rattle.std.proofs.lemmas.Bool.Decides.{nat_tests}
use Rattle.leaf_edges.specs.Disks.{Torn, overwritten}
use Rattle.gate_journal.proofs.Blocks.{Shut}

module _ (front : List ℕ) (at : ℕ) (size : length front ≡ at) where
  split : (gate : ℕ) (rest : List ℕ) → front ++ gate ∷ rest ≡ (front ++ gate ∷ []) ++ rest
  split gate rest = sym (append_assoc front (gate ∷ []) rest)

  longer : (gate : ℕ) → length (front ++ gate ∷ []) ≡ at + 1
  longer gate = omega (arith, size, length-append front (gate ∷ []))

  first : (c : List ℕ) (s : Shut front c) → take (at + 1) c ≡ front ++ s.gate ∷ []
  first c s = ap (take (at + 1)) (s.is ∙ split s.gate s.rest) ∙ take_at (front ++ s.gate ∷ []) s.rest (at + 1) (longer s.gate)

  pub shut_long : (c : List ℕ) → Shut front c → at + 1 ≤ length c
  shut_long c s = omega (arith, size, ap length s.is, length-append front (s.gate ∷ s.rest))

  -- the closed gate stands in each outcome of the first write
  pub torn_behind : (count : ℕ) (d c : List ℕ) → Shut front d → Torn (at + 1) count d c → Shut front c
  torn_behind count d c s torn =
      let whole : min (at + 1) (length d) ≡ at + 1 = omega (arith, shut_long d s) in
      let same : take (at + 1) c ≡ take (at + 1) d = subst (λ (k : ℕ). take k c ≡ take (at + 1) d) whole torn.before in
      record {
        gate = s.gate;
        rest = drop (at + 1) c;
        is = sym (take-append-drop (at + 1) c) ∙ ap (λ (l : List ℕ). l ++ drop (at + 1) c) (same ∙ first d s) ∙ sym (split s.gate (drop (at + 1) c));
        closed = s.closed;
      }

  module _ (new : List ℕ) where
    -- the record stands behind its closed gate, and a closed gate after it
    pub record Staged (c : List ℕ) : Type 0 where
      pub gate : ℕ
      pub rest : List ℕ
      pub is : c ≡ front ++ gate ∷ (new ++ 0 ∷ rest)
      pub closed : gate ≢ 1

    pub written_behind : (d c : List ℕ) → Shut front d → c ≡ overwritten d (at + 1) (new ++ 0 ∷ []) → Staged c
    written_behind d c s e =
        let over = drop (at + 1 + length (new ++ 0 ∷ [])) d in
        record {
          gate = s.gate;
          rest = over;
          is = e ∙ ap (λ (l : List ℕ). l ++ (new ++ 0 ∷ []) ++ over) (first d s)
              ∙ append_assoc (front ++ s.gate ∷ []) (new ++ 0 ∷ []) over
              ∙ ap (λ (l : List ℕ). (front ++ s.gate ∷ []) ++ l) (append_assoc new (0 ∷ []) over)
              ∙ sym (split s.gate (new ++ 0 ∷ over));
          closed = s.closed;
        }

    pub staged_shut : (c : List ℕ) → Staged c → Shut front c
    staged_shut c s = record { gate = s.gate; rest = new ++ 0 ∷ s.rest; is = s.is; closed = s.closed }

    back : (d : List ℕ) (s : Staged d) → drop (at + 1) d ≡ new ++ 0 ∷ s.rest
    back d s = ap (drop (at + 1)) (s.is ∙ split s.gate (new ++ 0 ∷ s.rest)) ∙ drop_at (front ++ s.gate ∷ []) (new ++ 0 ∷ s.rest) (at + 1) (longer s.gate)

    start : (d : List ℕ) (s : Staged d) → take at d ≡ front
    start d s = ap (take at) s.is ∙ take_at front (s.gate ∷ (new ++ 0 ∷ s.rest)) at size

    opened : (rest : List ℕ) → front ++ 1 ∷ (new ++ 0 ∷ rest) ≡ (front ++ 1 ∷ new) ++ 0 ∷ rest
    opened rest = sym (append_assoc front (1 ∷ new) (0 ∷ rest))

    by_gate : (here : ℕ) (rest c : List ℕ) (b : Bool) → (here == 1) ≡ b → c ≡ front ++ here ∷ (new ++ 0 ∷ rest) → Shut front c ⊎ Shut (front ++ 1 ∷ new) c
    by_gate here rest c true e is =
        let one : here ≡ 1 = grind (arith, nat_tests, e) in
        inr (record { gate = 0; rest = rest; is = is ∙ ap (λ (k : ℕ). front ++ k ∷ (new ++ 0 ∷ rest)) one ∙ opened rest; closed = λ no. omega (arith, no) })
    by_gate here rest c false e is = inl (record { gate = here; rest = new ++ 0 ∷ rest; is = is; closed = λ one. grind (arith, nat_tests, e, one) })

    -- the record stands whole in each outcome of the second write
    pub torn_gate : (d c : List ℕ) → Staged d → Torn at 1 d c → Shut front c ⊎ Shut (front ++ 1 ∷ new) c
    torn_gate d c s torn =
        let long : at + 1 ≤ length d = shut_long d (staged_shut d s) in
        let whole : min at (length d) ≡ at = omega (arith, long) in
        let same : take at c ≡ take at d = subst (λ (k : ℕ). take k c ≡ take at d) whole torn.before in
        let here = get_or c at 0 in
        let tail : drop at c ≡ here ∷ (new ++ 0 ∷ s.rest) = drop_more c at 0 (omega (arith, long, torn.no_shorter)) ∙ ap (λ (l : List ℕ). here ∷ l) (torn.after ∙ back d s) in
        by_gate here s.rest c (here == 1) refl (sym (take-append-drop at c) ∙ ap (λ (l : List ℕ). l ++ drop at c) (same ∙ start d s) ∙ ap (λ (l : List ℕ). front ++ l) tail)

    pub written_gate : (d c : List ℕ) → Staged d → c ≡ overwritten d at (1 ∷ []) → Shut (front ++ 1 ∷ new) c
    written_gate d c s e = record {
      gate = 0;
      rest = s.rest;
      is = e ∙ ap (λ (l : List ℕ). l ++ (1 ∷ []) ++ drop (at + 1) d) (start d s) ∙ ap (λ (l : List ℕ). front ++ (1 ∷ []) ++ l) (back d s)
          ∙ append_assoc front (1 ∷ []) (new ++ 0 ∷ s.rest) ∙ opened s.rest;
      closed = λ no. omega (arith, no);
    }
