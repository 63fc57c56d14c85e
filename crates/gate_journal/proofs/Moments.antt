-- How a run of a disk's calls goes on.
use Rattle.std.proofs.Common.{◌≡◌, inl, inr, ⊎_elim, ℕ, List, [], ◌∷◌, ◌∙◌, refl, sym, ap, subst, arith, append-nil}
use Rattle.std.specs.Prelude.{Bool, Option, Result, Err}
use Rattle.leaf_edges.specs.Disks.{Op, Torn, Follows, Unchanged, Elapses, LeavesOnly, Notes}
use Rattle.leaf_edges.proofs.Moments.{started, goes_on}
use Rattle.leaf_edges.specs.declared.fault.EdgeError.{EdgeError}
use Rattle.leaf_edges.specs.declared.fault.EdgeError.TheVariants.{Failed, NoMemory}
use Rattle.gate_journal.specs.declared.fault.AppendFault.{AppendFault}
use Rattle.gate_journal.specs.Journals.{Does, MayTear}
use Rattle.gate_journal.specs.Walks.{Looks, append_fault}

module _ {D : Type 0} (moment : D → ℕ) (left_since : D → ℕ → List ℕ → Type 0) (images : D → List ℕ → Type 0) where
  -- a run that leaves what has P, where this has Q
  pub weaker : (old new : D) (P Q : List ℕ → Type 0) → ((c : List ℕ) → P c → Q c) → LeavesOnly moment left_since old new P → LeavesOnly moment left_since old new Q
  weaker old new P Q so run = record {
    later = run.later;
    each = λ c left. so c (run.each c left);
    before = λ t c le left. ⊎_elim inl (λ p. inr (so c p)) (run.before t c le left);
  }

  -- one run after another
  pub joined : (old mid new : D) (P : List ℕ → Type 0) → LeavesOnly moment left_since old mid P → LeavesOnly moment left_since mid new P → LeavesOnly moment left_since old new P
  joined old mid new P one two = record {
    later = omega (arith, one.later, two.later);
    each = λ c left. ⊎_elim (one.each c) (λ p. p) (two.before (moment old) c one.later left);
    before = λ t c le left. ⊎_elim (one.before t c le) inr (two.before t c (omega (arith, le, one.later)) left);
  }

  -- a write that was tried, and a sync
  module _ (only_now : (d : D) (c : List ℕ) → left_since d (moment d) c → images d c) (place count : ℕ) where
    pub after_write : (old mid : D) → Elapses moment left_since images old mid → Follows (Torn place count) (images old) (images mid) → LeavesOnly moment left_since old mid (MayTear (images old) place count)
    after_write old mid time crash = goes_on moment left_since images old old mid (MayTear (images old) place count) (started moment left_since images old (MayTear (images old) place count) (λ c left. inl (only_now old c left))) time (λ c now. inr (crash c now))

    pub after_sync : (old mid new : D) → Elapses moment left_since images old mid → Follows (Torn place count) (images old) (images mid) → Elapses moment left_since images mid new → ((c : List ℕ) → images new c → images mid c) → LeavesOnly moment left_since old new (MayTear (images old) place count)
    after_sync old mid new time crash time2 crash2 = goes_on moment left_since images old mid new (MayTear (images old) place count) (after_write old mid time crash) time2 (λ c now. inr (crash c (crash2 c now)))

module _ {D : Type 0} (seen : D → List ℕ) (images : D → List ℕ → Type 0) (unsynced : D → Bool) (done : D → List Op) (failed : D → Option Op) (moment : D → ℕ) (left_since : D → ℕ → List ℕ → Type 0) where
  unchanged_on : (old mid new : D) → Unchanged seen images unsynced done failed old mid → Unchanged seen images unsynced done failed mid new → Unchanged seen images unsynced done failed old new
  unchanged_on old mid new one two = record {
    content = two.content ∙ one.content;
    no_more = λ c now. one.no_more c (two.no_more c now);
    no_fewer = λ c was. two.no_fewer c (one.no_fewer c was);
    dirt = two.dirt ∙ one.dirt;
    list = two.list ∙ one.list;
    last = two.last ∙ one.last;
  }

  -- looking on
  pub looks_on : (old mid new : D) → Looks seen images unsynced done failed moment left_since old mid → Looks seen images unsynced done failed moment left_since mid new → Looks seen images unsynced done failed moment left_since old new
  looks_on old mid new one two = record {
    same = unchanged_on old mid new one.same two.same;
    time = record {
      later = omega (arith, one.time.later, two.time.later);
      nothing_else = λ t c le left.
          ⊎_elim
          (λ (was : left_since mid t c). ⊎_elim inl (λ (now : images mid c). inr (two.same.no_fewer c now)) (one.time.nothing_else t c le was))
          inr
          (two.time.nothing_else t c (omega (arith, le, one.time.later)) left);
      keeps = λ t c le left. two.time.keeps t c (omega (arith, le, one.time.later)) (one.time.keeps t c le left);
    };
  }

  -- before the first look
  pub looks_none : (d : D) → Looks seen images unsynced done failed moment left_since d d
  looks_none d = record {
    same = record { content = refl; no_more = λ c now. now; no_fewer = λ c now. now; dirt = refl; list = refl; last = refl };
    time = record { later = omega arith; nothing_else = λ t c le left. inl left; keeps = λ t c le left. left };
  }

-- the first of these calls was refused
refused_at : {D : Type 0} (T U : Type 0) (done : D → List Op) (failed : D → Option Op) (old new : D) (op : Op) (after : List Op) (e : EdgeError) → Notes {T = T} done failed old new op (Err e)
    → Does {T = U} done failed old new (op ∷ after) (Err (append_fault e))
refused_at T U done failed old new op after Failed notes = record { before = []; call = op; after = after; are = refl; added = notes.0 ∙ sym (append-nil (done old)); last = notes.1 }
refused_at T U done failed old new op after NoMemory notes = (inl notes.0, notes.1)

pub first_refused : {D T U : Type 0} (done : D → List Op) (failed : D → Option Op) (old new : D) (op : Op) (after : List Op) (e : EdgeError) (r : Result T EdgeError) (s : Result U AppendFault) → r ≡ Err e
    → (fault : AppendFault) × (s ≡ Err fault) × (fault ≡ append_fault e) → Notes done failed old new op r → Does done failed old new (op ∷ after) s
first_refused {T = T} {U = U} done failed old new op after e r s was is notes =
    let answers : s ≡ Err (append_fault e) = is.1 ∙ ap (λ (f : AppendFault). Err f) is.2 in
    subst (Does done failed old new (op ∷ after)) (sym answers) (refused_at T U done failed old new op after e (subst (Notes done failed old new op) was notes))
