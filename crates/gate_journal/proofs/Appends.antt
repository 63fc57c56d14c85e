-- What an append leaves after each of its two writes, each followed by a sync.
use Rattle.std.proofs.Common.{◌≡◌, ◌⊎◌, inl, inr, ⊎_elim, ℕ, ◌+◌, ◌<◌, ◌≤◌, ◌^◌, true, List, [], ◌∷◌, ◌++◌, length, take, drop, All, arith, length-append, refl, sym, ◌∙◌, ap, subst, append_assoc}
use Rattle.std.specs.Prelude.{Option, Result, Err}
use Rattle.std.specs.Int.{w32, to_le_bytes}
use Rattle.std.proofs.lemmas.List.{length-take, length-drop}
use Rattle.std.proofs.lemmas.List.Elements.{All-append, All-cons, All-nil}
use Rattle.leaf_edges.specs.Disks.{Op, Torn, Only, overwritten}
use Rattle.gate_journal.specs.Areas.{end_of, IsBody, IsArea}
use Rattle.gate_journal.specs.Journals.{MayTear, Does, staged}
use Rattle.gate_journal.specs.declared.fault.AppendFault.{AppendFault}
use Rattle.gate_journal.specs.declared.fault.AppendFault.TheVariants.{DiskFault, NoMemory}
use Rattle.gate_journal.proofs.Blocks.{Shut, front_of, behind_gate, area_shut, shut_area, front-push, length-front}
use Rattle.gate_journal.proofs.Crash.{Staged, torn_behind, written_behind, staged_shut, torn_gate, written_gate, shut_long}

-- neither a write nor a crash in it makes more bytes than there were or than it reaches
torn_short : (n place count : ℕ) (d c : List ℕ) → length d ≤ n → place + count ≤ n → Torn place count d c → length c ≤ n
torn_short n place count d c short reach torn = omega (arith, torn.no_longer)

pub tear_short : (n place count : ℕ) (images : List ℕ → Type 0) → ((c : List ℕ) → images c → length c ≤ n) → place + count ≤ n → (c : List ℕ) → MayTear images place count c → length c ≤ n
tear_short n place count images short reach c = ⊎_elim (short c) (λ (t : (d : List ℕ) × images d × Torn place count d c). torn_short n place count t.0 c (short t.0 t.1) reach t.2)

pub written_short : (n place : ℕ) (d c bytes : List ℕ) → length d ≤ n → place + length bytes ≤ n → c ≡ overwritten d place bytes → length c ≤ n
written_short n place d c bytes short reach is =
    omega (arith, ap length is, length-append (take place d ++ bytes) (drop (place + length bytes) d), length-append (take place d) bytes, length-take place d, length-drop (place + length bytes) d)

pub length-staged : (body : List ℕ) → length (staged body) ≡ 5 + length body
length-staged body = omega (arith, length-append (to_le_bytes w32 (length body) ++ body) (0 ∷ []), length-append (to_le_bytes w32 (length body)) body)

module _ (g : ℕ) (bs : List (List ℕ)) (at : ℕ) (e : at ≡ end_of bs) where
  pub size : length (front_of g bs) ≡ at
  size = length-front g bs ∙ sym e

  pub area_long : (c : List ℕ) → IsArea true g bs c → at + 1 ≤ length c
  area_long c a = shut_long (front_of g bs) at size c (area_shut g bs c a)

  pub behind : (count : ℕ) (d c : List ℕ) → IsArea true g bs d → Torn (at + 1) count d c → IsArea true g bs c
  behind count d c a torn = shut_area g bs c a.stamp a.legal (torn_behind (front_of g bs) at size count d c (area_shut g bs d a) torn)

  -- an image of the disk before, or what the first write makes of one
  pub torn_before : (images : List ℕ → Type 0) → ((c : List ℕ) → images c → IsArea true g bs c) → (count : ℕ) (c : List ℕ) → MayTear images (at + 1) count c → IsArea true g bs c
  torn_before images each count c = ⊎_elim (each c) (λ (t : (d : List ℕ) × images d × Torn (at + 1) count d c). behind count t.0 c (each t.0 t.1) t.2)

  module _ (body : List ℕ) where
    -- the body's record stands behind the closed gate
    pub record Ready (c : List ℕ) : Type 0 where
      pub stands : Staged (front_of g bs) at size (behind_gate body) c
      pub stamp : g < 2 ^ 64
      pub legal : All IsBody bs

    pub ready : (d c bytes : List ℕ) → IsArea true g bs d → bytes ≡ staged body → c ≡ overwritten d (at + 1) bytes → Ready c
    ready d c bytes a same is = record {
      stands = written_behind (front_of g bs) at size (behind_gate body) d c (area_shut g bs d a) (is ∙ ap (overwritten d (at + 1)) same);
      stamp = a.stamp;
      legal = a.legal;
    }

    pub ready_area : (c : List ℕ) → Ready c → IsArea true g bs c
    ready_area c r = shut_area g bs c r.stamp r.legal (staged_shut (front_of g bs) at size (behind_gate body) c r.stands)

    module _ (is_body : IsBody body) where
      one_more : (c : List ℕ) → Ready c → (x : List ℕ) → Shut (front_of g bs ++ 1 ∷ behind_gate body) x → IsArea true g (bs ++ body ∷ []) x
      one_more c r x s = shut_area g (bs ++ body ∷ []) x r.stamp (All-append IsBody bs (body ∷ []) r.legal (All-cons IsBody body [] is_body (All-nil IsBody))) (subst (λ (f : List ℕ). Shut f x) (sym (front-push g bs body)) s)

      -- the bodies as before, or with the new one last
      abbrev Either : List ℕ → Type 0
      Either c = IsArea true g bs c ⊎ IsArea true g (bs ++ body ∷ []) c

      gated : (d c : List ℕ) → Ready d → Torn at 1 d c → Either c
      gated d c r torn = ⊎_elim (λ (s : Shut (front_of g bs) c). inl (shut_area g bs c r.stamp r.legal s)) (λ s. inr (one_more d r c s)) (torn_gate (front_of g bs) at size (behind_gate body) d c r.stands torn)

      pub finished : (d c : List ℕ) → Ready d → c ≡ overwritten d at (1 ∷ []) → IsArea true g (bs ++ body ∷ []) c
      finished d c r is = one_more d r c (written_gate (front_of g bs) at size (behind_gate body) d c r.stands is)

      -- the one image of the disk between, or what the second write makes of it
      pub torn_after : (images : List ℕ → Type 0) (seen : List ℕ) → Only seen images → Ready seen → (c : List ℕ) → MayTear images at 1 c → IsArea true g bs c ⊎ IsArea true g (bs ++ body ∷ []) c
      torn_after images seen only r c =
          ⊎_elim
          (λ (now : images c). inl (subst (IsArea true g bs) (sym (only c now)) (ready_area seen r)))
          (λ (t : (d : List ℕ) × images d × Torn at 1 d c). gated t.0 c (subst Ready (sym (only t.0 t.1)) r) t.2)

module _ {D : Type 0} (T : Type 0) (done : D → List Op) (failed : D → Option Op) (a b x y : Op) where
  fails_first : (d0 d1 : D) (f : AppendFault) → Does {T = T} done failed d0 d1 (a ∷ b ∷ []) (Err f) → Does {T = T} done failed d0 d1 (a ∷ b ∷ x ∷ y ∷ []) (Err f)
  fails_first d0 d1 DiskFault w = record {
    before = w.before;
    call = w.call;
    after = w.after ++ x ∷ y ∷ [];
    are = ap (λ (l : List Op). l ++ x ∷ y ∷ []) w.are ∙ append_assoc w.before (w.call ∷ w.after) (x ∷ y ∷ []);
    added = w.added;
    last = w.last;
  }
  fails_first d0 d1 NoMemory w = w

  -- after the first two calls
  pub record Begun (d0 d1 : D) : Type 0 where
    pub added : done d1 ≡ done d0 ++ a ∷ b ∷ []
    pub last : failed d1 ≡ failed d0

  fails_second : (d0 d1 d2 : D) (f : AppendFault) → Begun d0 d1 → (f ≡ NoMemory → (done d2 ≡ done d1) × (failed d2 ≡ failed d1)) → Does {T = T} done failed d1 d2 (x ∷ y ∷ []) (Err f)
      → Does {T = T} done failed d0 d2 (a ∷ b ∷ x ∷ y ∷ []) (Err f)
  fails_second d0 d1 d2 DiskFault begun none w = record {
    before = a ∷ b ∷ w.before;
    call = w.call;
    after = w.after;
    are = ap (λ (l : List Op). a ∷ b ∷ l) w.are;
    added = w.added ∙ ap (λ (l : List Op). l ++ w.before) begun.added ∙ append_assoc (done d0) (a ∷ b ∷ []) w.before;
    last = w.last;
  }
  fails_second d0 d1 d2 NoMemory begun none w = (inr ((none refl).0 ∙ begun.added), (none refl).1 ∙ begun.last)

  pub does_first : (d0 d1 : D) (r s : Result T AppendFault) (f : AppendFault) → r ≡ Err f → s ≡ Err f → Does done failed d0 d1 (a ∷ b ∷ []) r → Does done failed d0 d1 (a ∷ b ∷ x ∷ y ∷ []) s
  does_first d0 d1 r s f was is w =
      subst (Does done failed d0 d1 (a ∷ b ∷ x ∷ y ∷ [])) (sym is) (fails_first d0 d1 f (subst (Does done failed d0 d1 (a ∷ b ∷ [])) was w))

  pub does_second : (d0 d1 d2 : D) (r s : Result T AppendFault) (f : AppendFault) → r ≡ Err f → s ≡ Err f → Begun d0 d1 → (r ≡ Err NoMemory → (done d2 ≡ done d1) × (failed d2 ≡ failed d1)) → Does done failed d1 d2 (x ∷ y ∷ []) r
      → Does done failed d0 d2 (a ∷ b ∷ x ∷ y ∷ []) s
  does_second d0 d1 d2 r s f was is begun none w =
      subst (Does done failed d0 d2 (a ∷ b ∷ x ∷ y ∷ [])) (sym is)
      (fails_second d0 d1 d2 f begun (λ (n : f ≡ NoMemory). none (was ∙ ap (λ (k : AppendFault). Err k) n)) (subst (Does done failed d1 d2 (x ∷ y ∷ [])) was w))
