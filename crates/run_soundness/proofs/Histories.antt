-- What stays as a history goes on.
use Rattle.std.proofs.Common.{◌≡◌, ℕ, ◌≤◌, max, List, [], ◌∷◌, ◌++◌, Some, refl, sym, ap, ◌∙◌, subst, arith, append_assoc, append-nil}
use Rattle.nats_text.specs.declared.message.Message.{Message}
use Rattle.stream_fold.specs.declared.entry.Entry.{Entry}
use Rattle.stream_fold.specs.Histories.{History, with_entry, put, last, NumbersRise, IsHole}
use Rattle.stream_fold.proofs.Folds.{last-append}
use Rattle.stream_fold.proofs.Growth.{put-stays, put-back}
use Rattle.stream_fold.proofs.KeptRows.{IsHole-stays}

-- the second history goes on from the first
pub record GoesOn (earlier later : History) : Type 0 where
  pub config : later.config ≡ earlier.config
  pub rest : List Entry
  pub entries : later.entries ≡ earlier.entries ++ rest

pub GoesOn-refl : (h : History) → GoesOn h h
GoesOn-refl h = record { config = refl; rest = []; entries = sym (append-nil h.entries) }

pub GoesOn-entry : (h : History) (e : Entry) → GoesOn h (with_entry h e)
GoesOn-entry h e = record { config = refl; rest = e ∷ []; entries = refl }

pub GoesOn-trans : (a b c : History) → GoesOn a b → GoesOn b c → GoesOn a c
GoesOn-trans a b c p q = record {
  config = q.config ∙ p.config;
  rest = p.rest ++ q.rest;
  entries = q.entries ∙ (ap (λ (l : List Entry). l ++ q.rest) p.entries ∙ append_assoc a.entries p.rest q.rest);
}

-- a longer history is the first one's entries and more
pub GoesOn-is : (h h' : History) (g : GoesOn h h') → h' ≡ record { config = h.config; entries = h.entries ++ g.rest }
GoesOn-is h h' g = λ i. record { config = g.config i; entries = g.entries i }

-- a hole stays one
pub IsHole-on : (h h' : History) (s : ℕ) → GoesOn h h' → NumbersRise h'.entries → IsHole h s → IsHole h' s
IsHole-on h h' s g n hole =
    let is = GoesOn-is h h' g in
    subst (λ (k : History). IsHole k s) (sym is)
    (IsHole-stays h.config h.entries g.rest s (subst NumbersRise g.entries n) hole)

pub put-on : (h h' : History) (s : ℕ) (m : Message) → GoesOn h h' → put s h.entries ≡ Some m → put s h'.entries ≡ Some m
put-on h h' s m g e = subst (λ (l : List Entry). put s l ≡ Some m) (sym g.entries) (put-stays h.entries g.rest s m e)

pub put-back_on : (h h' : History) (s : ℕ) (m : Message) → GoesOn h h' → NumbersRise h'.entries → s ≤ last h.entries → put s h'.entries ≡ Some m → put s h.entries ≡ Some m
put-back_on h h' s m g n le e = put-back h.entries g.rest s m (subst NumbersRise g.entries n) le (subst (λ (l : List Entry). put s l ≡ Some m) g.entries e)

pub last-on : (h h' : History) → GoesOn h h' → last h.entries ≤ last h'.entries
last-on h h' g =
    let q : last (h.entries ++ g.rest) ≡ max (last h.entries) (last g.rest) = last-append h.entries g.rest in
    let r : last (h.entries ++ g.rest) ≡ last h'.entries = ap last (sym g.entries) in
    omega arith
