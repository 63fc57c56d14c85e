-- What one call more makes of a past.
use Rattle.std.proofs.Common.{◌≡◌, ℕ, ◌+◌, ◌≤◌, ◌<◌, true, false, List, [], ◌∷◌, ◌++◌, length, Some, None, ◌⊎◌, inl, inr, refl, sym, ap, subst, ◌∙◌, arith, length-append, take_all}
use Rattle.std.proofs.lemmas.List.{take-append-le}
use Rattle.std.proofs.lemmas.Bool.{cases_lt}
use Rattle.leaf_edges.specs.Disks.{Op, synced, Follows, Only, Elapses}
use Rattle.mem_disk.specs.Contents.{Content, settled, seen_in, after_op, after_call, after_calls, Takes, IsImage}
use Rattle.mem_disk.specs.StepLemmas.{takes_none}
use Rattle.mem_disk.specs.ReachLemmas.{reaches_back, reaches_on}
use Rattle.mem_disk.specs.MemDisks.{Past, content_of, content_at, with_tried, crash_content, has_some, past_seen, PastImages, past_moment, PastLeftSince, past_unsynced}
use Rattle.mem_disk.specs.DiskLaws.{has_some-push}
use Rattle.mem_disk.proofs.OpLists.{after_ops-push, after_calls-push}

abbrev pub PastElapses : Past → Past → Type 0
PastElapses old new = Elapses past_moment PastLeftSince PastImages old new

pub still : (p : Past) → PastElapses p p
still p = record { later = omega arith; nothing_else = λ t c le left. inl left; keeps = λ t c le left. left }

-- a past with one call more
module _ (p : Past) (op : Op) (idle : p.tried ≡ None) where
  abbrev pub more : Past
  more = record p { done = p.done ++ op ∷ [] }

  crash_now : crash_content p ≡ content_of p
  crash_now = ap (with_tried (content_of p)) idle

  at_before : (k : ℕ) → k < length p.done → content_at more k ≡ content_at p k
  at_before k below = ap (after_calls (settled p.first)) (take-append-le k p.done (op ∷ []) (omega (arith, below)))

  at_now : content_at more (length p.done) ≡ crash_content p
  at_now = ap (after_calls (settled p.first)) (take-append-le (length p.done) p.done (op ∷ []) (omega arith) ∙ take_all (length p.done) p.done (omega arith)) ∙ sym crash_now

  long : length (p.done ++ op ∷ []) ≡ length p.done + 1
  long = length-append p.done (op ∷ [])

  was : (t k : ℕ) (c : List ℕ) → t ≤ k → k < length (p.done ++ op ∷ []) → IsImage (content_at more k) c → PastLeftSince p t c
  was t k c later earlier left = elim (cases_lt k (length p.done)) [
    | inl below ↦ inr (k, later, below, subst (λ (x : Content). IsImage x c) (at_before k below) left)
    | inr above ↦
        let last : k ≡ length p.done = omega (arith, long, above, earlier) in
        inl (subst (λ (x : Content). IsImage x c) (ap (content_at more) last ∙ at_now) left)
  ]

  is_since : (t : ℕ) (c : List ℕ) → t ≤ length p.done → PastLeftSince p t c → PastLeftSince more t c
  is_since t c le (inl now) = inr (length p.done, le, omega (arith, long), subst (λ (x : Content). IsImage x c) (sym at_now) now)
  is_since t c le (inr (k, later, earlier, left)) = inr (k, later, omega (arith, long, earlier), subst (λ (x : Content). IsImage x c) (sym (at_before k earlier)) left)

  not_new : (t : ℕ) (c : List ℕ) → PastLeftSince more t c → PastLeftSince p t c ⊎ PastImages more c
  not_new t c (inl now) = inr now
  not_new t c (inr (k, later, earlier, left)) = inl (was t k c later earlier left)

  pub time_more : PastElapses p more
  time_more = record { later = omega (arith, long); nothing_else = λ t c le left. not_new t c left; keeps = λ t c le left. is_since t c le left }

  -- a past with a call that was tried
  abbrev pub tried_it : Past
  tried_it = record p { tried = Some op }

  crash_tried : crash_content tried_it ≡ record { base = (content_of p).base; since = (content_of p).since ++ op ∷ [] }
  crash_tried = refl

  pub images_tried : Follows (Takes op) (PastImages p) (PastImages tried_it)
  images_tried c now =
      let (d, before, taken) = reaches_back (content_of p).base (content_of p).since op c (subst (λ (x : Content). IsImage x c) crash_tried now) in
      (d, subst (λ (x : Content). IsImage x d) (sym crash_now) before, taken)

  stays : (c : List ℕ) → PastImages p c → PastImages tried_it c
  stays c now =
      let before = subst (λ (x : Content). IsImage x c) crash_now now in
      subst (λ (x : Content). IsImage x c) (sym crash_tried) (reaches_on (content_of p).base (content_of p).since op c c before (takes_none op c))

  tried_was : (t : ℕ) (c : List ℕ) → PastLeftSince tried_it t c → PastLeftSince p t c ⊎ PastImages tried_it c
  tried_was t c (inl now) = inr now
  tried_was t c (inr left) = inl (inr left)

  tried_is : (t : ℕ) (c : List ℕ) → PastLeftSince p t c → PastLeftSince tried_it t c
  tried_is t c (inl now) = inl (stays c now)
  tried_is t c (inr left) = inr left

  pub time_tried : PastElapses p tried_it
  time_tried = record { later = omega arith; nothing_else = λ t c le left. tried_was t c left; keeps = λ t c le left. tried_is t c left }

  -- a write or a cut
  module _ (grows : (c : Content) → after_call c op ≡ record { base = c.base; since = c.since ++ op ∷ [] }) where
    content_more : content_of more ≡ record { base = (content_of p).base; since = (content_of p).since ++ op ∷ [] }
    content_more = after_calls-push (settled p.first) p.done op ∙ grows (content_of p)

    crash_more : crash_content more ≡ record { base = (content_of p).base; since = (content_of p).since ++ op ∷ [] }
    crash_more = ap (with_tried (content_of more)) idle ∙ content_more

    pub seen_more : past_seen more ≡ after_op (past_seen p) op
    seen_more = ap seen_in content_more ∙ after_ops-push (content_of p).base (content_of p).since op

    pub dirt_more : past_unsynced more ≡ true
    dirt_more = ap (λ (c : Content). has_some c.since) crash_more ∙ has_some-push (content_of p).since op

    pub images_more : Follows (Takes op) (PastImages p) (PastImages more)
    images_more c now =
        let (d, before, taken) = reaches_back (content_of p).base (content_of p).since op c (subst (λ (x : Content). IsImage x c) crash_more now) in
        (d, subst (λ (x : Content). IsImage x d) (sym crash_now) before, taken)

-- a past with one sync more
module _ (p : Past) (idle : p.tried ≡ None) where
  abbrev pub more_synced : Past
  more_synced = record p { done = p.done ++ synced ∷ [] }

  content_synced : content_of more_synced ≡ settled (past_seen p)
  content_synced = after_calls-push (settled p.first) p.done synced

  crash_synced : crash_content more_synced ≡ settled (past_seen p)
  crash_synced = ap (with_tried (content_of more_synced)) idle ∙ content_synced

  pub seen_synced : past_seen more_synced ≡ past_seen p
  seen_synced = ap seen_in content_synced

  pub only_synced : Only (past_seen p) (PastImages more_synced)
  only_synced c now = subst (λ (x : Content). IsImage x c) crash_synced now

  pub clean_synced : past_unsynced more_synced ≡ false
  clean_synced = ap (λ (c : Content). has_some c.since) crash_synced
