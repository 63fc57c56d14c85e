-- The numbers of logs that grow.
use Rattle.std.proofs.Common.{◌≡◌, ℕ, zero, suc, ◌<◌, ◌^◌, max, List, [], ◌∷◌, ◌++◌, length, set, get_or, ap, subst, ◌∙◌, arith}
use Rattle.stream_fold.specs.declared.entry.Entry.{Entry}
use Rattle.stream_fold.specs.Histories.{last, number_put, limits_after, IsAbove}
use Rattle.stream_fold.proofs.Folds.{last-push, stands-push}
use Rattle.stream_fold.proofs.Growth.{RiseFrom-push}
use Rattle.leafd_cli.specs.Logs.{StreamLog, history_of, limits_of}
use Rattle.leafd_cli.specs.Keeping.{IsNumbered, AllNumbered}

-- an entry that may stand next in a log and keeps what the stream copies
pub record Goes (s : StreamLog) (e : Entry) : Type 0 where
  pub above : IsAbove (last s.entries) e
  pub below : number_put e < 2 ^ 63
  pub same : (limits_after (limits_of s) e).copies ≡ (limits_of s).copies

pub numbered-push : (s : StreamLog) (e : Entry) → IsNumbered s → Goes s e → IsNumbered (record s { entries = s.entries ++ e ∷ [] })
numbered-push s e n g = record {
  rising = RiseFrom-push s.entries (e ∷ []) 0 n.rising (let P : ℕ → Type 0 = λ low. IsAbove low e in subst P (let q : last s.entries ≡ max 0 (last s.entries) = omega arith in q) g.above, tt);
  below = omega (arith, last-push s.entries e, n.below, g.below);
  copies = ap (λ k. k.limits.copies) (stands-push (history_of s) e) ∙ (g.same ∙ n.copies);
}

pub AllNumbered-push : (streams : List StreamLog) (t : StreamLog) → AllNumbered streams → IsNumbered t → AllNumbered (streams ++ t ∷ [])
AllNumbered-push [] t n h = (h, tt)
AllNumbered-push (s ∷ streams) t n h = (n.0, AllNumbered-push streams t n.1 h)

pub AllNumbered-at : (streams : List StreamLog) (k : ℕ) (d : StreamLog) → k < length streams → AllNumbered streams → IsNumbered (get_or streams k d)
AllNumbered-at [] k d h n = absurd (omega (arith, h))
AllNumbered-at (s ∷ streams) zero d h n = n.0
AllNumbered-at (s ∷ streams) (suc k) d h n = AllNumbered-at streams k d (omega (arith, h)) n.1

pub AllNumbered-set : (streams : List StreamLog) (k : ℕ) (t : StreamLog) → AllNumbered streams → IsNumbered t → AllNumbered (set streams k t)
AllNumbered-set [] k t n h = tt
AllNumbered-set (s ∷ streams) zero t n h = (h, n.1)
AllNumbered-set (s ∷ streams) (suc k) t n h = (n.0, AllNumbered-set streams k t n.1 h)
