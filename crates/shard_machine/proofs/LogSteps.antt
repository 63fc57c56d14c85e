-- What one record more does to what a log says.
use Rattle.std.proofs.Common.{◌≡◌, ℕ, List, [], ◌∷◌, ◌++◌, length, Some, refl, ap, subst, append_assoc, append-nil, suc, slice_get}
use Rattle.stream_fold.specs.declared.entry.Entry.{Entry}
use Rattle.record_codec.specs.declared.records.Rec.{Rec}
use Rattle.record_codec.specs.declared.records.Rec.TheVariants.{Boot, Create, Remove, Of}
use Rattle.shard_machine.specs.Logs.{Made, Named, boot_after, named_after, recorded, by_incarnation, to_last, with_change}
use Rattle.shard_machine.specs.Legal.{MayFollow, MayAllFollow}

-- ---- what is read off a log with one record more

pub boot-snoc : (b : ℕ) (log : List Rec) (r : Rec) → boot_after b (log ++ r ∷ []) ≡ boot_after (boot_after b log) (r ∷ [])
unfolding boot_after
boot-snoc b [] r = refl
boot-snoc b (Boot n ∷ log) r = boot-snoc n log r
boot-snoc b (Create time config ∷ log) r = boot-snoc b log r
boot-snoc b (Remove name ∷ log) r = boot-snoc b log r
boot-snoc b (Of name entry ∷ log) r = boot-snoc b log r

pub named_after-snoc : (name : List ℕ) (n : Named) (log : List Rec) (r : Rec) → named_after name n (log ++ r ∷ []) ≡ recorded name (named_after name n log) r
unfolding named_after
named_after-snoc name n [] r = refl
named_after-snoc name n (s ∷ log) r = named_after-snoc name (recorded name n s) log r

pub all_follow-snoc : (log rs : List Rec) (r : Rec) → MayAllFollow log rs → MayFollow (log ++ rs) r → MayAllFollow log (rs ++ r ∷ [])
all_follow-snoc log [] r all may = (subst (λ (l : List Rec). MayFollow l r) (append-nil log) may, tt)
all_follow-snoc log (s ∷ rs) r all may = (all.0, all_follow-snoc (log ++ s ∷ []) rs r all.1 (rw append_assoc may))

-- ---- the streams of a name

pub to_last-snoc : (e : Entry) (ms : List Made) (m : Made) → to_last e (ms ++ m ∷ []) ≡ ms ++ with_change e m ∷ []
to_last-snoc e [] m = refl
to_last-snoc e (k ∷ []) m = refl
to_last-snoc e (k ∷ n ∷ ms) m = ap (λ (l : List Made). k ∷ l) (to_last-snoc e (n ∷ ms) m)

get-snoc : (ms : List Made) (m : Made) → slice_get (ms ++ m ∷ []) (length ms) ≡ Some m
get-snoc [] m = refl
get-snoc (k ∷ ms) m = get-snoc ms m

pub length-snoc : (ms : List Made) (m : Made) → length (ms ++ m ∷ []) ≡ suc (length ms)
length-snoc [] m = refl
length-snoc (k ∷ ms) m = ap suc (length-snoc ms m)

pub latest-snoc : (ms : List Made) (m : Made) → by_incarnation (ms ++ m ∷ []) (length (ms ++ m ∷ [])) ≡ Some m
latest-snoc ms m = rw length-snoc (get-snoc ms m)
