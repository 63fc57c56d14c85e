-- The laws of a disk, of a disk in memory.
use Rattle.std.proofs.Common.{◌≡◌, ℕ, true, false, List, [], ◌∷◌, ◌++◌, Option, Some, None, inl, inr, refl, arith}
use Rattle.leaf_edges.specs.Disks.{Op, Only}
use Rattle.mem_disk.specs.Contents.{Content, seen_in, IsImage}
use Rattle.mem_disk.specs.MemDisks.{Past, content_of, with_tried, has_some, past_seen, PastImages, past_moment, PastLeftSince, past_unsynced}
use Rattle.mem_disk.specs.StepLemmas.{takes_none}
use Rattle.mem_disk.specs.ReachLemmas.{reaches_on, reaches_all}

seen_stays : (c : Content) (tried : Option Op) → IsImage (with_tried c tried) (seen_in c)
seen_stays c None = reaches_all c.base c.since
seen_stays c (Some op) = reaches_on c.base c.since op (seen_in c) (seen_in c) (reaches_all c.base c.since) (takes_none op (seen_in c))

-- a disk as it reads is one of its images
pub past_seen_is_image : (p : Past) → PastImages p (past_seen p)
past_seen_is_image p = seen_stays (content_of p) p.tried

pub has_some-push : (ops : List Op) (op : Op) → has_some (ops ++ op ∷ []) ≡ true
has_some-push [] op = refl
has_some-push (o ∷ ops) op = refl

none_since : (base : List ℕ) (since : List Op) → has_some since ≡ false → Only (seen_in (record { base = base; since = since })) (IsImage (record { base = base; since = since }))
none_since base [] none = λ image is. is
none_since base (op ∷ since) none = λ image is. absurd (cc)

settled_only : (c : Content) (tried : Option Op) → has_some (with_tried c tried).since ≡ false → Only (seen_in c) (IsImage (with_tried c tried))
settled_only c None none = none_since c.base c.since none
settled_only c (Some op) none = λ image is. absurd (cc (has_some-push c.since op))

-- where nothing is unsynced a crash leaves what a read gives
pub past_synced_is_only : (p : Past) → past_unsynced p ≡ false → Only (past_seen p) (PastImages p)
past_synced_is_only p none = settled_only (content_of p) p.tried none

-- an image since now is one now
pub past_only_now : (p : Past) (image : List ℕ) → PastLeftSince p (past_moment p) image → PastImages p image
past_only_now p image (inl now) = now
past_only_now p image (inr (k, later, earlier, left)) = absurd (omega (arith, later, earlier))
