-- What a shard keeps, and for which log its disks stand, after each way of a call.
use Rattle.record_codec.specs.declared.records.Rec.{Rec}
use Rattle.record_log.specs.Appending.{IsOpenAt}
use Rattle.record_log.specs.LogStates.{LogState}
use Rattle.record_log.specs.Standing.{EachStandsFor, SinceStandFor}
use Rattle.shard_calls.proofs.LogLists.{Within, stands-within}
use Rattle.shard_calls.specs.Memories.{ShardState}
use Rattle.shard_calls.specs.Shards.{IsFor, Keeps, KeepsIf, with_doubt}
use Rattle.shard_machine.proofs.Images.{image_after-append}
use Rattle.shard_machine.proofs.LogSteps.{all_follow-snoc}
use Rattle.shard_machine.specs.Images.{image_after, no_image}
use Rattle.shard_machine.specs.Legal.{IsLegal, MayFollow}
use Rattle.shard_machine.specs.Steps.{Held, end_after, taken, view_in}
use Rattle.shard_machine.specs.Views.{View}
use Rattle.shard_table.specs.Holding.{Holds}
use Rattle.std.proofs.Common.{Bool, List, None, [], ap, false, refl, subst, sym, true, ℕ, ◌++◌, ◌+◌, ◌∙◌, ◌∷◌, ◌≡◌}

-- where a log ends behind two lists of records
pub end_after-append : (end : ℕ) (first more : List Rec) → end_after end (first ++ more) ≡ end_after (end_after end first) more
end_after-append end [] more = refl
end_after-append end (r ∷ first) more = end_after-append (end + taken r) first more

-- a legal log with one record more that may follow
pub legal-push : (log : List Rec) (r : Rec) → IsLegal log → MayFollow log r → IsLegal (log ++ r ∷ [])
legal-push log r legal may = all_follow-snoc [] log r legal may

module _ {D : Type 0} (images : D → List ℕ → Type 0) (moment : D → ℕ) (left_since : D → ℕ → List ℕ → Type 0) where
  -- what is held after some records is for the log with them
  pub for-after : (old new : LogState D) (h after : Held) (log records : List Rec) → IsFor images old h log → IsLegal (log ++ records)
      → after.image ≡ image_after h.image records → after.end ≡ end_after h.end records → EachStandsFor images new.main new.spare (with_doubt (log ++ records) after.doubt) → IsFor images new after (log ++ records)
  for-after old new h after log records is legal same_image same_end disks = record {
    legal = legal;
    image_is = same_image ∙ ap (λ i. image_after i records) is.image_is ∙ sym (image_after-append no_image log records);
    end_is = same_end ∙ ap (λ e. end_after e records) is.end_is ∙ sym (end_after-append 17 log records);
    disks = disks;
  }

  -- disks that stand for one of some logs, where these are within others
  pub each-within : (l : LogState D) (xs ys : List (List Rec)) → Within xs ys → EachStandsFor images l.main l.spare xs → EachStandsFor images l.main l.spare ys
  each-within l xs ys within each a b left right = stands-within a b xs ys within (each a b left right)

  pub since-within : (l : LogState D) (t u : ℕ) (xs ys : List (List Rec)) → Within xs ys → SinceStandFor left_since t u l.main l.spare xs → SinceStandFor left_since t u l.main l.spare ys
  since-within l t u xs ys within since a b left right = stands-within a b xs ys within (since a b left right)

-- ---- what is kept

-- of a shard that is loaded
pub keeps-loaded : {D : Type 0} (s : ShardState D) (h : Held) → s.memory.loaded ≡ true → h.loaded ≡ true → h.doubt ≡ None → IsOpenAt s.log h.end → Holds s.memory.table (view_in h) → Keeps s h
keeps-loaded s h on held none is_open holds = record {
  loaded = held ∙ sym on;
  parts = subst (λ (b : Bool). KeepsIf b s h) (sym on) (none, is_open, holds);
}

-- of one that isn't
pub keeps-unloaded : {D : Type 0} (s : ShardState D) (h : Held) (v : View) → s.memory.loaded ≡ false → h.loaded ≡ false → h.doubt ≡ s.memory.doubt → Holds s.memory.table v → v.node ≡ h.node → v.image ≡ h.image → Keeps s h
keeps-unloaded s h v off held same holds node image_is = record {
  loaded = held ∙ sym off;
  parts = subst (λ (b : Bool). KeepsIf b s h) (sym off) (same, v, holds, node, image_is);
}

-- what a loaded shard keeps
pub kept-loaded : {D : Type 0} (s : ShardState D) (h : Held) → s.memory.loaded ≡ true → Keeps s h → KeepsIf true s h
kept-loaded s h on keeps = subst (λ (b : Bool). KeepsIf b s h) on keeps.parts
