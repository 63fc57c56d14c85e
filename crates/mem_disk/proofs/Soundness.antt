-- What holds of every disk in memory holds after each of its calls.
use Rattle.std.proofs.Common.{◌≡◌, ℕ, ◌≤◌, Bool, true, false, ◌||◌, List, [], ◌∷◌, ◌++◌, length, Some, None, refl, sym, ap, subst, arith, length-take}
use Rattle.std.specs.Prelude.{is_some}
use Rattle.leaf_edges.specs.Disks.{Op, wrote, cut_to, synced, Follows}
use Rattle.mem_disk.specs.Contents.{Content, after_call, Takes}
use Rattle.mem_disk.specs.Entries.{EndsWithin}
use Rattle.mem_disk.specs.MemDisks.{Past, DiskState, past_seen, PastImages, fresh_past, IsSound, IsChange, max_disk, refuses, counted, faulted, failed_at}
use Rattle.mem_disk.specs.DiskLaws.{past_seen_is_image}
use Rattle.mem_disk.proofs.Pasts.{images_more, images_tried, only_synced}

abbrev pub IsShort : Past → Type 0
IsShort p = (c : List ℕ) → PastImages p c → length c ≤ max_disk

-- it isn't stopped where it refuses nothing
pub running : (a b : Bool) → (a || b) ≡ false → a ≡ false
running true b e = e
running false b e = refl

pub idle_past : (d : DiskState) → IsSound d → refuses d ≡ false → d.past.tried ≡ None
idle_past d sound open_ = sound.idle (running (is_some d.stopped) _ open_)

-- what a crash makes of a call is no longer than the disk may be
takes_short : (op : Op) (d c : List ℕ) → EndsWithin max_disk op → length d ≤ max_disk → Takes op d c → length c ≤ max_disk
takes_short (wrote place bytes) d c ends short taken = omega (arith, ends, short, taken.no_longer)
takes_short (cut_to len) d c ends short taken = omega (arith, short, length-take (length c) d, ap (λ (l : List ℕ). length l) taken.front)
takes_short synced d c ends short taken = omega (arith, short, ap (λ (l : List ℕ). length l) taken)

follows_short : (op : Op) (old new : Past) → EndsWithin max_disk op → IsShort old → Follows (Takes op) (PastImages old) (PastImages new) → IsShort new
follows_short op old new ends short follows c now =
    let (d, before, taken) = follows c now in
    takes_short op d c ends (short d before) taken

grows : (op : Op) → IsChange op → (c : Content) → after_call c op ≡ record { base = c.base; since = c.since ++ op ∷ [] }
grows (wrote place new) is c = refl
grows (cut_to len) is c = refl
grows synced is c = absurd is

pub fresh_short : (bytes : List ℕ) → length bytes ≤ max_disk → IsShort (fresh_past bytes)
fresh_short bytes short c now = omega (arith, short, ap (λ (l : List ℕ). length l) now)

module _ (d : DiskState) (sound : IsSound d) where
  pub sound_counted : IsSound (counted d)
  sound_counted = record { idle = sound.idle; range = sound.range; count = omega arith; short = sound.short }

  pub sound_faulted : IsSound (faulted d)
  sound_faulted = record { idle = sound.idle; range = omega arith; count = omega arith; short = sound.short }

  pub sound_failed : (op : Op) → IsSound (failed_at op d)
  sound_failed op = record { idle = sound.idle; range = omega arith; count = omega arith; short = sound.short }

  module _ (idle : d.past.tried ≡ None) where
    -- a write or a cut was done, and isn't counted yet
    pub sound_more : (op : Op) → IsChange op → EndsWithin max_disk op → IsSound (record d { past = record d.past { done = d.past.done ++ op ∷ [] } })
    sound_more op change ends = record {
      idle = λ runs. idle;
      range = sound.range;
      count = sound.count;
      short = follows_short op d.past (record d.past { done = d.past.done ++ op ∷ [] }) ends sound.short (images_more d.past op idle (grows op change));
    }

    -- a sync was done, and isn't counted yet
    pub sound_synced : IsSound (record d { past = record d.past { done = d.past.done ++ synced ∷ [] } })
    sound_synced = record {
      idle = λ runs. idle;
      range = sound.range;
      count = sound.count;
      short = λ c now. subst (λ (l : List ℕ). length l ≤ max_disk) (sym (only_synced d.past idle c now)) (sound.short (past_seen d.past) (past_seen_is_image d.past));
    }

    -- a write was tried
    pub tried_short : (op : Op) → EndsWithin max_disk op → IsShort (record d.past { tried = Some op })
    tried_short op ends = follows_short op d.past (record d.past { tried = Some op }) ends sound.short (images_tried d.past op idle)
