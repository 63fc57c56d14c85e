-- Each answer of a store in memory is one that a store may give.
use Rattle.std.proofs.Common.{◌≡◌, ℕ, Bool, true, false, List, [], ◌∷◌, ◌++◌, Option, Some, None, option_map, Ok, refl, sym, ap, subst, ◌∙◌}
use Rattle.std.specs.Prelude.{is_none}
use Rattle.leaf_edges.specs.Memory.{risen}
use Rattle.leaf_edges.specs.Files.{TellsAs, IsEmptyDisk, SameFiles, GoesOut, GoesBack, HandsOut, IfHanded}
use Rattle.mem_disk.specs.MemDisks.{DiskState, fresh_disk, disk_seen, disk_images, disk_moment, disk_left_since, disk_unsynced, disk_done, disk_failed}
use Rattle.mem_disk.specs.Stores.{Store, IsFirstOf, disk_at, with_disk, has_name, forgiven, store_place, store_is_out, store_handed, store_text}
use Rattle.mem_disk.proofs.Slots.{first_disk, first_out, first_kept, disk_at-with, others_disk, others_out, absent_disk, absent_out, with_new, new_disk, new_out, new_others_disk, new_others_out}

abbrev pub Alike : DiskState → DiskState → Type 0
Alike one other = TellsAs disk_seen disk_images disk_moment disk_left_since disk_unsynced disk_done disk_failed one other

abbrev pub IsEmpty : DiskState → Type 0
IsEmpty disk = IsEmptyDisk disk_seen disk_images disk_unsynced disk_done disk_failed disk

alike_forgiven : (disk : DiskState) → Alike disk (forgiven disk)
alike_forgiven disk = record {
  content = refl;
  no_more = λ c now. now;
  no_fewer = λ c now. now;
  time = refl;
  no_more_since = λ t c left. left;
  no_fewer_since = λ t c left. left;
  dirt = refl;
  list = refl;
  last = refl;
}

fresh_is_empty : IsEmpty (fresh_disk [] [])
fresh_is_empty = record { content = refl; only = λ c now. now; dirt = refl; list = refl; last = refl }

some_disk : (here : Option DiskState) → is_none here ≡ false → (kept : DiskState) × (here ≡ Some kept)
some_disk None is = absurd (cc)
some_disk (Some kept) is = (kept, refl)

module _ (old : Store) (name : List ℕ) (at : ℕ) (first : IsFirstOf old.slots name at) where
  kept_disk : store_is_out old name ≡ false → (kept : DiskState) × (disk_at old.slots at ≡ Some kept)
  kept_disk in_place = some_disk (disk_at old.slots at) (sym (first_out old.slots name at first) ∙ in_place)

  abbrev pub lent : Store
  lent = record old { slots = with_disk old.slots at None; handed = old.handed ++ name ∷ []; calls = risen old.calls }

  goes_out : GoesOut store_place store_is_out store_handed store_text name old lent
  goes_out = record {
    away = first_disk (with_disk old.slots at None) name at (first_kept old.slots name at None first) ∙ disk_at-with old.slots name at None first;
    out = first_out (with_disk old.slots at None) name at (first_kept old.slots name at None first) ∙ ap is_none (disk_at-with old.slots name at None first);
    other_places = others_disk old.slots name at None first;
    other_outs = others_out old.slots name at None first;
    list = refl;
    texts = λ other. refl;
  }

  pub lent_disk : (make : Bool) (given : Option DiskState) → store_is_out old name ≡ false → given ≡ option_map forgiven (disk_at old.slots at) → HandsOut {D = DiskState} Alike IsEmpty (store_place old name) make (Ok given)
  lent_disk make given in_place is =
      let (kept, here) = kept_disk in_place in
      let handed : given ≡ Some (forgiven kept) = is ∙ ap (option_map forgiven) here in
      let place : store_place old name ≡ Some kept = first_disk old.slots name at first ∙ here in
      subst (λ (g : Option DiskState). HandsOut {D = DiskState} Alike IsEmpty (store_place old name) make (Ok g)) (sym handed)
      (subst (λ (p : Option DiskState). HandsOut {D = DiskState} Alike IsEmpty p make (Ok (Some (forgiven kept)))) (sym place) (alike_forgiven kept))

  pub lent_goes : (new : Store) (given : Option DiskState) → store_is_out old name ≡ false → given ≡ option_map forgiven (disk_at old.slots at) → new ≡ lent
      → IfHanded {D = DiskState} (Ok given) (λ disk. GoesOut store_place store_is_out store_handed store_text name old new) (SameFiles store_place store_is_out store_handed store_text old new)
  lent_goes new given in_place is same =
      let (kept, here) = kept_disk in_place in
      let handed : given ≡ Some (forgiven kept) = is ∙ ap (option_map forgiven) here in
      subst (λ (g : Option DiskState). IfHanded {D = DiskState} (Ok g) (λ disk. GoesOut store_place store_is_out store_handed store_text name old new) (SameFiles store_place store_is_out store_handed store_text old new)) (sym handed)
      (subst (GoesOut store_place store_is_out store_handed store_text name old) (sym same) goes_out)

  pub back_goes : (disk : DiskState) (disk_fault_count : ℕ) → GoesBack store_place store_is_out store_handed store_text name disk old (record old { slots = with_disk old.slots at (Some disk); disk_fault_count = disk_fault_count })
  back_goes disk disk_fault_count = record {
    here = first_disk (with_disk old.slots at (Some disk)) name at (first_kept old.slots name at (Some disk) first) ∙ disk_at-with old.slots name at (Some disk) first;
    in_place = first_out (with_disk old.slots at (Some disk)) name at (first_kept old.slots name at (Some disk) first) ∙ ap is_none (disk_at-with old.slots name at (Some disk) first);
    other_places = others_disk old.slots name at (Some disk) first;
    other_outs = others_out old.slots name at (Some disk) first;
    list = refl;
    texts = λ other. refl;
  }

module _ (old : Store) (name : List ℕ) (absent : has_name old.slots name ≡ false) where
  abbrev pub made : Store
  made = record old { slots = with_new old.slots name; handed = old.handed ++ name ∷ []; calls = risen old.calls }

  pub made_goes : (new : Store) → new ≡ made → GoesOut store_place store_is_out store_handed store_text name old new
  made_goes new same = subst (GoesOut store_place store_is_out store_handed store_text name old) (sym same) (record {
    away = new_disk old.slots name absent;
    out = new_out old.slots name absent;
    other_places = new_others_disk old.slots name;
    other_outs = new_others_out old.slots name;
    list = refl;
    texts = λ other. refl;
  })

  pub made_disk : (make : Bool) (disk : DiskState) → make ≡ true → disk ≡ fresh_disk [] [] → HandsOut {D = DiskState} Alike IsEmpty (store_place old name) make (Ok (Some disk))
  made_disk make disk asked is =
      subst (λ (p : Option DiskState). HandsOut {D = DiskState} Alike IsEmpty p make (Ok (Some disk))) (sym (absent_disk old.slots name absent)) (asked, subst IsEmpty (sym is) fresh_is_empty)

  pub not_there : store_place old name ≡ None
  not_there = absent_disk old.slots name absent

  pub not_out : store_is_out old name ≡ true → ⊥
  not_out out = cc (absent_out old.slots name absent, out)
