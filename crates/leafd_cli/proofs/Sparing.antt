-- What comes of reading a shard whose spare may be missing.
use Rattle.std.proofs.Common.{◌≡◌, ◌≢◌, ◌==◌, true, false, ℕ, ◌+◌, ◌-◌, ◌^◌, ◌≤◌, List, refl, sym, ◌∙◌, ap, subst, inl, inr, ⊎_elim, arith}
use Rattle.std.specs.Prelude.{Bool, Option, Some, None, Ok, Err, MatchOption, MatchBool, min}
use Rattle.std.specs.Option.{option_map}
use Rattle.std.proofs.lemmas.Bool.Decides.{nat_tests}
use Rattle.leaf_edges.specs.Causes.{RoseByOne}
use Rattle.leaf_edges.specs.Disks.{Op, Unchanged}
use Rattle.leaf_edges.specs.Files.{TellsAs, IsEmptyDisk, HandsOut, GoesOut, GoesBack, SameFiles, IfHanded, CountsDisk}
use Rattle.stream_fold.specs.declared.entry.Numbered.{Numbered}
use Rattle.shard_machine.specs.declared.facts.Facts.{Facts}
use Rattle.record_log.specs.declared.fault.StoreFault.{StoreFault}
use Rattle.record_log.specs.declared.fault.StoreFault.TheVariants.{ReadFault, BadJournal, TooLong, NoMemory}
use Rattle.shard_store.specs.Reads.{ReadsStore}
use Rattle.record_log.specs.Stores.{OnSpares, SpareHas, StoreCauses}
use Rattle.leafd_cli.specs.declared.inspect.InspectFault.{InspectFault}
use Rattle.leafd_cli.specs.Folders.{contents, KeepsFiles}
use Rattle.leafd_cli.specs.Inspections.{ReadsDisks, HasRead, TurnsInto}
use Rattle.leafd_cli.specs.Outcome.{GoesUp}
use Rattle.leafd_cli.proofs.Handing.{keeps_same, keeps_of_same, out_and_back}

module _ {F D : Type 0} (place : F → List ℕ → Option D) (is_out : F → List ℕ → Bool) (seen : D → List ℕ) (handed : F → List (List ℕ)) (text_of : F → List ℕ → Option (List ℕ)) where
  spare_kept_at : (name : List ℕ) (f g h : F) (spare spare' : Option D) → is_out f name ≡ false → contents place seen f name ≡ option_map seen spare' → OnSpares (λ s t. seen t ≡ seen s) spare spare'
      → IfHanded (Ok spare) (λ d. GoesOut place is_out handed text_of name f g) (SameFiles place is_out handed text_of f g)
      → MatchOption spare' (h ≡ g) (λ d. GoesBack place is_out handed text_of name d g h) → KeepsFiles place is_out seen f h
  spare_kept_at name f g h None None here bytes same goes back = subst (KeepsFiles place is_out seen f) (sym back) (keeps_of_same place is_out seen handed text_of f g goes)
  spare_kept_at name f g h None (Some d') here bytes same goes back = elim same [ ]
  spare_kept_at name f g h (Some d) None here bytes same goes back = elim same [ ]
  spare_kept_at name f g h (Some d) (Some d') here bytes same goes back = out_and_back place is_out seen handed text_of name f g g h d' here bytes goes (keeps_same place is_out seen g) back

  -- the files are as they were once the spare, if there is one, is put back
  pub spare_kept : (name out_name back_name : List ℕ) (f g h : F) (spare spare' : Option D) → out_name ≡ name → back_name ≡ name → is_out f name ≡ false → contents place seen f name ≡ option_map seen spare' → OnSpares (λ s t. seen t ≡ seen s) spare spare'
      → IfHanded (Ok spare) (λ d. GoesOut place is_out handed text_of out_name f g) (SameFiles place is_out handed text_of f g)
      → MatchOption spare' (h ≡ g) (λ d. GoesBack place is_out handed text_of back_name d g h) → KeepsFiles place is_out seen f h
  spare_kept name out_name back_name f g h spare spare' out_is back_is here bytes same goes back =
      spare_kept_at name f g h spare spare' here bytes same
      (subst (λ (n : List ℕ). IfHanded (Ok spare) (λ d. GoesOut place is_out handed text_of n f g) (SameFiles place is_out handed text_of f g)) out_is goes)
      (subst (λ (n : List ℕ). MatchOption spare' (h ≡ g) (λ d. GoesBack place is_out handed text_of n d g h)) back_is back)

-- what was read of the spare is what the files have under its name
module _ {D : Type 0} (seen : D → List ℕ) (images : D → List ℕ → Type 0) (moment : D → ℕ) (left_since : D → ℕ → List ℕ → Type 0) (unsynced : D → Bool) (done : D → List Op) (failed : D → Option Op) where
  pub handed_bytes : (here spare : Option D) → HandsOut (TellsAs seen images moment left_since unsynced done failed) (IsEmptyDisk seen images unsynced done failed) here false (Ok spare) → option_map seen here ≡ option_map seen spare
  handed_bytes None None out = refl
  handed_bytes (Some kept) None out = absurd (grind (arith, out.0))
  handed_bytes None (Some d) out = absurd (grind (arith, out.0))
  handed_bytes (Some kept) (Some d) out = ap Some (sym out.content)

  pub same_bytes : (spare spare' : Option D) → OnSpares (Unchanged seen images unsynced done failed) spare spare' → OnSpares (λ s t. seen t ≡ seen s) spare spare'
  same_bytes None None same = same
  same_bytes None (Some d') same = elim same [ ]
  same_bytes (Some d) None same = elim same [ ]
  same_bytes (Some d) (Some d') same = same.content

  pub same_seen : (spare spare' : Option D) → OnSpares (λ s t. seen t ≡ seen s) spare spare' → option_map seen spare ≡ option_map seen spare'
  same_seen None None same = refl
  same_seen None (Some d') same = elim same [ ]
  same_seen (Some d) None same = elim same [ ]
  same_seen (Some d) (Some d') same = ap Some (sym same)

-- what is told of the fault is right of the disks
pub fault_told : (shard : ℕ) (a : List ℕ) (b : Option (List ℕ)) (fault : StoreFault) (told : InspectFault) → TurnsInto shard fault told → ReadsStore a b (Err fault) → ReadsDisks shard a b (Err told)
fault_told shard a b ReadFault told is read = subst (λ (t : InspectFault). ReadsDisks shard a b (Err t)) (sym is) tt
fault_told shard a b (BadJournal part place) told is read = ⊎_elim (λ named. subst (λ (t : InspectFault). ReadsDisks shard a b (Err t)) (sym named) (part, read, refl)) (λ none. subst (λ (t : InspectFault). ReadsDisks shard a b (Err t)) (sym none) tt) is
fault_told shard a b (TooLong part len) told is read = ⊎_elim (λ named. subst (λ (t : InspectFault). ReadsDisks shard a b (Err t)) (sym named) (part, read, refl)) (λ none. subst (λ (t : InspectFault). ReadsDisks shard a b (Err t)) (sym none) tt) is
fault_told shard a b NoMemory told is read = subst (λ (t : InspectFault). ReadsDisks shard a b (Err t)) (sym is) tt

counts_none : (n disks disks' : ℕ) → n ≡ 0 → CountsDisk n disks disks' → disks' ≡ disks
counts_none n disks disks' none counts = subst (λ (k : ℕ). CountsDisk k disks disks') none counts

counts_one : (n disks disks' : ℕ) (t : Bool) → (n == 0) ≡ t → 1 ≤ n → MatchBool t (disks' ≡ disks) (GoesUp disks disks') → GoesUp disks disks'
counts_one n disks disks' true none some counts = absurd (grind (arith, nat_tests, none, some))
counts_one n disks disks' false none some counts = counts

-- what a read of a shard gives
abbrev Ends : Type 0
Ends = ℕ × List (Facts × List Numbered)

some : {n m : ℕ} → RoseByOne n m → n ≡ 0 → m ≢ 0
some rose none zero = absurd (omega (arith, rose, none, zero))

module _ {D : Type 0} (faults : D → ℕ) where
  -- the spare came back without a fault
  spare_fine : (spare spare' : Option D) (disks disks' : ℕ) → IfHanded (Ok spare) (λ d. faults d ≡ 0) (Unit {0}) → OnSpares (λ s t. faults t ≡ faults s) spare spare' → MatchOption spare' (disks' ≡ disks) (λ d. CountsDisk (faults d) disks disks') → disks' ≡ disks
  spare_fine None None disks disks' fresh same counts = counts
  spare_fine None (Some d') disks disks' fresh same counts = elim same [ ]
  spare_fine (Some d) None disks disks' fresh same counts = elim same [ ]
  spare_fine (Some d) (Some d') disks disks' fresh same counts = counts_none (faults d') disks disks' (same ∙ fresh) counts

  -- the spare came back with a fault
  spare_failed : (spare spare' : Option D) (disks disks' : ℕ) → IfHanded (Ok spare) (λ d. faults d ≡ 0) (Unit {0}) → SpareHas (λ s t. RoseByOne (faults s) (faults t)) spare spare' → MatchOption spare' (disks' ≡ disks) (λ d. CountsDisk (faults d) disks disks') → GoesUp disks disks'
  spare_failed None None disks disks' fresh rose counts = elim rose [ ]
  spare_failed None (Some d') disks disks' fresh rose counts = elim rose [ ]
  spare_failed (Some d) None disks disks' fresh rose counts = elim rose [ ]
  spare_failed (Some d) (Some d') disks disks' fresh rose counts = counts_one (faults d') disks disks' (faults d' == 0) refl (omega (arith, fresh, rose)) counts

  -- when each fault of a shard comes
  pub causes_told : (shard : ℕ) (fault : StoreFault) (told : InspectFault) (old new : D) (spare spare' : Option D) (before now disks disks' : ℕ) → TurnsInto shard fault told → faults old ≡ 0 → now ≡ before → IfHanded (Ok spare) (λ d. faults d ≡ 0) (Unit {0}) → StoreCauses {T = Ends} faults old new spare spare' (Err fault) → MatchOption spare' (disks' ≡ disks) (λ d. CountsDisk (faults d) disks disks') → HasRead {T = Ends} (faults new) before now disks disks' (Err told)
  causes_told shard ReadFault told old new spare spare' before now disks disks' is none stays fresh cause counts =
      subst (λ (t : InspectFault). HasRead {T = Ends} (faults new) before now disks disks' (Err t)) (sym is)
      (⊎_elim
      (λ own. (stays, inl (some own.0 none, spare_fine spare spare' disks disks' fresh own.1 counts)))
      (λ its. (stays, inr (its.0 ∙ none, spare_failed spare spare' disks disks' fresh its.1 counts)))
      cause)
  causes_told shard (BadJournal part place) told old new spare spare' before now disks disks' is none stays fresh cause counts =
      let kept : (faults new ≡ 0) × (now ≡ before) × (disks' ≡ disks) = (cause.0 ∙ none, stays, spare_fine spare spare' disks disks' fresh cause.1 counts) in
      ⊎_elim (λ named. subst (λ (t : InspectFault). HasRead {T = Ends} (faults new) before now disks disks' (Err t)) (sym named) kept) (λ out. subst (λ (t : InspectFault). HasRead {T = Ends} (faults new) before now disks disks' (Err t)) (sym out) kept) is
  causes_told shard (TooLong part len) told old new spare spare' before now disks disks' is none stays fresh cause counts =
      let kept : (faults new ≡ 0) × (now ≡ before) × (disks' ≡ disks) = (cause.0 ∙ none, stays, spare_fine spare spare' disks disks' fresh cause.1 counts) in
      ⊎_elim (λ named. subst (λ (t : InspectFault). HasRead {T = Ends} (faults new) before now disks disks' (Err t)) (sym named) kept) (λ out. subst (λ (t : InspectFault). HasRead {T = Ends} (faults new) before now disks disks' (Err t)) (sym out) kept) is
  causes_told shard NoMemory told old new spare spare' before now disks disks' is none stays fresh cause counts =
      subst (λ (t : InspectFault). HasRead {T = Ends} (faults new) before now disks disks' (Err t)) (sym is) (cause.0 ∙ none, stays, spare_fine spare spare' disks disks' fresh cause.1 counts)
