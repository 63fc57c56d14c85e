-- Each call of a store in memory leads on.
use Rattle.std.proofs.Common.{◌≡◌, ℕ, ◌≤◌, Bool, true, false, ◌==◌, List, [], ◌∷◌, ◌++◌, length, Option, Some, None, option_map, Ok, inl, inr, refl, sym, ap, subst, ◌∙◌, arith, append-nil}
use Rattle.std.specs.Prelude.{nat_lt, bytes_eq, if◌then◌else◌}
use Rattle.std.proofs.lemmas.Bool.{cases_Bool}
use Rattle.std.proofs.lemmas.Bool.Decides.{nat_tests}
use Rattle.std.proofs.lemmas.List.{map-append}
use Rattle.std.proofs.lemmas.List.Elements.{All-head, All-tail}
use Rattle.leaf_edges.specs.Memory.{risen, is_failing}
use Rattle.leaf_edges.specs.Files.{max_text}
use Rattle.mem_disk.specs.MemDisks.{DiskState}
use Rattle.mem_disk.specs.Stores.{Slot, Text, Store, IsFirstOf, with_disk, names_of, text_in, store_text, is_too_long, store_counted, store_failed, made, returned, disk_answer, DiskAnswer, AnswersDisk, forgiven, lent, has_name, disk_in, disk_at, IsCounted}
use Rattle.mem_disk.specs.StoreLeading.{AllFit, StoreLeadsTo}
use Rattle.mem_disk.proofs.Slots.{chosen, passed, first_disk, first_with, first_named, same_names}

fits_below : (n : ℕ) → n ≤ max_text → nat_lt max_text n ≡ false
fits_below n fits = grind (arith, nat_tests)

-- where no text is too long, that of no name is
text_fits : (texts : List Text) (name : List ℕ) → AllFit texts → is_too_long (text_in texts name) ≡ false
text_fits [] name fit = refl
text_fits (t ∷ texts) name fit = elim (cases_Bool (bytes_eq t.name name)) [
  | inl is ↦ ap is_too_long (chosen (bytes_eq t.name name) (Some t.bytes) (text_in texts name) is) ∙ fits_below (length t.bytes) (All-head (λ (text : Text). length text.bytes ≤ max_text) t texts fit)
  | inr other ↦ ap is_too_long (passed (bytes_eq t.name name) (Some t.bytes) (text_in texts name) other) ∙ text_fits texts name (All-tail (λ (text : Text). length text.bytes ≤ max_text) t texts fit)
]

not_listed : (s : Store) → s.failing ≡ [] → is_failing s.failing s.calls ≡ true → ⊥
not_listed s none listed =
    let never : is_failing s.failing s.calls ≡ false = ap (λ (l : List ℕ). is_failing l s.calls) none in
    cc

module _ (s : Store) (sound : IsCounted s) where
  pub counted_leads : (new : Store) → new ≡ store_counted s → StoreLeadsTo s new
  counted_leads new is = subst (StoreLeadsTo s) (sym is) (record {
    failing = refl;
    texts = refl;
    new_names = [];
    names = sym (append-nil (names_of s.slots));
    new_handed = [];
    handed = sym (append-nil s.handed);
    calls = omega (arith, sound.calls);
    faults = omega arith;
    disk_faults = omega arith;
    quiet = λ none fit. refl;
  })

  failed_where : (s.failing ≡ [] → AllFit s.texts → ⊥) → (new : Store) → new ≡ store_failed s → StoreLeadsTo s new
  failed_where loud new is = subst (StoreLeadsTo s) (sym is) (record {
    failing = refl;
    texts = refl;
    new_names = [];
    names = sym (append-nil (names_of s.slots));
    new_handed = [];
    handed = sym (append-nil s.handed);
    calls = omega (arith, sound.calls);
    faults = omega (arith, sound.faults);
    disk_faults = omega arith;
    quiet = λ none fit. absurd (loud none fit);
  })

  pub listed_leads : is_failing s.failing s.calls ≡ true → (new : Store) → new ≡ store_failed s → StoreLeadsTo s new
  listed_leads listed = failed_where (λ none fit. not_listed s none listed)

  pub long_leads : (name : List ℕ) → is_too_long (store_text s name) ≡ true → (new : Store) → new ≡ store_failed s → StoreLeadsTo s new
  long_leads name long = failed_where (λ none fit. cc (text_fits s.texts name fit, long))

  pub made_leads : (name : List ℕ) (new : Store) → new ≡ made s name → StoreLeadsTo s new
  made_leads name new is = subst (StoreLeadsTo s) (sym is) (record {
    failing = refl;
    texts = refl;
    new_names = name ∷ [];
    names = map-append (λ (slot : Slot). slot.name) s.slots (record { name = name; disk = None } ∷ []);
    new_handed = name ∷ [];
    handed = refl;
    calls = omega (arith, sound.calls);
    faults = omega arith;
    disk_faults = omega arith;
    quiet = λ none fit. refl;
  })

  module _ (at : ℕ) (name : List ℕ) where
    pub lent_leads : (new : Store) → new ≡ record s { slots = with_disk s.slots at None; handed = s.handed ++ name ∷ []; calls = risen s.calls } → StoreLeadsTo s new
    lent_leads new is = subst (StoreLeadsTo s) (sym is) (record {
      failing = refl;
      texts = refl;
      new_names = [];
      names = same_names s.slots at None ∙ sym (append-nil (names_of s.slots));
      new_handed = name ∷ [];
      handed = refl;
      calls = omega (arith, sound.calls);
      faults = omega arith;
      disk_faults = omega arith;
      quiet = λ none fit. refl;
    })

    pub back_leads : (disk : DiskState) (count : ℕ) (new : Store) → s.disk_fault_count ≤ count → new ≡ record s { slots = with_disk s.slots at (Some disk); disk_fault_count = count } → StoreLeadsTo s new
    back_leads disk count new rises is = subst (StoreLeadsTo s) (sym is) (record {
      failing = refl;
      texts = refl;
      new_names = [];
      names = same_names s.slots at (Some disk) ∙ sym (append-nil (names_of s.slots));
      new_handed = [];
      handed = sym (append-nil s.handed);
      calls = omega arith;
      faults = omega arith;
      disk_faults = rises;
      quiet = λ none fit. refl;
    })

-- the disk that goes out is the one under the name
pub lent_exactly : (s new : Store) (name : List ℕ) (make : Bool) (at : ℕ) (given : Option DiskState) → IsFirstOf s.slots name at → is_failing s.failing s.calls ≡ false → given ≡ option_map forgiven (disk_at s.slots at)
    → new ≡ record s { slots = with_disk s.slots at None; handed = s.handed ++ name ∷ []; calls = risen s.calls } → AnswersDisk (disk_answer s name make) s new (Ok given)
lent_exactly s new name make at given first open_ disk is =
    let answer : disk_answer s name make ≡ record { fails = false; disk = option_map forgiven (disk_in s.slots name); left = lent s name } =
    passed (is_failing s.failing s.calls) _ _ open_ ∙ chosen (has_name s.slots name) _ _ (first_named s.slots name at first) in
    subst (λ (a : DiskAnswer). AnswersDisk a s new (Ok given)) (sym answer) (
      refl,
      disk ∙ ap (option_map forgiven) (sym (first_disk s.slots name at first)),
      is ∙ ap (λ (l : List Slot). record (lent s name) { slots = l }) (first_with s.slots name at None first),
    )

pub back_exactly : (s new : Store) (name : List ℕ) (disk : DiskState) (at count : ℕ) → IsFirstOf s.slots name at → count ≡ (if disk.fault_count == 0 then s.disk_fault_count else risen s.disk_fault_count)
    → new ≡ record s { slots = with_disk s.slots at (Some disk); disk_fault_count = count } → new ≡ returned s name disk
back_exactly s new name disk at count first faults is = is ∙ ap (λ (l : List Slot). record s { slots = l; disk_fault_count = count }) (first_with s.slots name at (Some disk) first) ∙ ap (λ n. record (returned s name disk) { disk_fault_count = n }) faults
