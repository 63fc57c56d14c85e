-- What a store of files in memory keeps from call to call, with the laws of that.
use Rattle.std.proofs.Common.{◌≡◌, ℕ, ◌≤◌, List, [], ◌++◌, length, refl, sym, ap, subst, ◌∙◌, arith, append_assoc, append-nil}
use Rattle.std.specs.Prelude.{All}
use Rattle.leaf_edges.specs.Files.{max_text}
use Rattle.mem_disk.specs.Stores.{Text, Store, names_of}

-- no text is too long
abbrev pub AllFit : List Text → Type 0
AllFit texts = All (λ (text : Text). length text.bytes ≤ max_text) texts

-- the second state of a store comes after the first by calls of the store
pub record StoreLeadsTo (old new : Store) : Type 0 where
  pub failing : new.failing ≡ old.failing
  pub texts : new.texts ≡ old.texts
  -- no name is lost, and new ones come behind
  pub new_names : List (List ℕ)
  pub names : names_of new.slots ≡ names_of old.slots ++ new_names
  pub new_handed : List (List ℕ)
  pub handed : new.handed ≡ old.handed ++ new_handed
  pub calls : old.calls ≤ new.calls
  pub faults : old.fault_count ≤ new.fault_count
  pub disk_faults : old.disk_fault_count ≤ new.disk_fault_count
  -- where no number is listed and no text is too long, no call fails
  pub quiet : old.failing ≡ [] → AllFit old.texts → new.fault_count ≡ old.fault_count

-- no call leads from a store to itself
pub store_leads_here : (s : Store) → StoreLeadsTo s s
store_leads_here s = record {
  failing = refl;
  texts = refl;
  new_names = [];
  names = sym (append-nil (names_of s.slots));
  new_handed = [];
  handed = sym (append-nil s.handed);
  calls = omega arith;
  faults = omega arith;
  disk_faults = omega arith;
  quiet = λ none fit. refl;
}

-- calls after calls lead on
pub store_leads_on : (one two three : Store) → StoreLeadsTo one two → StoreLeadsTo two three → StoreLeadsTo one three
store_leads_on one two three here there = record {
  failing = there.failing ∙ here.failing;
  texts = there.texts ∙ here.texts;
  new_names = here.new_names ++ there.new_names;
  names = there.names ∙ ap (λ (l : List (List ℕ)). l ++ there.new_names) here.names ∙ append_assoc (names_of one.slots) here.new_names there.new_names;
  new_handed = here.new_handed ++ there.new_handed;
  handed = there.handed ∙ ap (λ (l : List (List ℕ)). l ++ there.new_handed) here.handed ∙ append_assoc one.handed here.new_handed there.new_handed;
  calls = omega (arith, here.calls, there.calls);
  faults = omega (arith, here.faults, there.faults);
  disk_faults = omega (arith, here.disk_faults, there.disk_faults);
  quiet = λ none fit. there.quiet (here.failing ∙ none) (subst AllFit (sym here.texts) fit) ∙ here.quiet none fit;
}
