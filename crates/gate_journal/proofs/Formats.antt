-- What a new area is.
use Rattle.std.proofs.Common.{◌≡◌, ℕ, ◌+◌, true, false, List, [], ◌++◌, length, drop, refl, sym, ◌∙◌, ap, subst, arith, append-nil}
use Rattle.std.specs.Prelude.{Bool, Result, Ok, Err, OnOk}
use Rattle.std.proofs.lemmas.List.Elements.{All-nil}
use Rattle.std.proofs.Math.ListN.{drop_of_length-le}
use Rattle.leaf_edges.specs.Disks.{Only, overwritten}
use Rattle.gate_journal.specs.Areas.{IsBody, IsArea}
use Rattle.gate_journal.specs.Journals.{Stands, new_area, new_journal}

pub new_is_area : IsArea true 1 [] (new_area true)
new_is_area = record {
  area_gate = 1;
  gate = 0;
  rest = [];
  is = refl;
  counted = refl;
  stamp = omega arith;
  legal = All-nil IsBody;
  closed = λ _ no. omega (arith, no);
  unread = λ no. grind (arith, no);
}

pub length-new : (counts : Bool) → length (new_area counts) ≡ 18
length-new true = refl
length-new false = refl

drop_nothing : (n : ℕ) → (e : List ℕ) → e ≡ [] → drop n e ≡ []
drop_nothing n e is = drop_of_length-le e {i = n} (rw is (omega arith))

pub written_new : (old new bytes : List ℕ) (counts : Bool) → old ≡ [] → new ≡ overwritten old 0 bytes → bytes ≡ new_area counts → new ≡ new_area counts
written_new old new bytes counts empty is same = is ∙ ap (λ (l : List ℕ). overwritten l 0 bytes) empty ∙ ap (λ (l : List ℕ). bytes ++ l) (drop_nothing (0 + length bytes) [] refl) ∙ append-nil bytes ∙ same

stands_new : {D : Type 0} (images : D → List ℕ → Type 0) (disk : D) (s : List ℕ) → s ≡ new_area true → Only s (images disk) → Stands images disk new_journal []
stands_new images disk s is only = record {
  counted = refl;
  place = refl;
  each = λ c now. subst (IsArea true 1 []) (sym (only c now ∙ is)) new_is_area;
  short = λ c now. omega (arith, ap length (only c now ∙ is));
}

-- an area that counts was written and synced
pub stands_written : {D T E : Type 0} (seen : D → List ℕ) (images : D → List ℕ → Type 0) (old new : D) (bytes : List ℕ) (counts : Bool) (r : Result T E) → seen old ≡ [] → bytes ≡ new_area counts
    → OnOk r (seen new ≡ overwritten (seen old) 0 bytes) → OnOk r (Only (seen new) (images new)) → OnOk r (counts ≡ true → Stands images new new_journal [])
stands_written seen images old new bytes counts (Ok value) empty same is only =
    λ counted. stands_new images new (seen new) (written_new (seen old) (seen new) bytes counts empty is same ∙ ap new_area counted) only
stands_written seen images old new bytes counts (Err error) empty same is only = tt
