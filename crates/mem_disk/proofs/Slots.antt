-- Names and their disks in a list.
use Rattle.std.proofs.Common.{◌≡◌, ◌≢◌, ℕ, zero, suc, ◌+◌, ◌<◌, ◌||◌, Bool, true, false, List, [], ◌∷◌, ◌++◌, length, take, drop, set, get_or, Option, Some, None, inl, inr, refl, sym, ap, subst, ◌∙◌, arith, take_all}
use Rattle.std.specs.Prelude.{bytes_eq, is_none, if◌then◌else◌}
use Rattle.std.proofs.lemmas.Bool.{cases_Bool}
use Rattle.std.proofs.lemmas.List.{take_more, drop_more}
use Rattle.std.proofs.lemmas.Slice.Eq.{bytes_eq-Decides}
use Rattle.mem_disk.specs.MemDisks.{DiskState}
use Rattle.mem_disk.specs.Stores.{Slot, Text, disk_in, is_out_in, text_in, has_name, IsFirstOf, disk_at, with_disk, with_disk_of, names_of}

pub same_name : (a b : List ℕ) → bytes_eq a b ≡ true → a ≡ b
same_name a b is = (bytes_eq-Decides a b).0 is

pub name_itself : (a : List ℕ) → bytes_eq a a ≡ true
name_itself a = (bytes_eq-Decides a a).1 refl

pub other_name : (a b : List ℕ) → a ≢ b → bytes_eq a b ≡ false
other_name a b differ = elim (cases_Bool (bytes_eq a b)) [ inl is ↦ absurd (differ (same_name a b is)) | inr no_ ↦ no_ ]

-- ---- a slot at a place

pub disk_at-read : (slots : List Slot) (at : ℕ) (slot : Slot) → at < length slots → slot ≡ get_or slots at slot → slot.disk ≡ disk_at slots at
disk_at-read [] at slot within is = absurd (omega arith)
disk_at-read (s ∷ slots) zero slot within is = ap (λ (x : Slot). x.disk) is
disk_at-read (s ∷ slots) (suc at) slot within is = disk_at-read slots at slot (omega (arith, within)) is

pub with_disk-set : (slots : List Slot) (at : ℕ) (slot : Slot) (disk : Option DiskState) → at < length slots → slot ≡ get_or slots at slot → set slots at (record slot { disk = disk }) ≡ with_disk slots at disk
with_disk-set [] at slot disk within is = absurd (omega arith)
with_disk-set (s ∷ slots) zero slot disk within is = ap (λ (x : Slot). record x { disk = disk } ∷ slots) is
with_disk-set (s ∷ slots) (suc at) slot disk within is = ap (λ (l : List Slot). s ∷ l) (with_disk-set slots at slot disk (omega (arith, within)) is)

-- ---- the search for a name

or_parts : (a b : Bool) → (a || b) ≡ false → (a ≡ false) × (b ≡ false)
or_parts true b is = absurd (cc)
or_parts false b is = (refl, is)

pub first_here : (slots : List Slot) (name : List ℕ) (at : ℕ) (slot : Slot) → has_name (take at slots) name ≡ false → at < length slots → slot ≡ get_or slots at slot → bytes_eq slot.name name ≡ true → IsFirstOf slots name at
first_here [] name at slot none within is named = absurd (omega arith)
first_here (s ∷ slots) name zero slot none within is named = subst (λ (x : Slot). bytes_eq x.name name ≡ true) is named
first_here (s ∷ slots) name (suc at) slot none within is named =
    let parts = or_parts (bytes_eq s.name name) (has_name (take at slots) name) none in
    (parts.0, first_here slots name at slot parts.1 (omega (arith, within)) is named)

has_name-push : (slots : List Slot) (slot : Slot) (name : List ℕ) → has_name slots name ≡ false → bytes_eq slot.name name ≡ false → has_name (slots ++ slot ∷ []) name ≡ false
has_name-push [] slot name none differs = ap (λ (b : Bool). b || false) differs
has_name-push (s ∷ slots) slot name none differs =
    let parts = or_parts (bytes_eq s.name name) (has_name slots name) none in
    ap (λ (b : Bool). b || has_name (slots ++ slot ∷ []) name) parts.0 ∙ has_name-push slots slot name parts.1 differs

pub none_further : (slots : List Slot) (name : List ℕ) (at : ℕ) (slot : Slot) → has_name (take at slots) name ≡ false → at < length slots → slot ≡ get_or slots at slot → bytes_eq slot.name name ≡ false
    → has_name (take (at + 1) slots) name ≡ false
none_further slots name at slot none within is differs =
    ap (λ (l : List Slot). has_name l name) (take_more slots at slot within ∙ ap (λ (x : Slot). take at slots ++ x ∷ []) (sym is)) ∙ has_name-push (take at slots) slot name none differs

pub none_at_all : (slots : List Slot) (name : List ℕ) (at : ℕ) → has_name (take at slots) name ≡ false → length slots ≡ at → has_name slots name ≡ false
none_at_all slots name at none all = ap (λ (l : List Slot). has_name l name) (sym (take_all at slots (omega (arith, all)))) ∙ none

pub text_here : (texts : List Text) (name : List ℕ) (at : ℕ) (text : Text) → at < length texts → text ≡ get_or texts at text → bytes_eq text.name name ≡ true → text_in (drop at texts) name ≡ Some text.bytes
text_here texts name at text within is named =
    ap (λ (l : List Text). text_in l name) (drop_more texts at text within ∙ ap (λ (x : Text). x ∷ drop (at + 1) texts) (sym is))
    ∙ ap (λ (b : Bool). if b then Some text.bytes else text_in (drop (at + 1) texts) name) named

pub text_further : (texts : List Text) (name : List ℕ) (at : ℕ) (text : Text) → at < length texts → text ≡ get_or texts at text → bytes_eq text.name name ≡ false → text_in (drop (at + 1) texts) name ≡ text_in (drop at texts) name
text_further texts name at text within is differs =
    sym (ap (λ (l : List Text). text_in l name) (drop_more texts at text within ∙ ap (λ (x : Text). x ∷ drop (at + 1) texts) (sym is))
    ∙ ap (λ (b : Bool). if b then Some text.bytes else text_in (drop (at + 1) texts) name) differs)

-- ---- the first slot of a name

pub chosen : {A : Type 0} (b : Bool) (x y : A) → b ≡ true → (if b then x else y) ≡ x
chosen b x y is = ap (λ (v : Bool). if v then x else y) is

pub passed : {A : Type 0} (b : Bool) (x y : A) → b ≡ false → (if b then x else y) ≡ y
passed b x y is = ap (λ (v : Bool). if v then x else y) is

pub first_within : (slots : List Slot) (name : List ℕ) (at : ℕ) → IsFirstOf slots name at → at < length slots
first_within [] name at first = absurd first
first_within (s ∷ slots) name zero first = omega arith
first_within (s ∷ slots) name (suc at) first = omega (arith, first_within slots name at first.1)

pub first_disk : (slots : List Slot) (name : List ℕ) (at : ℕ) → IsFirstOf slots name at → disk_in slots name ≡ disk_at slots at
first_disk [] name at first = absurd first
first_disk (s ∷ slots) name zero first = chosen (bytes_eq s.name name) s.disk (disk_in slots name) first
first_disk (s ∷ slots) name (suc at) first = passed (bytes_eq s.name name) s.disk (disk_in slots name) first.0 ∙ first_disk slots name at first.1

pub first_out : (slots : List Slot) (name : List ℕ) (at : ℕ) → IsFirstOf slots name at → is_out_in slots name ≡ is_none (disk_at slots at)
first_out [] name at first = absurd first
first_out (s ∷ slots) name zero first = chosen (bytes_eq s.name name) (is_none s.disk) (is_out_in slots name) first
first_out (s ∷ slots) name (suc at) first = passed (bytes_eq s.name name) (is_none s.disk) (is_out_in slots name) first.0 ∙ first_out slots name at first.1

pub first_kept : (slots : List Slot) (name : List ℕ) (at : ℕ) (disk : Option DiskState) → IsFirstOf slots name at → IsFirstOf (with_disk slots at disk) name at
first_kept [] name at disk first = absurd first
first_kept (s ∷ slots) name zero disk first = first
first_kept (s ∷ slots) name (suc at) disk first = (first.0, first_kept slots name at disk first.1)

pub disk_at-with : (slots : List Slot) (name : List ℕ) (at : ℕ) (disk : Option DiskState) → IsFirstOf slots name at → disk_at (with_disk slots at disk) at ≡ disk
disk_at-with [] name at disk first = absurd first
disk_at-with (s ∷ slots) name zero disk first = refl
disk_at-with (s ∷ slots) name (suc at) disk first = disk_at-with slots name at disk first.1

not_other : (s : Slot) (name other : List ℕ) → bytes_eq s.name name ≡ true → other ≢ name → bytes_eq s.name other ≡ false
not_other s name other named differ = other_name s.name other (λ e. differ (sym e ∙ same_name s.name name named))

pub others_disk : (slots : List Slot) (name : List ℕ) (at : ℕ) (disk : Option DiskState) → IsFirstOf slots name at → (other : List ℕ) → other ≢ name → disk_in (with_disk slots at disk) other ≡ disk_in slots other
others_disk [] name at disk first other differ = absurd first
others_disk (s ∷ slots) name zero disk first other differ =
    let no_ = not_other s name other first differ in
    passed (bytes_eq s.name other) disk (disk_in slots other) no_ ∙ sym (passed (bytes_eq s.name other) s.disk (disk_in slots other) no_)
others_disk (s ∷ slots) name (suc at) disk first other differ = ap (λ (d : Option DiskState). if bytes_eq s.name other then s.disk else d) (others_disk slots name at disk first.1 other differ)

pub others_out : (slots : List Slot) (name : List ℕ) (at : ℕ) (disk : Option DiskState) → IsFirstOf slots name at → (other : List ℕ) → other ≢ name → is_out_in (with_disk slots at disk) other ≡ is_out_in slots other
others_out [] name at disk first other differ = absurd first
others_out (s ∷ slots) name zero disk first other differ =
    let no_ = not_other s name other first differ in
    passed (bytes_eq s.name other) (is_none disk) (is_out_in slots other) no_ ∙ sym (passed (bytes_eq s.name other) (is_none s.disk) (is_out_in slots other) no_)
others_out (s ∷ slots) name (suc at) disk first other differ = ap (λ (d : Bool). if bytes_eq s.name other then is_none s.disk else d) (others_out slots name at disk first.1 other differ)

-- the slot at the place of the first of a name is that of the name
pub first_with : (slots : List Slot) (name : List ℕ) (at : ℕ) (disk : Option DiskState) → IsFirstOf slots name at → with_disk slots at disk ≡ with_disk_of slots name disk
first_with [] name at disk first = absurd first
first_with (s ∷ slots) name zero disk first = sym (chosen (bytes_eq s.name name) (record s { disk = disk } ∷ slots) (s ∷ with_disk_of slots name disk) first)
first_with (s ∷ slots) name (suc at) disk first =
    ap (λ (l : List Slot). s ∷ l) (first_with slots name at disk first.1) ∙ sym (passed (bytes_eq s.name name) (record s { disk = disk } ∷ slots) (s ∷ with_disk_of slots name disk) first.0)

pub first_named : (slots : List Slot) (name : List ℕ) (at : ℕ) → IsFirstOf slots name at → has_name slots name ≡ true
first_named [] name at first = absurd first
first_named (s ∷ slots) name zero first = ap (λ (b : Bool). b || has_name slots name) first
first_named (s ∷ slots) name (suc at) first = ap (λ (b : Bool). b || has_name slots name) first.0 ∙ first_named slots name at first.1

pub same_names : (slots : List Slot) (at : ℕ) (disk : Option DiskState) → names_of (with_disk slots at disk) ≡ names_of slots
same_names [] at disk = refl
same_names (s ∷ slots) zero disk = refl
same_names (s ∷ slots) (suc at) disk = ap (λ (l : List (List ℕ)). s.name ∷ l) (same_names slots at disk)

-- ---- a name that isn't there

pub absent_disk : (slots : List Slot) (name : List ℕ) → has_name slots name ≡ false → disk_in slots name ≡ None
absent_disk [] name none = refl
absent_disk (s ∷ slots) name none =
    let parts = or_parts (bytes_eq s.name name) (has_name slots name) none in
    passed (bytes_eq s.name name) s.disk (disk_in slots name) parts.0 ∙ absent_disk slots name parts.1

pub absent_out : (slots : List Slot) (name : List ℕ) → has_name slots name ≡ false → is_out_in slots name ≡ false
absent_out [] name none = refl
absent_out (s ∷ slots) name none =
    let parts = or_parts (bytes_eq s.name name) (has_name slots name) none in
    passed (bytes_eq s.name name) (is_none s.disk) (is_out_in slots name) parts.0 ∙ absent_out slots name parts.1

abbrev pub with_new : List Slot → List ℕ → List Slot
with_new slots name = slots ++ record { name = name; disk = None } ∷ []

pub new_disk : (slots : List Slot) (name : List ℕ) → has_name slots name ≡ false → disk_in (with_new slots name) name ≡ None
new_disk [] name none = chosen (bytes_eq name name) None None (name_itself name)
new_disk (s ∷ slots) name none =
    let parts = or_parts (bytes_eq s.name name) (has_name slots name) none in
    passed (bytes_eq s.name name) s.disk (disk_in (with_new slots name) name) parts.0 ∙ new_disk slots name parts.1

pub new_out : (slots : List Slot) (name : List ℕ) → has_name slots name ≡ false → is_out_in (with_new slots name) name ≡ true
new_out [] name none = chosen (bytes_eq name name) true false (name_itself name)
new_out (s ∷ slots) name none =
    let parts = or_parts (bytes_eq s.name name) (has_name slots name) none in
    passed (bytes_eq s.name name) (is_none s.disk) (is_out_in (with_new slots name) name) parts.0 ∙ new_out slots name parts.1

pub new_others_disk : (slots : List Slot) (name other : List ℕ) → other ≢ name → disk_in (with_new slots name) other ≡ disk_in slots other
new_others_disk [] name other differ = passed (bytes_eq name other) None None (other_name name other (λ e. differ (sym e)))
new_others_disk (s ∷ slots) name other differ = ap (λ (d : Option DiskState). if bytes_eq s.name other then s.disk else d) (new_others_disk slots name other differ)

pub new_others_out : (slots : List Slot) (name other : List ℕ) → other ≢ name → is_out_in (with_new slots name) other ≡ is_out_in slots other
new_others_out [] name other differ = passed (bytes_eq name other) true false (other_name name other (λ e. differ (sym e)))
new_others_out (s ∷ slots) name other differ = ap (λ (d : Bool). if bytes_eq s.name other then is_none s.disk else d) (new_others_out slots name other differ)
