-- Subjects in byte order: what a change under one subject leaves under any subject.
use Rattle.std.proofs.Common.{◌≡◌, ℕ, Bool, true, false, cond, if◌then◌else◌, List, [], ◌∷◌, ◌++◌, Option, Some, None, inl, inr, refl, sym, ap, ◌∙◌, subst, Ordering, not, eqb, arith}
use Rattle.std.specs.Prelude.{filter, ⊤, length, Result, Ok, Err, OnOk, OnErr}
use Rattle.stream_fold.specs.Publishing.{is_value}
use Rattle.std.proofs.lemmas.Bool.{cases_Bool}
use Rattle.std.proofs.lemmas.Map.Text.{is_eq-slice_cmp}
use Rattle.std.proofs.lemmas.Slice.Eq.{bytes_eq-Decides}
use Rattle.std.specs.Cmp.{eq_by_cmp_equiv}
use Rattle.std.specs.Cmp.Lexicographic.{nat_list_cmp_total, nat_list_eq_equiv, slice_cmp}
use Rattle.std.specs.Str.{bytes_eq}
use Rattle.std.specs.Ordering.{is_eq, nat_cmp}
use Rattle.std.specs.BTreeMap.{UpdatesBy, WritesThrough}
use Rattle.std.specs.Map.{KeepsOthers, keys_of}
use Rattle.std.specs.Global.{Vec}
use Rattle.indexed_rows.specs.Entries.{Entries, first_number, last_number}
use Rattle.indexed_rows.specs.Indexes.{Subjects, found, listed, has_place, keys_in, room_in, first_of_list, last_of_list, IsReady}

-- the order of the keys
abbrev pub key_cmp : Vec ℕ → Vec ℕ → Ordering
key_cmp a b = slice_cmp nat_cmp a.items b.items

-- w is held under this subject, and under each other one what was held
abbrev pub Puts : List ℕ → Option (Entries ⊤) → Subjects → Subjects → Type 0
Puts subject w old new = (q : List ℕ) → found q new ≡ (if bytes_eq subject q then w else found q old)

apart : (a b ks : List ℕ) → bytes_eq a b ≡ false → is_eq (slice_cmp nat_cmp a ks) ≡ true → is_eq (slice_cmp nat_cmp b ks) ≡ false
apart a b ks n y = is_eq-slice_cmp b ks ∙ nat_list_eq_equiv.symm b ks ∙ sym (nat_list_eq_equiv.congr a ks b (sym (is_eq-slice_cmp a ks) ∙ y)) ∙ n

under_others : (subject : List ℕ) (w : Option (Entries ⊤)) (old new : Subjects) → UpdatesBy key_cmp (λ key. slice_cmp nat_cmp subject key.items) old new w → (q : List ℕ) → bytes_eq subject q ≡ false → found q new ≡ found q old
unfolding KeepsOthers
under_others subject w old new h q n = h.3 _ (λ x y. (eq_by_cmp_equiv nat_list_cmp_total).congr q x.items y.items) (λ k. apart subject q k.items n)

pub puts : (subject : List ℕ) (w : Option (Entries ⊤)) (old new : Subjects) → UpdatesBy key_cmp (λ key. slice_cmp nat_cmp subject key.items) old new w → Puts subject w old new
puts subject w old new h = λ q. elim (cases_Bool (bytes_eq subject q)) [
  | inl same ↦ rw same (subst (λ (p : List ℕ). found p new ≡ w) ((bytes_eq-Decides subject q).0 same) h.1)
  | inr other ↦ rw other (under_others subject w old new h q other)
]

-- a value that was written through a borrow
pub writes : (subject : List ℕ) (v w : Entries ⊤) (old new : Subjects) → found subject old ≡ Some v → WritesThrough key_cmp (λ key. slice_cmp nat_cmp subject key.items) old w new → Puts subject (Some w) old new
writes subject v w old new here h = puts subject (Some w) old new (h.3 (rw here refl))

-- ---- the lists, and the places, that a change leaves

by_subject : {A : Type 0} (F : Option (Entries ⊤) → A) (b : Bool) (w o : Option (Entries ⊤)) → F (cond b w o) ≡ cond b (F w) (F o)
by_subject F true w o = refl
by_subject F false w o = refl

pub listed_after : (subject : List ℕ) (w : Option (Entries ⊤)) (old new : Subjects) → Puts subject w old new → (q : List ℕ) → listed q new ≡ (if bytes_eq subject q then keys_in w else listed q old)
listed_after subject w old new h q = ap (λ o. keys_in o) (h q) ∙ by_subject keys_in (bytes_eq subject q) w (found q old)

pub place_after : (subject : List ℕ) (w : Option (Entries ⊤)) (old new : Subjects) → Puts subject w old new → (q : List ℕ) → has_place q new ≡ (if bytes_eq subject q then room_in w else has_place q old)
place_after subject w old new h q = ap (λ o. room_in o) (h q) ∙ by_subject room_in (bytes_eq subject q) w (found q old)

-- a change of the list under a subject that is there
pub relisted : (F : List ℕ → List ℕ) (subject : List ℕ) (v w : Entries ⊤) (old new : Subjects) → found subject old ≡ Some v → keys_of w.items ≡ F (keys_of v.items) → Puts subject (Some w) old new → (q : List ℕ) → listed q new ≡ (if bytes_eq subject q then F (listed q old) else listed q old)
relisted F subject v w old new here changed h q = elim (cases_Bool (bytes_eq subject q)) [
  | inl same ↦ listed_after subject (Some w) old new h q ∙ rw same (changed ∙ ap (λ o. F (keys_in o)) (sym here ∙ ap (λ p. found p old) ((bytes_eq-Decides subject q).0 same)))
  | inr other ↦ listed_after subject (Some w) old new h q ∙ rw other refl
]

-- no place is lost
pub kept_places : (subject : List ℕ) (v w : Entries ⊤) (old new : Subjects) → found subject old ≡ Some v → (v.has_room ≡ true → w.has_room ≡ true) → Puts subject (Some w) old new → (q : List ℕ) → has_place q old ≡ true → has_place q new ≡ true
kept_places subject v w old new here keeps h q had = elim (cases_Bool (bytes_eq subject q)) [
  | inl same ↦ place_after subject (Some w) old new h q ∙ rw same (keeps (sym (ap (λ o. room_in o) (sym (ap (λ p. found p old) ((bytes_eq-Decides subject q).0 same)) ∙ here)) ∙ had))
  | inr other ↦ place_after subject (Some w) old new h q ∙ rw other had
]

-- the list under a subject that is not there, or has no numbers, stays where it goes or comes without numbers
pub emptied : (subject : List ℕ) (w : Option (Entries ⊤)) (old new : Subjects) → listed subject old ≡ [] → keys_in w ≡ [] → Puts subject w old new → (q : List ℕ) → listed q new ≡ listed q old
emptied subject w old new none is h q = elim (cases_Bool (bytes_eq subject q)) [
  | inl same ↦ listed_after subject w old new h q ∙ rw same (is ∙ (sym none ∙ ap (λ p. listed p old) ((bytes_eq-Decides subject q).0 same)))
  | inr other ↦ listed_after subject w old new h q ∙ rw other refl
]

-- the places under other subjects stay
pub other_places : (subject : List ℕ) (w : Option (Entries ⊤)) (old new : Subjects) → Puts subject w old new → (q : List ℕ) → bytes_eq subject q ≡ false → has_place q old ≡ true → has_place q new ≡ true
other_places subject w old new h q other had = place_after subject w old new h q ∙ rw other had

-- a place that came is there, and so are those that were
pub added_places : (subject : List ℕ) (w : Entries ⊤) (old new : Subjects) → w.has_room ≡ true → Puts subject (Some w) old new → (q : List ℕ) → has_place q old ≡ true → has_place q new ≡ true
added_places subject w old new room h q had = elim (cases_Bool (bytes_eq subject q)) [
  | inl same ↦ place_after subject (Some w) old new h q ∙ rw same room
  | inr other ↦ place_after subject (Some w) old new h q ∙ rw other had
]

pub place_here : (subject : List ℕ) (w : Entries ⊤) (old new : Subjects) → w.has_room ≡ true → Puts subject (Some w) old new → has_place subject new ≡ true
place_here subject w old new room h = place_after subject (Some w) old new h subject ∙ rw ((bytes_eq-Decides subject subject).1 refl) room

pub first_keys : (items : List (ℕ × ⊤)) → first_number items ≡ first_of_list (keys_of items)
first_keys [] = refl
first_keys (e ∷ es) = refl

pub last_keys : (items : List (ℕ × ⊤)) → last_number items ≡ last_of_list (keys_of items)
last_keys [] = refl
last_keys (e ∷ es) = rw (last_keys es) refl

pub keys_push : (items : List (ℕ × ⊤)) (n : ℕ) (u : ⊤) → keys_of (items ++ (n, u) ∷ []) ≡ keys_of items ++ n ∷ []
keys_push [] n u = refl
keys_push (e ∷ es) n u = ap (λ ks. e.0 ∷ ks) (keys_push es n u)

pub keys_without : (n : ℕ) (items : List (ℕ × ⊤)) → keys_of (filter (λ e. not (eqb e.0 n)) items) ≡ filter (λ k. not (eqb k n)) (keys_of items)
keys_without n [] = refl
keys_without n (e ∷ es) = elim (cases_Bool (eqb e.0 n)) [
  | inl same ↦ rw same (keys_without n es)
  | inr other ↦ rw other (ap (λ ks. e.0 ∷ ks) (keys_without n es))
]

-- a number in a list of numbers that is extended or shortened
pub pushed_keys : (v w : Entries ⊤) (n : ℕ) (u : ⊤) → w.items ≡ v.items ++ (n, u) ∷ [] → keys_of w.items ≡ keys_of v.items ++ n ∷ []
pushed_keys v w n u is = ap (λ (items : List (ℕ × ⊤)). keys_of items) is ∙ keys_push v.items n u

pub removed_keys : (v w : Entries ⊤) (n : ℕ) → w.items ≡ filter (λ e. not (eqb e.0 n)) v.items → keys_of w.items ≡ filter (λ k. not (eqb k n)) (keys_of v.items)
removed_keys v w n is = ap (λ (items : List (ℕ × ⊤)). keys_of items) is ∙ keys_without n v.items

pub room_of : (subject : List ℕ) (v : Entries ⊤) (old : Subjects) → found subject old ≡ Some v → has_place subject old ≡ true → v.has_room ≡ true
room_of subject v old here had = sym (ap (λ o. room_in o) here) ∙ had

pub keys_at : (subject : List ℕ) (v : Entries ⊤) (old : Subjects) → found subject old ≡ Some v → keys_of v.items ≡ listed subject old
keys_at subject v old here = sym (ap (λ o. keys_in o) here)

pub no_keys : (ks : List ℕ) → length ks ≡ 0 → ks ≡ []
no_keys [] h = refl
no_keys (k ∷ ks) h = absurd (omega (arith, h))

-- a place that is ready stays, where each other place than that of this subject does
pub ready_stays : (o : Option (List ℕ)) (room : Bool) (subject : List ℕ) (old new : Subjects) → is_value subject o ≡ false → ((q : List ℕ) → bytes_eq subject q ≡ false → has_place q old ≡ true → has_place q new ≡ true) → IsReady o room old → IsReady o room new
ready_stays None room subject old new other keeps h = tt
ready_stays (Some s) room subject old new other keeps h = (h.0, keeps s (nat_list_eq_equiv.symm subject s ∙ other) h.1)

pub ready_kept : (o : Option (List ℕ)) (room : Bool) (old new : Subjects) → ((q : List ℕ) → has_place q old ≡ true → has_place q new ≡ true) → IsReady o room old → IsReady o room new
ready_kept None room old new keeps h = tt
ready_kept (Some s) room old new keeps h = (h.0, keeps s h.1)

pub same_list : (subject : List ℕ) (v w : Entries ⊤) (old new : Subjects) → found subject old ≡ Some v → keys_of w.items ≡ keys_of v.items → Puts subject (Some w) old new → (q : List ℕ) → listed q new ≡ listed q old
same_list subject v w old new here same h q = elim (cases_Bool (bytes_eq subject q)) [
  | inl is ↦ listed_after subject (Some w) old new h q ∙ rw is (same ∙ ap (λ o. keys_in o) (sym here ∙ ap (λ p. found p old) ((bytes_eq-Decides subject q).0 is)))
  | inr other ↦ listed_after subject (Some w) old new h q ∙ rw other refl
]

pub room_kept : {T E : Type 0} (r : Result T E) (old new : Bool) → OnOk r (new ≡ true) → OnErr r (new ≡ old) → old ≡ true → new ≡ true
room_kept (Ok u) old new ok err h = ok
room_kept (Err e) old new ok err h = err ∙ h
