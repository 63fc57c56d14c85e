-- Names in byte order: what a change under one name leaves under any name.
use Rattle.std.proofs.Common.{◌≡◌, ℕ, true, false, if◌then◌else◌, List, Option, Some, inl, inr, refl, sym, ◌∙◌, subst}
use Rattle.std.proofs.lemmas.Bool.{cases_Bool}
use Rattle.std.proofs.lemmas.Map.Text.{is_eq-slice_cmp}
use Rattle.std.proofs.lemmas.Slice.Eq.{bytes_eq-Decides}
use Rattle.std.specs.Cmp.{eq_by_cmp_equiv}
use Rattle.std.specs.Cmp.Lexicographic.{nat_list_cmp_total, nat_list_eq_equiv}
use Rattle.std.specs.Str.{bytes_eq}
use Rattle.std.proofs.Common.{Ordering}
use Rattle.std.specs.Ordering.{is_eq, nat_cmp}
use Rattle.std.specs.Cmp.Lexicographic.{slice_cmp}
use Rattle.std.specs.BTreeMap.{BTreeMap, UpdatesBy, WritesThrough}
use Rattle.std.specs.Map.{KeepsOthers}
use Rattle.std.specs.Global.{Vec}
use Rattle.log_replay.specs.declared.replay.Known.{Known}
use Rattle.log_replay.specs.Replays.{found}

-- the order of the keys
abbrev pub key_cmp : Vec ℕ → Vec ℕ → Ordering
key_cmp a b = slice_cmp nat_cmp a.items b.items

-- w is held at this name, and under each other name what was held
abbrev pub Puts : List ℕ → Option Known → BTreeMap (Vec ℕ) Known → BTreeMap (Vec ℕ) Known → Type 0
Puts name w old new = (q : List ℕ) → found q new ≡ (if bytes_eq name q then w else found q old)

apart : (a b ks : List ℕ) → bytes_eq a b ≡ false → is_eq (slice_cmp nat_cmp a ks) ≡ true → is_eq (slice_cmp nat_cmp b ks) ≡ false
apart a b ks n y = is_eq-slice_cmp b ks ∙ nat_list_eq_equiv.symm b ks ∙ sym (nat_list_eq_equiv.congr a ks b (sym (is_eq-slice_cmp a ks) ∙ y)) ∙ n

under_others : (name : List ℕ) (w : Option Known) (old new : BTreeMap (Vec ℕ) Known) → UpdatesBy key_cmp (λ key. slice_cmp nat_cmp name key.items) old new w → (q : List ℕ) → bytes_eq name q ≡ false → found q new ≡ found q old
unfolding KeepsOthers
under_others name w old new h q n = h.3 _ (λ x y. (eq_by_cmp_equiv nat_list_cmp_total).congr q x.items y.items) (λ k. apart name q k.items n)

pub puts : (name : List ℕ) (w : Option Known) (old new : BTreeMap (Vec ℕ) Known) → UpdatesBy key_cmp (λ key. slice_cmp nat_cmp name key.items) old new w → Puts name w old new
puts name w old new h = λ q. elim (cases_Bool (bytes_eq name q)) [
  | inl same ↦ rw same (subst (λ (p : List ℕ). found p new ≡ w) ((bytes_eq-Decides name q).0 same) h.1)
  | inr other ↦ rw other (under_others name w old new h q other)
]

-- a value that was written through a borrow
pub writes : (name bytes : List ℕ) (v w : Known) (old new : BTreeMap (Vec ℕ) Known) → bytes ≡ name → found name old ≡ Some v → WritesThrough key_cmp (λ key. slice_cmp nat_cmp bytes key.items) old w new → Puts name (Some w) old new
writes name bytes v w old new same here h = subst (λ (b : List ℕ). Puts b (Some w) old new) same (puts bytes (Some w) old new (h.3 (rw (same, here) refl)))
