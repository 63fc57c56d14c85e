-- Whether a pattern stands that begins with a front.
use Rattle.std.proofs.Common.{◌≡◌, ℕ, List, [], ◌∷◌, Option, Some, None, true, false, refl, sym, ap, ◌∙◌, subst, Ordering, BTreeMap}
use Rattle.std.specs.Global.{Vec}
use Rattle.std.proofs.lemmas.Bool.{false≢true}
use Rattle.std.proofs.lemmas.Map.Entries.{place_from_lookup}
use Rattle.std.proofs.lemmas.Map.Text.{is_eq-slice_cmp}
use Rattle.std.specs.BTreeMap.{get, is_at}
use Rattle.std.specs.BTreeMap.Range.{IsRangeOf}
use Rattle.std.specs.Cmp.Lexicographic.{bytes_decides, slice_cmp}
use Rattle.std.specs.List.{starts_with, slice_get}
use Rattle.std.specs.Ordering.{is_gt, nat_cmp}
use Rattle.std.specs.Prelude.{nat_eq, IsSome}
use Rattle.std.specs.declared.ops.Bound.TheVariants.{Included, Unbounded}
use Rattle.pattern_tree.specs.Reached.{value_at}
use Rattle.pattern_tree.proofs.Fronts.{none_behind, front_first}

-- the order of the keys
abbrev pub key_cmp : Vec ℕ → Vec ℕ → Ordering
key_cmp a b = slice_cmp nat_cmp a.items b.items

module _ {V : Type 0} where
  -- a key that stands under a text
  record Stands (k : List ℕ) (m : BTreeMap (Vec ℕ) V) (v : V) : Type 0 where
    pub key : Vec ℕ
    pub is : key.items ≡ k
    pub here : get key_cmp m key ≡ Some v

  standing : (k : List ℕ) (m : BTreeMap (Vec ℕ) V) (v : V) → value_at k m ≡ Some v → Stands k m v
  standing k m v h =
      let p = place_from_lookup (is_at (λ (key : Vec ℕ). slice_cmp nat_cmp k key.items)) m.entries v h in
      let e : k ≡ p.1.items = (bytes_decides k p.1.items).0 (sym (is_eq-slice_cmp k p.1.items) ∙ p.3) in
      record { key = p.1; is = sym e; here = subst (λ (q : List ℕ). value_at q m ≡ Some v) e h }

  Settled : BTreeMap (Vec ℕ) V → Vec ℕ → Type 0
  Settled m front = (k : List ℕ) (v : V) → starts_with nat_eq k front.items ≡ true → value_at k m ≡ Some v → ⊥

  some_none : (v : V) → Some v ≡ None → ⊥
  some_none v e = absurd (cc)

  none_then : (k : List ℕ) (m : BTreeMap (Vec ℕ) V) → ((v : V) → value_at k m ≡ Some v → ⊥) → value_at k m ≡ None
  none_then k m none = go (value_at k m) refl
    where
      go : (o : Option V) → value_at k m ≡ o → value_at k m ≡ None
      go None e = e
      go (Some v) e = absurd (none v e)

  pub behind_other : (m : BTreeMap (Vec ℕ) V) (front : Vec ℕ) (r rest : List (Vec ℕ × V)) (e : Vec ℕ × V) → IsRangeOf key_cmp (Included front) Unbounded m r → r ≡ e ∷ rest → starts_with nat_eq e.0.items front.items ≡ false → (k : List ℕ) → starts_with nat_eq k front.items ≡ true → value_at k m ≡ None
  behind_other m front r rest e h is none k begins = none_then k m (λ v here.
      let s = standing k m v here in
      let up = front_first front.items s.key.items (subst (λ (q : List ℕ). starts_with nat_eq q front.items ≡ true) (sym s.is) begins) in
      let least = (rw is at h.2) s.key (up, tt) (rw s.here refl) in
      let from = (rw is at h.1) in
      false≢true (sym (none_behind front.items e.0.items s.key.items from.0.0 none least) ∙ subst (λ (q : List ℕ). starts_with nat_eq q front.items ≡ true) (sym s.is) begins))

  pub behind_none : (m : BTreeMap (Vec ℕ) V) (front : Vec ℕ) (r : List (Vec ℕ × V)) → IsRangeOf key_cmp (Included front) Unbounded m r → r ≡ [] → (k : List ℕ) → starts_with nat_eq k front.items ≡ true → value_at k m ≡ None
  behind_none m front r h is k begins = none_then k m (λ v here.
      let s = standing k m v here in
      let up = front_first front.items s.key.items (subst (λ (q : List ℕ). starts_with nat_eq q front.items ≡ true) (sym s.is) begins) in
      some_none v (sym s.here ∙ h.5 is s.key (up, tt)))
