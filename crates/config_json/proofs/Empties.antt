-- Arrays and objects with nothing in them.
use Rattle.std.proofs.Common.{◌≡◌, List, [], ◌∷◌, length, Bool, true, false, ◌==◌, refl, arith}
use Rattle.std.specs.Bool.{IsTrue}
use Rattle.std.specs.Prelude.{String}
use Rattle.std.specs.declared.alloc.Global.{Global}
use Rattle.std.proofs.lemmas.Bool.{false≢true, ne_eqb}
use Rattle.serde_json.specs.View.{items_view, members_view}
use Rattle.serde_json.specs.declared.value.Value.{Value}
use Rattle.config_json.specs.Others.{has_no_items, has_no_members}

pub no_items_are : (vs : List Value) → (length vs == 0) ≡ has_no_items (items_view vs)
no_items_are [] = refl
no_items_are (v ∷ vs) = ne_eqb (length (v ∷ vs)) 0 (λ e. omega (arith, e))

pub no_members_are : (b : Bool) (ms : List (String Global × Value)) → (IsTrue b → length ms ≡ 0) → (length ms ≡ 0 → IsTrue b) → b ≡ has_no_members (members_view ms)
no_members_are true [] f g = refl
no_members_are false [] f g = absurd (false≢true (g refl))
no_members_are true (m ∷ ms) f g = absurd (omega (arith, f refl))
no_members_are false (m ∷ ms) f g = refl
