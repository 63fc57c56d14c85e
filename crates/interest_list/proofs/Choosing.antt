-- The member of a group in whose weight a number falls.
use Rattle.std.proofs.Common.{◌≡◌, ℕ, ◌+◌, ◌-◌, false, cond, List, [], ◌∷◌, refl, sym, ap, ◌∙◌, arith, nat_lt}
use Rattle.std.specs.Prelude.{Some, None}
use Rattle.std.proofs.lemmas.List.Sums.{sum_by-cons}
use Rattle.interest_list.specs.declared.subscription.Subscription.{Subscription}
use Rattle.interest_list.specs.Targets.{weights, at_weight}

-- none is chosen of members without weight
pub none-chosen : (n : ℕ) (ss : List Subscription) → weights ss ≡ 0 → at_weight n ss ≡ None
none-chosen n [] e = refl
none-chosen n (s ∷ ss) e =
    let all : s.weight + weights ss ≡ 0 = sym (sum_by-cons (λ (x : Subscription). x.weight) s ss) ∙ e in
    let past : nat_lt n s.weight ≡ false = grind (arith, all) in
    ap (λ b. cond b (Some s) (at_weight (n - s.weight) ss)) past ∙ none-chosen (n - s.weight) ss (omega (arith, all))
