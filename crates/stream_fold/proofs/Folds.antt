-- One entry more at a history's end.
use Rattle.std.proofs.Common.{◌≡◌, max, List, [], ◌∷◌, ◌++◌, refl, sym, ap, ◌∙◌, arith, append_assoc, append-nil}
use Rattle.stream_fold.specs.declared.entry.Entry.{Entry}
use Rattle.stream_fold.specs.Histories.{History, Folded, with_entry, last, clock, number_put, moment_of, standing, after, stands}
use Rattle.stream_fold.specs.Copying.{bindings, bound_by}

pub last-append : (xs ys : List Entry) → last (xs ++ ys) ≡ max (last xs) (last ys)
last-append [] ys = omega arith
last-append (x ∷ xs) ys = omega (arith, last-append xs ys)

pub clock-append : (xs ys : List Entry) → clock (xs ++ ys) ≡ max (clock xs) (clock ys)
clock-append [] ys = omega arith
clock-append (x ∷ xs) ys = omega (arith, clock-append xs ys)

pub bindings-append : (xs ys : List Entry) → bindings (xs ++ ys) ≡ bindings xs ++ bindings ys
bindings-append [] ys = refl
bindings-append (x ∷ xs) ys = ap (λ bs. bound_by x ++ bs) (bindings-append xs ys) ∙ sym (append_assoc (bound_by x) (bindings xs) (bindings ys))

pub standing-append : (k : Folded) (xs ys : List Entry) → standing k (xs ++ ys) ≡ standing (standing k xs) ys
standing-append k [] ys = refl
standing-append k (x ∷ xs) ys = standing-append (after k x) xs ys

pub last-push : (xs : List Entry) (e : Entry) → last (xs ++ e ∷ []) ≡ max (last xs) (number_put e)
last-push xs e = omega (arith, last-append xs (e ∷ []))

pub clock-push : (xs : List Entry) (e : Entry) → clock (xs ++ e ∷ []) ≡ max (clock xs) (moment_of e)
clock-push xs e = omega (arith, clock-append xs (e ∷ []))

pub bindings-push : (xs : List Entry) (e : Entry) → bindings (xs ++ e ∷ []) ≡ bindings xs ++ bound_by e
bindings-push xs e = bindings-append xs (e ∷ []) ∙ ap (λ bs. bindings xs ++ bs) (append-nil (bound_by e))

pub stands-push : (h : History) (e : Entry) → stands (with_entry h e) ≡ after (stands h) e
stands-push h e = standing-append (record { limits = h.config; rows = [] }) h.entries (e ∷ [])
