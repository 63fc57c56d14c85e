-- Mappings one by one.
use Rattle.std.proofs.Common.{◌≡◌, List, [], ◌∷◌, ◌++◌, Option, Some, None, refl, ap, append_assoc, append-nil}
use Rattle.nats_text.specs.declared.origin.Mapping.{Mapping}
use Rattle.leafd_conf.specs.Profile.{before}

-- these mappings, and others behind them where there are any
abbrev pub joined : List Mapping → Option (List Mapping) → Option (List Mapping)
joined xs (Some ys) = Some (xs ++ ys)
joined xs None = None

pub joined-more : (xs : List Mapping) (m : Mapping) (r : Option (List Mapping)) → joined xs (before (Some m) r) ≡ joined (xs ++ m ∷ []) r
joined-more xs m (Some ys) = ap Some (rw append_assoc)
joined-more xs m None = refl

pub joined-none : (xs : List Mapping) → joined xs None ≡ None
joined-none xs = refl

pub joined-end : (xs : List Mapping) → joined xs (Some []) ≡ Some xs
joined-end xs = ap Some (append-nil xs)
