-- Headers stay headers when pairs go and come.
use Rattle.std.proofs.Common.{◌≡◌, ℕ, List, [], ◌∷◌, ◌++◌, Bool, true, false, not, cond, Option, refl, ap, ◌∙◌}
use Rattle.std.specs.List.{list_all, filter}
use Rattle.std.proofs.lemmas.Bool.{and_parts, and_from}
use Rattle.std.proofs.lemmas.List.Folds.{list_all-append}
use Rattle.nats_text.specs.declared.headers.Pair.{Pair}
use Rattle.nats_text.specs.Headers.{is_named, is_legal_pair, legal, other_pairs, is_header_block}

list_all-filter : {X : Type 0} (p q : X → Bool) (xs : List X) → list_all p xs ≡ true → list_all p (filter q xs) ≡ true
list_all-filter p q [] h = refl
list_all-filter p q (x ∷ xs) h =
    let parts = and_parts (p x) (list_all p xs) h in
    let rest = list_all-filter p q xs parts.1 in
    let P : Bool → Type 0 = λ b. list_all p (cond b (x ∷ filter q xs) (filter q xs)) ≡ true in
    elim (q x) as P [ true ↦ and_from (p x) (list_all p (filter q xs)) parts.0 rest | false ↦ rest ]

pub block_without : (status : Option (List ℕ)) (name : List ℕ) (pairs rest : List Pair) → rest ≡ other_pairs name pairs → is_header_block (record { status = status; pairs = pairs }) ≡ true → is_header_block (record { status = status; pairs = rest }) ≡ true
block_without status name pairs rest e h =
    let parts = and_parts _ _ h in
    and_from _ _ parts.0 (ap (list_all is_legal_pair) e ∙ list_all-filter is_legal_pair (λ pair. not (is_named name pair)) pairs parts.1)

pub block_with : (status : Option (List ℕ)) (name value : List ℕ) (pairs rest : List Pair) → rest ≡ other_pairs name pairs ++ record { name = name; value = value } ∷ [] → legal name value ≡ true → is_header_block (record { status = status; pairs = pairs }) ≡ true → is_header_block (record { status = status; pairs = rest }) ≡ true
block_with status name value pairs rest e l h =
    let parts = and_parts _ _ h in
    let others = list_all-filter is_legal_pair (λ pair. not (is_named name pair)) pairs parts.1 in
    and_from _ _ parts.0 (ap (list_all is_legal_pair) e ∙ (list_all-append is_legal_pair (other_pairs name pairs) _ ∙ and_from _ _ others (and_from (legal name value) true l refl)))

pub block_push : (status : Option (List ℕ)) (name value : List ℕ) (pairs rest : List Pair) → rest ≡ pairs ++ record { name = name; value = value } ∷ [] → legal name value ≡ true → is_header_block (record { status = status; pairs = pairs }) ≡ true → is_header_block (record { status = status; pairs = rest }) ≡ true
block_push status name value pairs rest e l h =
    let parts = and_parts _ _ h in
    and_from _ _ parts.0 (ap (list_all is_legal_pair) e ∙ (list_all-append is_legal_pair pairs _ ∙ and_from _ _ parts.1 (and_from (legal name value) true l refl)))
