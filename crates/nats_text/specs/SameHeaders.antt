-- Headers that `==` takes for equal, which are the equal ones.
use Rattle.std.specs.Prelude.{◌≡◌, List, ℕ, Bool, ◌&&◌, Option, None, Some}
use Rattle.std.specs.Bool.{Decides}
use Rattle.std.specs.Cmp.{IsPartialEquivalence}
use Rattle.std.specs.Cmp.Lexicographic.{pointwise, pointwise_decides, bytes_decides}
use Rattle.std.specs.Option.{option_eq}
use Rattle.std.specs.Str.{bytes_eq}
use Rattle.std.proofs.Common.{refl, sym, ap, ◌∙◌}
use Rattle.std.proofs.lemmas.Bool.{false≢true, and_parts, and_from}
use Rattle.std.proofs.lemmas.Bool.Decides.{same_from_decides}
use Rattle.std.proofs.lemmas.Option.{none-some, same_Some}
use Rattle.nats_text.specs.declared.headers.Pair.{Pair}
use Rattle.nats_text.specs.Headers.{HeaderBlock}

-- two pairs have one name and one value
abbrev pub same_pair : Pair → Pair → Bool
same_pair p q = bytes_eq p.name q.name && bytes_eq p.value q.value

-- two headers have one status and the same pairs in one order
abbrev pub same_headers : HeaderBlock → HeaderBlock → Bool
same_headers a b = option_eq bytes_eq a.status b.status && pointwise same_pair a.pairs b.pairs

same_pair-decides : (p q : Pair) → Decides (same_pair p q) (p ≡ q)
same_pair-decides p q =
    let name = bytes_decides p.name q.name in
    let value = bytes_decides p.value q.value in (
      λ h. let parts = and_parts (bytes_eq p.name q.name) (bytes_eq p.value q.value) h in λ i. record { name = name.0 parts.0 i; value = value.0 parts.1 i },
      λ e. and_from (bytes_eq p.name q.name) (bytes_eq p.value q.value) (name.1 (ap (λ r. r.name) e)) (value.1 (ap (λ r. r.value) e)),
    )

-- optional bytes are equal
pub same_bytes_decides : (a b : Option (List ℕ)) → Decides (option_eq bytes_eq a b) (a ≡ b)
same_bytes_decides None None = (λ h. refl, λ e. refl)
same_bytes_decides None (Some y) = (λ h. absurd (false≢true h), λ e. absurd (none-some y e))
same_bytes_decides (Some x) None = (λ h. absurd (false≢true h), λ e. absurd (none-some x (sym e)))
same_bytes_decides (Some x) (Some y) = (λ h. ap (λ s. Some s) ((bytes_decides x y).0 h), λ e. (bytes_decides x y).1 (same_Some x y e))

-- it is the equality of what contracts see
pub same_headers_decides : (a b : HeaderBlock) → Decides (same_headers a b) (a ≡ b)
same_headers_decides a b =
    let status = same_bytes_decides a.status b.status in
    let pairs = pointwise_decides same_pair-decides a.pairs b.pairs in (
      λ h. let parts = and_parts (option_eq bytes_eq a.status b.status) (pointwise same_pair a.pairs b.pairs) h in λ i. record { status = status.0 parts.0 i; pairs = pairs.0 parts.1 i },
      λ e. and_from (option_eq bytes_eq a.status b.status) (pointwise same_pair a.pairs b.pairs) (status.1 (ap (λ block. block.status) e)) (pairs.1 (ap (λ block. block.pairs) e)),
    )

-- a test that decides equality holds both ways round, and along a chain
pub laws_from_decides : {K : Type 0} (same : K → K → Bool) → ((x y : K) → Decides (same x y) (x ≡ y)) → IsPartialEquivalence same
laws_from_decides same decides = record {
  symm = λ x y. same_from_decides (same x y) (same y x) (decides x y) (λ h. sym ((decides y x).0 h), λ e. (decides y x).1 (sym e));
  trans = λ x y z h g. (decides x z).1 ((decides x y).0 h ∙ (decides y z).0 g);
}

pub same_headers-laws : IsPartialEquivalence same_headers
same_headers-laws = laws_from_decides same_headers same_headers_decides
