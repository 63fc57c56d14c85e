-- The interface of JetStream and its domains: `$JS.API.` is this node's own, `$JS.<domain>.API.` that of a domain.
use Rattle.std.specs.Prelude.{ℕ, List, [], ◌∷◌, ◌++◌, length, drop, Bool, true, false, ◌&&◌, not, ◌==◌, if◌then◌else◌, codes}
use Rattle.std.specs.List.{starts_with}
use Rattle.std.specs.Str.{bytes_eq}
use Rattle.nats_text.specs.Text.{tokens}

-- what the subjects of a domain's interface begin with
abbrev pub domain_prefix : List ℕ → List ℕ
domain_prefix domain = codes "$JS." ++ domain ++ codes ".API."

-- a subject of the own domain's interface without the domain, and every other subject as it is
abbrev pub inbound : List ℕ → List ℕ → List ℕ
inbound domain subject = if starts_with ◌==◌ subject (domain_prefix domain) then codes "$JS.API." ++ drop (length (domain_prefix domain)) subject else subject

-- whether the first two tokens are `$JS` and `API`
abbrev pub is_own_interface : List (List ℕ) → Bool
is_own_interface [] = false
is_own_interface (t ∷ []) = false
is_own_interface (t ∷ u ∷ ts) = bytes_eq t (codes "$JS") && bytes_eq u (codes "API")

-- a pattern crosses to other nodes, unless it names the own interface
abbrev pub crosses : List ℕ → Bool
crosses pattern = not (is_own_interface (tokens pattern))
