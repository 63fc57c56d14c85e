-- Which subjects a copy asks for.
use Rattle.std.specs.Prelude.{ℕ, List, [], ◌∷◌, map, filter, if◌then◌else◌, Option, None, Some}
use Rattle.nats_text.specs.Text.{is_pattern}
use Rattle.nats_text.specs.declared.origin.Mapping.{Mapping}
use Rattle.nats_text.specs.declared.origin.Origin.{Origin}

-- the text, where it is a pattern
abbrev pub pattern_of : List ℕ → Option (List ℕ)
pattern_of text = if is_pattern text then Some text else None

-- the sources of the maps in their order; one that is no pattern, which no legal map has, is left out
abbrev pub sources_of : List Mapping → List (List ℕ)
sources_of maps = filter is_pattern (map (λ m. m.src) maps)

-- the filter where there is one, else the sources of the maps
abbrev pub filters_by : Option (List ℕ) → List Mapping → List (List ℕ)
filters_by (Some pattern) maps = pattern ∷ []
filters_by None maps = sources_of maps

-- The filters of an origin: its filter, or the sources of its maps in their order, or none, where
-- all subjects are wanted.
abbrev pub filters_of : Origin → List (List ℕ)
filters_of origin = filters_by origin.filter origin.maps
