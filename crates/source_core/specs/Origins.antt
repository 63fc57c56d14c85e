-- The origins of sources, and what a source makes of their subjects.
use Rattle.std.specs.Prelude.{◌≡◌, ℕ, ◌+◌, ◌<◌, ◌≤◌, nat_lt, List, length, None, IsTrue}
use Rattle.std.specs.List.{list_all}
use Rattle.nats_text.specs.declared.message.Message.{Message}
use Rattle.nats_text.specs.declared.origin.Origin.{Origin}
use Rattle.stream_fold.specs.declared.config.Copies.{Copies}
use Rattle.stream_fold.specs.declared.config.Copies.TheVariants.{Nothing, Mirror, Sources}
use Rattle.stream_fold.specs.Checking.{source_fault}
use Rattle.stream_fold.specs.Publishing.{content_size}
use Rattle.stream_fold.specs.Sourcing.{Route}

-- an origin that the sources of a stream may have
abbrev pub IsSource : Origin → Type 0
IsSource want = source_fault want ≡ None

-- the copies are sources, and this is the index of one of them
abbrev pub HasSource : ℕ → Copies → Type 0
HasSource index Nothing = ⊥
HasSource index (Mirror origin) = ⊥
HasSource index (Sources origins) = index < length origins

-- a text of at most 1,024 bytes, each of them above the space
pub record IsWord (text : List ℕ) : Type 0 where
  pub visible : IsTrue (list_all (nat_lt 32) text)
  pub short : length text ≤ 1024

-- the header can tell the filter and the destination of a route
pub record IsTold (route : Route) : Type 0 where
  pub filter : IsWord route.filter
  pub dest : IsWord route.dest

-- a message that is little larger than the one of which it was made
abbrev pub IsLittleMore : Message → Message → Type 0
IsLittleMore old new = content_size new ≤ content_size old + 4000
