-- What a source makes of the messages of its origin: by its filter or its maps it takes a message or
-- doesn't, and a header tells where a message comes from (the sources of JetStream's streams).
use Rattle.std.specs.Prelude.{ℕ, List, [], ◌∷◌, if◌then◌else◌, Option, None, Some, codes, decimal}
use Rattle.std.specs.List.{join_with_byte}
use Rattle.nats_text.specs.Headers.{with_value}
use Rattle.nats_text.specs.Matching.{matches}
use Rattle.nats_text.specs.Text.{tail}
use Rattle.nats_text.specs.declared.message.Message.{Message}
use Rattle.nats_text.specs.declared.origin.Mapping.{Mapping}
use Rattle.nats_text.specs.declared.origin.Origin.{Origin}
use Rattle.subject_transform.specs.Transforms.{sub, without_blanks}
use Rattle.stream_fold.specs.Checking.{leaves_subject}

-- How a source takes a subject: the one under which it stores, and the filter and the destination
-- that were taken as the header tells them, where `>` stands for none.
pub record Route : Type 0 where
  pub subject : List ℕ
  pub filter : List ℕ
  pub dest : List ℕ

-- without maps the subject stays, where the filter matches it or there is none
abbrev pub route_by_filter : Option (List ℕ) → List ℕ → Option Route
route_by_filter None subject = Some (record { subject = subject; filter = tail; dest = tail })
route_by_filter (Some filter) subject = if matches filter subject then Some (record { subject = subject; filter = filter; dest = tail }) else None

-- the subject that a map made, where it made one
abbrev pub route_of_made : Mapping → Option (List ℕ) → Option Route
route_of_made m None = None
route_of_made m (Some made) = Some (record { subject = made; filter = m.src; dest = without_blanks m.dest })

-- a map whose source matches leaves the subject, or makes another one of it or none
abbrev pub route_by_map : Mapping → List ℕ → Option Route
route_by_map m subject =
    if leaves_subject m.dest then Some (record { subject = subject; filter = m.src; dest = tail })
    else route_of_made m (sub m.src (without_blanks m.dest) subject)

-- the first map whose source matches decides
abbrev pub route_by_maps : List Mapping → List ℕ → Option Route
route_by_maps [] subject = None
route_by_maps (m ∷ ms) subject = if matches m.src subject then route_by_map m subject else route_by_maps ms subject

-- how a subject is taken by a filter or by maps
abbrev pub route : Option (List ℕ) → List Mapping → List ℕ → Option Route
route filter [] subject = route_by_filter filter subject
route filter (m ∷ ms) subject = route_by_maps (m ∷ ms) subject

-- the header that tells where a message comes from
abbrev pub source_name : List ℕ
source_name = codes "Nats-Stream-Source"

-- its value, five words: the stream, the message's number there, the filter and the destination that
-- were taken, and the message's subject there
abbrev pub source_value : Origin → Route → List ℕ → ℕ → List ℕ
source_value want r subject seq = join_with_byte 32 (want.stream ∷ decimal seq ∷ r.filter ∷ r.dest ∷ subject ∷ [])

-- a message as a source stores it, where it takes it: its subject and that one header change
abbrev pub sourced : Origin → Message → ℕ → Option Route → Option Message
sourced want m seq None = None
sourced want m seq (Some r) = Some (record m { subject = r.subject; headers = with_value source_name (source_value want r m.subject seq) m.headers })

-- what a source makes of the message of this number
abbrev pub via : Origin → Message → ℕ → Option Message
via want m seq = sourced want m seq (route want.filter want.maps m.subject)
