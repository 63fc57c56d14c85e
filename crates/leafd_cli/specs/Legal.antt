-- Which lines are legal in their place, and why another one isn't.
use Rattle.std.specs.Prelude.{◌≡◌, ℕ, ◌+◌, ◌-◌, ◌^◌, ◌%◌, min, List, [], ◌∷◌, length, Bool, false, ◌&&◌, ◌||◌, not, ◌==◌, nat_lt, nat_le, if◌then◌else◌, Option, None, Some, is_some, is_none, Result, Ok, Err, count_by, sum_by}
use Rattle.std.specs.Str.{bytes_eq}
use Rattle.std.specs.List.{list_any}
use Rattle.nats_text.specs.Hash.{fnv1a}
use Rattle.nats_text.specs.Headers.{HeaderBlock, no_headers, written}
use Rattle.nats_text.specs.Matching.{overlap}
use Rattle.nats_text.specs.declared.origin.Origin.{Origin}
use Rattle.stream_fold.specs.declared.config.Config.{Config}
use Rattle.stream_fold.specs.declared.config.Copies.{Copies}
use Rattle.stream_fold.specs.declared.config.Copies.TheVariants.{Nothing, Mirror as MirrorOf, Sources}
use Rattle.stream_fold.specs.Checking.{config_fault}
use Rattle.stream_fold.specs.Histories.{either}
use Rattle.leafd_script.specs.declared.line.Changes.{Changes}
use Rattle.leafd_script.specs.declared.line.Line.{Line}
use Rattle.leafd_script.specs.declared.line.Line.TheVariants.{Node, Stream, Mirror, Update, Publish, PublishWithHeaders, Delete, Purge, Expire, Clock, Settle, Show, Log, Heads, Quiet}
use Rattle.leafd_script.specs.declared.fault.ScriptKind.{ScriptKind}
use Rattle.leafd_script.specs.declared.fault.ScriptKind.TheVariants.{BadOption, NodeTaken, NoNode, StreamTaken, NoStream, Overlap, TooMany}
use Rattle.leafd_cli.specs.Logs.{StreamLog, Logs, limits_of, stream_at, has_node}
use Rattle.leafd_cli.specs.ScriptLines.{ScriptLine, said_by}

-- this kind of fault, where it is there
abbrev pub fault_if : Bool → ScriptKind → Option ScriptKind
fault_if wrong kind = if wrong then Some kind else None

-- ---- the stream that a line makes

-- the shard of a stream on its node, of eight
abbrev pub shard_of : List ℕ → ℕ
shard_of name = fnv1a name % 8

-- the stream stands in this shard of the node
abbrev pub is_in_shard : List ℕ → ℕ → StreamLog → Bool
is_in_shard node shard s = bytes_eq s.node node && (shard_of s.config.name == shard)

-- whether an origin is this stream
abbrev pub is_node : Option (List ℕ) → List ℕ → Bool
is_node None node = false
is_node (Some n) node = bytes_eq n node

-- the origin is the stream of this name on this node
abbrev pub is_from : List ℕ → List ℕ → Origin → Bool
is_from node name origin = is_node origin.node node && bytes_eq origin.stream name

-- the origins of a stream, in the order of their indexes
abbrev pub origins_of : Copies → List Origin
origins_of Nothing = []
origins_of (MirrorOf origin) = origin ∷ []
origins_of (Sources origins) = origins

-- how many copies name this stream as their origin
abbrev pub copy_count : List ℕ → List ℕ → List StreamLog → ℕ
copy_count node name streams = sum_by (λ s. count_by (is_from node name) (origins_of s.config.copies)) streams

-- how many subjects all streams have
abbrev pub subject_count : List StreamLog → ℕ
subject_count streams = sum_by (λ s. length s.config.subjects) streams

-- a number, or the greatest of 64 bits where it is greater
abbrev pub IsCapped : ℕ → ℕ → Type 0
IsCapped capped n = capped ≡ min n (2 ^ 64 - 1)

-- the node of an origin isn't there
abbrev pub lacks_node : List (List ℕ) → Option (List ℕ) → Bool
lacks_node nodes None = false
lacks_node nodes (Some node) = not (has_node node nodes)

-- the stream that a copy copies
abbrev pub stream_among : Option (List ℕ) → List ℕ → List StreamLog → Option StreamLog
stream_among None name streams = None
stream_among (Some node) name streams = stream_at node name streams

-- the stream that an origin names, among all
abbrev pub origin_among : Origin → List StreamLog → Option StreamLog
origin_among origin streams = stream_among origin.node origin.stream streams

-- the origin has 1,024 copies
abbrev pub is_copied_out : List StreamLog → Option (List ℕ) → List ℕ → Bool
is_copied_out streams None name = false
is_copied_out streams (Some node) name = nat_le 1024 (copy_count node name streams)

-- a subject overlaps one of the stream
abbrev pub overlaps_stream : List (List ℕ) → StreamLog → Bool
overlaps_stream subjects s = list_any (λ a. list_any (overlap a) s.config.subjects) subjects

-- the subjects overlap those of another stream on the node
abbrev pub is_overlapping : List ℕ → List (List ℕ) → List StreamLog → Bool
is_overlapping node subjects streams = list_any (λ s. bytes_eq s.node node && overlaps_stream subjects s) streams

-- 256 streams of the shard, 1,024 copies of one stream, or 60,000 subjects
abbrev pub is_one_too_many : List StreamLog → List ℕ → Config → Bool
is_one_too_many streams node config =
    nat_le 256 (count_by (is_in_shard node (shard_of config.name)) streams)
    || list_any (λ origin. is_copied_out streams origin.node origin.stream) (origins_of config.copies)
    || nat_lt 60000 (subject_count streams + length config.subjects)

-- Why a stream of this configuration can't be made, in this order: its node or an origin's isn't
-- there, the name is taken, an origin isn't there, subjects overlap, or it would be one too many.
-- No line takes a stream away, so an origin was there first, and copies never go round in a ring.
abbrev pub making_fault : List (List ℕ) → List StreamLog → List ℕ → Config → Option ScriptKind
making_fault nodes streams node config =
    either (fault_if (not (has_node node nodes) || list_any (λ origin. lacks_node nodes origin.node) (origins_of config.copies)) NoNode)
    (either (fault_if (is_some (stream_at node config.name streams)) StreamTaken)
    (either (fault_if (list_any (λ origin. is_none (origin_among origin streams)) (origins_of config.copies)) NoStream)
    (either (fault_if (is_overlapping node config.subjects streams) Overlap)
    (fault_if (is_one_too_many streams node config) TooMany))))

-- ---- the stream on which a line works

-- the node or the stream isn't there
abbrev pub place_fault : List (List ℕ) → List StreamLog → List ℕ → List ℕ → Option ScriptKind
place_fault nodes streams node name = either (fault_if (not (has_node node nodes)) NoNode) (fault_if (is_none (stream_at node name streams)) NoStream)

-- header block and payload of a publish have more than 2,000,000 bytes
abbrev pub is_too_large : HeaderBlock → List ℕ → Bool
is_too_large headers text = nat_lt 2000000 (length (written headers) + length text)

-- why a publish isn't legal in its place
abbrev pub publish_fault : List (List ℕ) → List StreamLog → List ℕ → List ℕ → HeaderBlock → List ℕ → Option ScriptKind
publish_fault nodes streams node name headers text = either (place_fault nodes streams node name) (fault_if (is_too_large headers text) TooMany)

-- the new value, or the old one where none is named
abbrev pub changed_to : {A : Type 0} → A → Option A → A
changed_to old None = old
changed_to old (Some new) = new

-- a configuration with the limits that a line names
abbrev pub with_changes : Changes → Config → Config
with_changes changes c = record c {
  max_msgs = changed_to c.max_msgs changes.max_msgs;
  max_bytes = changed_to c.max_bytes changes.max_bytes;
  max_age = changed_to c.max_age changes.max_age;
  max_per_subject = changed_to c.max_per_subject changes.max_per_subject;
  max_msg_size = changed_to c.max_msg_size changes.max_msg_size;
  discard = changed_to c.discard changes.discard;
}

-- the changed configuration is one that the stream may not have
abbrev pub is_wrong_change : Changes → Option StreamLog → Bool
is_wrong_change changes None = false
is_wrong_change changes (Some s) = is_some (config_fault (with_changes changes (limits_of s)))

-- ---- each line

-- why a line isn't legal over these nodes and streams: the first of its faults
abbrev pub fault_in : List (List ℕ) → List StreamLog → Line → Option ScriptKind
fault_in nodes streams (Node node) = either (fault_if (has_node node nodes) NodeTaken) (fault_if (nat_le 16 (length nodes)) TooMany)
fault_in nodes streams (Stream node config) = making_fault nodes streams node config
fault_in nodes streams (Mirror node config) = making_fault nodes streams node config
fault_in nodes streams (Update node name changes) = either (place_fault nodes streams node name) (fault_if (is_wrong_change changes (stream_at node name streams)) BadOption)
fault_in nodes streams (Publish node name subject text) = publish_fault nodes streams node name no_headers text
fault_in nodes streams (PublishWithHeaders node name subject headers text) = publish_fault nodes streams node name headers text
fault_in nodes streams (Delete node name seq) = place_fault nodes streams node name
fault_in nodes streams (Purge node name pattern below) = place_fault nodes streams node name
fault_in nodes streams (Expire node name) = place_fault nodes streams node name
fault_in nodes streams (Clock moment) = None
fault_in nodes streams Settle = None
fault_in nodes streams (Show node name) = place_fault nodes streams node name
fault_in nodes streams (Log node name) = place_fault nodes streams node name
fault_in nodes streams Heads = None
fault_in nodes streams Quiet = None

-- why a line isn't legal in its place
abbrev pub fault_of : Logs → Line → Option ScriptKind
fault_of logs line = fault_in logs.nodes logs.streams line

-- a line without a fault, or its fault
abbrev pub line_or : Line → Option ScriptKind → Result (Option Line) ScriptKind
line_or line None = Ok (Some line)
line_or line (Some kind) = Err kind

-- what a line that was read says in its place, or why it isn't legal there
abbrev pub judged_line : Logs → Result (Option Line) ScriptKind → Result (Option Line) ScriptKind
judged_line logs (Ok None) = Ok None
judged_line logs (Ok (Some line)) = line_or line (fault_of logs line)
judged_line logs (Err kind) = Err kind

-- what a line says where it is legal in its place, or the first of its faults
abbrev pub judged : Logs → ScriptLine → Result (Option Line) ScriptKind
judged logs line = judged_line logs (said_by line)
