-- What a world shows: its nodes, the log of each stream, and the script's clock.
use Rattle.std.specs.Prelude.{ℕ, List, [], ◌∷◌, Bool, false, ◌&&◌, if◌then◌else◌, Option, None, Some}
use Rattle.std.specs.Str.{bytes_eq}
use Rattle.std.specs.List.{list_any}
use Rattle.stream_fold.specs.declared.config.Config.{Config}
use Rattle.stream_fold.specs.declared.entry.Entry.{Entry}
use Rattle.stream_fold.specs.Histories.{History, stands}

-- a stream: its node, the configuration of its creation, and its log
pub record StreamLog : Type 0 where
  pub node : List ℕ
  pub config : Config
  pub entries : List Entry

-- nodes and streams, in the order in which they were made, the clock in nanoseconds, and whether
-- answers are no more printed
pub record Logs : Type 0 where
  pub nodes : List (List ℕ)
  pub streams : List StreamLog
  pub clock : ℕ
  pub quiet : Bool

-- no nodes and no streams, and the clock at 0
abbrev pub no_logs : Logs
no_logs = record { nodes = []; streams = []; clock = 0; quiet = false }

-- the history of a stream
abbrev pub history_of : StreamLog → History
history_of s = record { config = s.config; entries = s.entries }

-- the configuration in force
abbrev pub limits_of : StreamLog → Config
limits_of s = (stands (history_of s)).limits

-- the stream is the one of this name on this node
abbrev pub is_at : List ℕ → List ℕ → StreamLog → Bool
is_at node name s = bytes_eq s.node node && bytes_eq s.config.name name

-- the stream of this name on this node
abbrev pub stream_at : List ℕ → List ℕ → List StreamLog → Option StreamLog
stream_at node name [] = None
stream_at node name (s ∷ streams) = if is_at node name s then Some s else stream_at node name streams

-- there is a node of this name
abbrev pub has_node : List ℕ → List (List ℕ) → Bool
has_node node nodes = list_any (λ n. bytes_eq n node) nodes
