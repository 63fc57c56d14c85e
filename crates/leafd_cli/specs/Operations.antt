-- What a line does to the logs: its own operation, and what copying may add.
use Rattle.std.specs.Prelude.{◌≡◌, ℕ, Bool, true, List, [], ◌∷◌, ◌++◌, if◌then◌else◌, Option, None, Some, IsSome}
use Rattle.nats_text.specs.Headers.{no_headers}
use Rattle.stream_fold.specs.declared.config.Config.{Config}
use Rattle.stream_fold.specs.declared.config.Copies.{Copies}
use Rattle.stream_fold.specs.declared.config.Copies.TheVariants.{Nothing, Mirror as MirrorOf, Sources}
use Rattle.stream_fold.specs.declared.entry.Mark.{Mark}
use Rattle.stream_fold.specs.declared.entry.Entry.{Entry}
use Rattle.stream_fold.specs.declared.entry.Entry.TheVariants.{Put, Del, Purge, Expire, Bind, Limits}
use Rattle.stream_fold.specs.Histories.{History, with_entry}
use Rattle.stream_fold.specs.Copying.{bound}
use Rattle.stream_fold.specs.Fits.{Fits}
use Rattle.leafd_script.specs.declared.line.Line.{Line}
use Rattle.leafd_script.specs.declared.line.Line.TheVariants.{Node, Stream, Mirror, Update, Publish, PublishWithHeaders, Delete, Purge as PurgeLine, Expire as ExpireLine, Clock, Settle, Show, Log, Heads, Quiet}
use Rattle.leafd_cli.specs.declared.operation.Operation.{Operation}
use Rattle.leafd_cli.specs.declared.operation.Operation.TheVariants.{Publish as PublishOf, Delete as DeleteOf, Purge as PurgeOf, Expire as ExpireNow, Update as UpdateOf}
use Rattle.leafd_cli.specs.Logs.{StreamLog, Logs, is_at, history_of}
use Rattle.leafd_cli.specs.Effects.{effect}

-- an operation on the stream of this name on this node
pub record Task : Type 0 where
  pub node : List ℕ
  pub name : List ℕ
  pub operation : Operation

-- the operation of a line that works on one stream
abbrev pub task_of : Line → Option Task
task_of (Node node) = None
task_of (Stream node config) = None
task_of (Mirror node config) = None
task_of (Update node name changes) = Some (record { node = node; name = name; operation = UpdateOf changes })
task_of (Publish node name subject text) = Some (record { node = node; name = name; operation = PublishOf subject no_headers text })
task_of (PublishWithHeaders node name subject headers text) = Some (record { node = node; name = name; operation = PublishOf subject headers text })
task_of (Delete node name seq) = Some (record { node = node; name = name; operation = DeleteOf seq })
task_of (PurgeLine node name pattern below) = Some (record { node = node; name = name; operation = PurgeOf pattern below })
task_of (ExpireLine node name) = Some (record { node = node; name = name; operation = ExpireNow })
task_of (Clock moment) = None
task_of Settle = None
task_of (Show node name) = None
task_of (Log node name) = None
task_of Heads = None
task_of Quiet = None

-- a stream without entries
abbrev pub new_stream : List ℕ → Config → StreamLog
new_stream node config = record { node = node; config = config; entries = [] }

-- the stream that a line makes
abbrev pub made_by : Line → List StreamLog
made_by (Stream node config) = new_stream node config ∷ []
made_by (Mirror node config) = new_stream node config ∷ []
made_by _ = []

-- the stream with this entry, where there is one
abbrev pub appended : Option Entry → StreamLog → StreamLog
appended None s = s
appended (Some entry) s = record s { entries = s.entries ++ entry ∷ [] }

-- a stream on which an operation was done
abbrev pub worked : ℕ → Operation → StreamLog → StreamLog
worked now operation s = appended (effect now operation s).entry s

-- the streams after an operation on one of them
abbrev pub worked_in : ℕ → Task → List StreamLog → List StreamLog
worked_in now task [] = []
worked_in now task (s ∷ streams) = if is_at task.node task.name s then worked now task.operation s ∷ streams else s ∷ worked_in now task streams

-- the streams after an operation, where the line is one
abbrev pub worked_if : ℕ → Option Task → List StreamLog → List StreamLog
worked_if now None streams = streams
worked_if now (Some task) streams = worked_in now task streams

-- the streams with what the line itself makes: a stream, or an entry of one
abbrev pub operated : Logs → Line → List StreamLog
operated logs line = worked_if logs.clock (task_of line) logs.streams ++ made_by line

-- the nodes after a line
abbrev pub nodes_after : Logs → Line → List (List ℕ)
nodes_after logs (Node node) = logs.nodes ++ node ∷ []
nodes_after logs _ = logs.nodes

-- the clock after a line
abbrev pub clock_after : Logs → Line → ℕ
clock_after logs (Clock moment) = moment
clock_after logs _ = logs.clock

-- whether answers are no more printed after a line
abbrev pub quiet_after : Logs → Line → Bool
quiet_after logs Quiet = true
quiet_after logs _ = logs.quiet

-- a message without a mark
abbrev pub IsUnmarked : Option Mark → Type 0
IsUnmarked None = Unit {0}
IsUnmarked (Some mark) = ⊥

-- an entry that copying makes in a mirror with this log: a Bind, or, once it is bound, a Put without a mark
abbrev pub IsMirroring : List Entry → Entry → Type 0
IsMirroring log (Put number message mark) = IsUnmarked mark × IsSome (bound 0 log)
IsMirroring log (Del number) = ⊥
IsMirroring log (Purge pattern below) = ⊥
IsMirroring log (Expire now) = ⊥
IsMirroring log (Bind index incarnation start) = Unit {0}
IsMirroring log (Limits config) = ⊥

-- an entry that copying makes in a stream; no line makes a stream with sources yet
abbrev pub IsCopying : Copies → List Entry → Entry → Type 0
IsCopying Nothing log entry = ⊥
IsCopying (MirrorOf origin) log entry = IsMirroring log entry
IsCopying (Sources origins) log entry = ⊥

-- entries that copying makes one after another, each of which fits the history before it
abbrev pub AreCopying : Copies → History → List Entry → Type 0
AreCopying copies h [] = Unit {0}
AreCopying copies h (entry ∷ entries) = IsCopying copies h.entries entry × Fits h entry × AreCopying copies (with_entry h entry) entries

-- a log that grew by copying alone
pub record GrowsByCopying (old new : StreamLog) : Type 0 where
  pub node : new.node ≡ old.node
  pub config : new.config ≡ old.config
  pub more : List Entry
  pub entries : new.entries ≡ old.entries ++ more
  pub copying : AreCopying old.config.copies (history_of old) more

-- each log grew by copying alone, and none came or went
abbrev pub AllGrow : List StreamLog → List StreamLog → Type 0
AllGrow [] [] = Unit {0}
AllGrow (s ∷ old) (t ∷ new) = GrowsByCopying s t × AllGrow old new
AllGrow [] (t ∷ new) = ⊥
AllGrow (s ∷ old) [] = ⊥
