-- What each line of a script prints.
use Rattle.std.specs.Prelude.{ℕ, List, [], ◌∷◌, ◌++◌, length, Bool, if◌then◌else◌, Option, None, Some, filter, codes, decimal}
use Rattle.std.specs.Str.{bytes_eq}
use Rattle.std.specs.List.{flat_map}
use Rattle.hex.specs.Hex.{encode_lower}
use Rattle.nats_text.specs.declared.headers.Pair.{Pair}
use Rattle.nats_text.specs.declared.message.Message.{Message}
use Rattle.nats_text.specs.declared.origin.Origin.{Origin}
use Rattle.stream_fold.specs.declared.config.Copies.{Copies}
use Rattle.stream_fold.specs.declared.config.Copies.TheVariants.{Nothing, Mirror as MirrorOf, Sources}
use Rattle.stream_fold.specs.declared.entry.Mark.{Mark}
use Rattle.stream_fold.specs.declared.entry.Entry.{Entry}
use Rattle.stream_fold.specs.declared.entry.Entry.TheVariants.{Put, Del, Purge, Expire, Bind, Limits}
use Rattle.stream_fold.specs.declared.entry.Numbered.{Numbered}
use Rattle.stream_fold.specs.Histories.{kept, last}
use Rattle.stream_fold.specs.Copying.{front}
use Rattle.stream_fold.specs.Held.{first_of}
use Rattle.leafd_script.specs.declared.line.Line.{Line}
use Rattle.leafd_script.specs.declared.line.Line.TheVariants.{Stream, Mirror, Show, Log, Heads}
use Rattle.leafd_cli.specs.Logs.{StreamLog, Logs, history_of, stream_at}
use Rattle.leafd_cli.specs.Effects.{answer_at, counted}
use Rattle.leafd_cli.specs.Operations.{Task, task_of}

-- the number of a line, a space, and its answer
abbrev pub answer : ℕ → List ℕ → List ℕ
answer number text = decimal number ++ 32 ∷ (text ++ 10 ∷ [])

-- lower-case hex, or a dash for nothing
abbrev pub hex_text : List ℕ → List ℕ
hex_text [] = 45 ∷ []
hex_text (b ∷ bs) = encode_lower (b ∷ bs)

-- a message and its number: the number, the time, the subject and the payload
abbrev pub message_text : ℕ → Message → List ℕ
message_text seq m = decimal seq ++ 32 ∷ (decimal m.time ++ 32 ∷ (m.subject ++ 32 ∷ hex_text m.payload))

-- a header behind two spaces
abbrev pub pair_text : Pair → List ℕ
pair_text pair = 32 ∷ 32 ∷ (pair.name ++ 58 ∷ 32 ∷ (pair.value ++ 10 ∷ []))

-- the header lines of a message
abbrev pub pairs_text : Message → List ℕ
pairs_text m = flat_map pair_text m.headers.pairs

-- a kept message, and its headers under it
abbrev pub row_text : Numbered → List ℕ
row_text row = message_text row.seq row.message ++ 10 ∷ pairs_text row.message

-- the name of a node, where there is one
abbrev pub node_text : Option (List ℕ) → List ℕ
node_text None = []
node_text (Some node) = node

-- an origin of a mirror, and how far the mirror has come
abbrev pub front_text : Origin → ℕ → List ℕ
front_text want front = codes "from " ++ (node_text want.node ++ 32 ∷ (want.stream ++ (codes " front " ++ (decimal front ++ 10 ∷ []))))

-- the lines of a stream's origins
abbrev pub origins_text : StreamLog → Copies → List ℕ
origins_text s Nothing = []
origins_text s (MirrorOf want) = front_text want (front want.start s.entries)
origins_text s (Sources wants) = []

-- the node and name of a stream
abbrev pub title_text : StreamLog → List ℕ
title_text s = codes "stream " ++ (s.node ++ 32 ∷ s.config.name)

-- the first and last number, and how many messages are kept
abbrev pub numbers_text : ℕ → ℕ → ℕ → List ℕ
numbers_text first last count = codes " first " ++ (decimal first ++ (codes " last " ++ (decimal last ++ (codes " kept " ++ (decimal count ++ 10 ∷ [])))))

-- the numbers of a stream: first, last and how many are kept
abbrev pub counts_text : StreamLog → List ℕ
counts_text s = numbers_text (first_of (kept (history_of s)) (last s.entries)) (last s.entries) (length (kept (history_of s)))

-- how far a stream has come: its node and name, the first and last number, how many are kept, and
-- the lines of its origins
abbrev pub head_text : StreamLog → List ℕ
head_text s = title_text s ++ (counts_text s ++ origins_text s s.config.copies)

-- what `show` prints
abbrev pub show_text : Option StreamLog → List ℕ
show_text None = []
show_text (Some s) = head_text s ++ flat_map row_text (kept (history_of s))

-- the mark of an entry in a log
abbrev pub logged_mark : Option Mark → List ℕ
logged_mark None = []
logged_mark (Some mark) = counted (counted (codes " mark") mark.index) mark.seq

-- an entry of a log
abbrev pub logged_entry : Entry → List ℕ
logged_entry (Put seq message mark) = codes "put " ++ (message_text seq message ++ (logged_mark mark ++ 10 ∷ pairs_text message))
logged_entry (Del seq) = counted (codes "del") seq ++ 10 ∷ []
logged_entry (Purge pattern below) = codes "purge " ++ (counted pattern below ++ 10 ∷ [])
logged_entry (Expire now) = counted (codes "expire") now ++ 10 ∷ []
logged_entry (Bind index incarnation start) = counted (counted (counted (codes "bind") index) incarnation) start ++ 10 ∷ []
logged_entry (Limits config) = codes "limits" ++ 10 ∷ []

-- a log's node and name, and how many entries it has
abbrev pub log_title : StreamLog → List ℕ
log_title s = codes "log " ++ (s.node ++ 32 ∷ (counted s.config.name (length s.entries) ++ 10 ∷ []))

-- what `log` prints: the title, and each entry
abbrev pub log_text : Option StreamLog → List ℕ
log_text None = []
log_text (Some s) = log_title s ++ flat_map logged_entry s.entries

-- the streams of a node, in the order in which they were made
abbrev pub streams_on : List StreamLog → List ℕ → List StreamLog
streams_on streams node = filter (λ s. bytes_eq s.node node) streams

-- what `heads` prints: how far each stream has come, node by node
abbrev pub heads_text : List (List ℕ) → List StreamLog → List ℕ
heads_text nodes streams = flat_map (λ node. flat_map head_text (streams_on streams node)) nodes

-- an answer, unless answers are no more printed
abbrev pub answer_if : Bool → ℕ → List ℕ → List ℕ
answer_if quiet number text = if quiet then [] else answer number text

-- the answer of a line, unless answers are no more printed or there is none
abbrev pub answer_text : Bool → ℕ → Option (List ℕ) → List ℕ
answer_text quiet number None = []
answer_text quiet number (Some text) = answer_if quiet number text

-- the answer of an operation on a stream
abbrev pub task_text : Logs → ℕ → Option Task → List ℕ
task_text logs number None = []
task_text logs number (Some task) = answer_text logs.quiet number (answer_at logs.clock task.operation (stream_at task.node task.name logs.streams))

-- what a line prints besides the answer of an operation on a stream
abbrev pub own_text : Logs → ℕ → Line → List ℕ
own_text logs number (Stream node config) = answer_if logs.quiet number (codes "made")
own_text logs number (Mirror node config) = answer_if logs.quiet number (codes "made")
own_text logs number (Show node name) = show_text (stream_at node name logs.streams)
own_text logs number (Log node name) = log_text (stream_at node name logs.streams)
own_text logs number Heads = heads_text logs.nodes logs.streams
own_text logs number _ = []

-- what a line prints, from the logs before it: no line that prints a log changes one
abbrev pub printed : ℕ → Logs → Line → List ℕ
printed number logs line = task_text logs number (task_of line) ++ own_text logs number line
