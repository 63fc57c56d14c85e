-- The plain world as a function: what each line does to the logs. It carries nothing between nodes
-- until `settle`, where each copy takes what its origin keeps, in the order in which they were made.
use Rattle.std.specs.Prelude.{ℕ, List, [], ◌∷◌, ◌++◌, length, slice_set, slice_index_or, map, filter, nat_lt, Option, None, Some}
use Prim.Native.Nat.{zero, suc}
use Rattle.stream_fold.specs.declared.config.Discard.TheVariants.{Old}
use Rattle.stream_fold.specs.declared.config.Copies.{Copies}
use Rattle.stream_fold.specs.declared.config.Copies.TheVariants.{Nothing, Mirror as MirrorOf, Sources}
use Rattle.stream_fold.specs.declared.entry.Entry.{Entry}
use Rattle.stream_fold.specs.declared.entry.Entry.TheVariants.{Put, Bind}
use Rattle.stream_fold.specs.declared.entry.Numbered.{Numbered}
use Rattle.stream_fold.specs.declared.entry.BoundTo.{BoundTo}
use Rattle.stream_fold.specs.Histories.{last, kept}
use Rattle.stream_fold.specs.Copying.{bound}
use Rattle.leafd_script.specs.declared.line.Line.{Line}
use Rattle.leafd_script.specs.declared.line.Line.TheVariants.{Settle}
use Rattle.leafd_cli.specs.Logs.{StreamLog, Logs, no_logs, history_of}
use Rattle.leafd_cli.specs.Legal.{origin_among}
use Rattle.leafd_cli.specs.Operations.{nodes_after, clock_after, quiet_after, operated, new_stream}

-- the entry of a copied message
abbrev pub copied_entry : Numbered → Entry
copied_entry row = Put row.seq row.message None

-- the messages past a number
abbrev pub rows_past : ℕ → List Numbered → List Numbered
rows_past number rows = filter (λ row. nat_lt number row.seq) rows

-- the log with a Bind, where there is none
abbrev pub bound_log : Option BoundTo → List Entry → List Entry
bound_log None entries = entries ++ Bind 0 1 1 ∷ []
bound_log (Some to) entries = entries

-- the messages that a stream is to take, where it is a copy
abbrev pub missing_of : Option StreamLog → StreamLog → Option (List Numbered)
missing_of None copy = None
missing_of (Some origin) copy = Some (rows_past (last copy.entries) (kept (history_of origin)))

abbrev pub missing_kind : List StreamLog → StreamLog → Copies → Option (List Numbered)
missing_kind streams s Nothing = None
missing_kind streams s (MirrorOf want) = missing_of (origin_among want streams) s
missing_kind streams s (Sources wants) = None

abbrev pub missing : List StreamLog → StreamLog → Option (List Numbered)
missing streams s = missing_kind streams s s.config.copies

-- a copy that is bound and takes messages
abbrev pub fed_rows : List Numbered → StreamLog → StreamLog
fed_rows rows copy = record copy { entries = bound_log (bound 0 copy.entries) copy.entries ++ map copied_entry rows }

abbrev pub fed : Option (List Numbered) → StreamLog → StreamLog
fed None s = s
fed (Some rows) s = fed_rows rows s

abbrev pub settled_stream : List StreamLog → StreamLog → StreamLog
settled_stream streams s = fed (missing streams s) s

-- what no place past the last holds
abbrev pub no_stream : StreamLog
no_stream = new_stream [] (record { name = []; subjects = []; max_msgs = 0; max_bytes = 0; max_age = 0; max_per_subject = 0; max_msg_size = 0; discard = Old; window = 0; transform = None; copies = Nothing })

-- the streams after the one at a place has taken what it can
abbrev pub settle_at : ℕ → List StreamLog → List StreamLog
settle_at k streams = slice_set streams k (settled_stream streams (slice_index_or streams k no_stream))

-- the streams after those at the first places have done so, one after another
abbrev pub settled_upto : ℕ → List StreamLog → List StreamLog
settled_upto zero streams = streams
settled_upto (suc k) streams = settle_at k (settled_upto k streams)

abbrev pub streams_after : Logs → Line → List StreamLog
streams_after logs Settle = settled_upto (length logs.streams) logs.streams
streams_after logs line = operated logs line

abbrev pub step : Logs → Line → Logs
step logs line = record { nodes = nodes_after logs line; streams = streams_after logs line; clock = clock_after logs line; quiet = quiet_after logs line }

abbrev pub step_on : Logs → Option Line → Logs
step_on logs None = logs
step_on logs (Some line) = step logs line

-- a script that has come so far: the logs, and the number of the next line
pub record Progress : Type 0 where
  pub logs : Logs
  pub number : ℕ

abbrev pub start : Progress
start = record { logs = no_logs; number = 1 }
