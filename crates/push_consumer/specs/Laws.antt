-- What holds of all consumers and of what they have sent.
use Rattle.std.specs.Prelude.{if◌then◌else◌, ◌≡◌, ℕ, List, ◌++◌, filter, Bool}
use Rattle.nats_text.specs.declared.message.Stamp.{Stamp}
use Rattle.stream_fold.specs.declared.entry.Entry.{Entry}
use Rattle.stream_fold.specs.declared.entry.Numbered.{Numbered}
use Rattle.stream_fold.specs.Histories.{History, NumbersRise}
use Rattle.stream_fold.specs.Held.{State, StandsFor as StateStandsFor}
use Rattle.stream_fold.specs.Publishing.{is_next}
use Rattle.stream_fold.specs.RowLists.{Rises, seqs}
use Rattle.push_consumer.specs.declared.wanted.Wanted.{Wanted}
use Rattle.push_consumer.specs.Chains.{Sendings, StandsFor, IsRight, no_sendings, with_rows, outstanding_of}
use Rattle.push_consumer.specs.Progress.{Progress, ConsumerState, new_consumer, outstanding, answered_by, is_awaited, after_beat}
use Rattle.push_consumer.specs.Pumps.{pumped, pump_rows}
use Rattle.push_consumer.specs.Sends.{rows_from}

-- of rows whose numbers rise, those are to be sent that have the number or a later one and that a filter
-- wants
abbrev pub SendsWhatIsWanted : Type 0
SendsWhatIsWanted = (from : ℕ) (filters : List (List ℕ)) (rows : List Numbered) → Rises 0 (seqs rows) → rows_from from filters rows ≡ filter (is_next from filters) rows

-- a new consumer has sent nothing, which is right
abbrev pub NewIsRight : Type 0
NewIsRight = (h : History) (name : Stamp) (stream : List ℕ) (what : Wanted) (now : ℕ) → IsRight h (new_consumer name stream what now) no_sendings

-- a pump over a state that stands for the history sends the rows behind what was sent, and leaves it right
abbrev pub PumpsKeep : Type 0
PumpsKeep = (h : History) (state : State) (p : ConsumerState) (c : Sendings) (budget now : ℕ) → NumbersRise h.entries → StateStandsFor state h → IsRight h p c → IsRight h (pumped state.held.rows budget now p) (with_rows c (pump_rows state.held.rows budget p))

-- with an answer, where its token is awaited
abbrev pub answered_to : ℕ → ConsumerState → Sendings → Sendings
answered_to token p c = if is_awaited token p.progress then record c { answered = token } else c

-- an answer to a flow request leaves it right
abbrev pub AnswersKeep : Type 0
AnswersKeep = (h : History) (p : ConsumerState) (c : Sendings) (token : ℕ) → IsRight h p c → IsRight h (record p { progress = answered_by token p.progress }) (answered_to token p c)

-- a beat leaves it right
abbrev pub BeatsKeep : Type 0
BeatsKeep = (h : History) (p : ConsumerState) (c : Sendings) (now : ℕ) → IsRight h p c → IsRight h (after_beat now p) c

-- a pause, or its end, leaves it right
abbrev pub PausesKeep : Type 0
PausesKeep = (h : History) (p : ConsumerState) (c : Sendings) (now_paused : Bool) → IsRight h p c → IsRight h (record p { paused = now_paused }) c

-- a longer history leaves it right
abbrev pub LongerKeep : Type 0
LongerKeep = (h : History) (more : List Entry) (p : ConsumerState) (c : Sendings) → NumbersRise (h.entries ++ more) → IsRight h p c → IsRight (record { config = h.config; entries = h.entries ++ more }) p c

-- the consumer's count of what is outstanding is that of what was sent
abbrev pub OutstandingIsSent : Type 0
OutstandingIsSent = (q : Progress) (c : Sendings) → StandsFor q c → outstanding q ≡ outstanding_of c
