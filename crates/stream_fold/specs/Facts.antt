-- The facts of a history: all that any later answer needs of it.
use Rattle.std.specs.Prelude.{◌≡◌, ⊤, ℕ, ◌+◌, ◌-◌, ◌<◌, ◌^◌, max, nat_lt, List, [], ◌∷◌, if◌then◌else◌, Option, Some, None, is_some, IsSome, Result, codes}
use Rattle.std.specs.FinMap.{FinMap, empty, get, insert, retain_keys}
use Rattle.std.specs.Ordering.{nat_cmp}
use Rattle.std.specs.Cmp.Lexicographic.{slice_cmp}
use Rattle.nats_text.specs.Headers.{first_value}
use Rattle.nats_text.specs.declared.message.Message.{Message}
use Rattle.nats_text.specs.declared.message.Start.{Start}
use Rattle.stream_fold.specs.declared.config.Config.{Config}
use Rattle.stream_fold.specs.declared.entry.BoundTo.{BoundTo}
use Rattle.stream_fold.specs.declared.entry.Entry.{Entry}
use Rattle.stream_fold.specs.declared.entry.Entry.TheVariants.{Put, Del, Purge, Expire, Bind, Limits}
use Rattle.stream_fold.specs.declared.entry.Mark.{Mark}
use Rattle.stream_fold.specs.declared.entry.Numbered.{Numbered}
use Rattle.stream_fold.specs.declared.parts.Binding.{Binding}
use Rattle.stream_fold.specs.declared.parts.Sent.{Sent}
use Rattle.stream_fold.specs.declared.verdict.Refusal.{Refusal}
use Rattle.stream_fold.specs.declared.verdict.Verdict.{Verdict}
use Rattle.stream_fold.specs.Histories.{History, limits_after, rows_after, number_put, moment_of, mark_of, message_at}
use Rattle.stream_fold.specs.Copying.{bound_by, mark_or, origin_named, start_by, start_of}
use Rattle.stream_fold.specs.Fits.{IsMark, KeepsMembers, index_count}
use Rattle.stream_fold.specs.Held.{Held, id_of, number_in}
use Rattle.stream_fold.specs.Publishing.{verdict_behind, earlier_refusal, later_refusal}

-- the last mark of each index of a copy
abbrev pub Marks : Type 0
Marks = FinMap nat_cmp ℕ

-- what copies are bound to, by index
abbrev pub Bindings : Type 0
Bindings = FinMap nat_cmp BoundTo

-- messages of clients by identifier, in byte order
abbrev pub SentById : Type 0
SentById = FinMap (slice_cmp nat_cmp) Sent

-- The configuration in force, the last number, the clock, the last mark of each index, what each index
-- is bound to, of each identifier the latest message of a client while its time plus the window is
-- above the clock, and the messages that are kept, oldest first.
pub record StreamFacts : Type 0 where
  pub config : Config
  pub last : ℕ
  pub clock : ℕ
  pub marks : Marks
  pub bindings : Bindings
  pub sent : SentById
  pub rows : List Numbered

-- ---- the facts after one entry more

-- with a mark in place of an earlier one of its index
abbrev pub marks_with : Option Mark → Marks → Marks
marks_with None marks = marks
marks_with (Some mark) marks = insert marks mark.index mark.seq

-- with a binding of an index that isn't bound; the first one of an index counts
abbrev pub first_bound : Option BoundTo → Binding → Bindings → Bindings
first_bound None binding bindings = insert bindings binding.index binding.to
first_bound (Some to) binding bindings = bindings

-- with these bindings, one after another
abbrev pub bindings_with : List Binding → Bindings → Bindings
bindings_with [] bindings = bindings
bindings_with (b ∷ bs) bindings = bindings_with bs (first_bound (get bindings b.index) b bindings)

-- what an entry sends under this identifier
abbrev pub sends : Option (List ℕ) → Entry → List Sent
sends None e = []
sends (Some id) e = (record { id = id; seq = number_put e; time = moment_of e }) ∷ []

-- with these messages, one after another, each in place of an earlier one of its identifier
abbrev pub sent_with : List Sent → SentById → SentById
sent_with [] sent = sent
sent_with (s ∷ ss) sent = sent_with ss (insert sent s.id s)

-- those of the messages whose time plus the window is above the clock
abbrev pub while_open : ℕ → ℕ → SentById → SentById
while_open window clock sent = retain_keys sent (λ id. is_some (number_in window clock (get sent id)))

-- the facts after one entry more
abbrev pub facts_after : StreamFacts → Entry → StreamFacts
facts_after f e = record {
  config = limits_after f.config e;
  last = max f.last (number_put e);
  clock = max f.clock (moment_of e);
  marks = marks_with (mark_of e) f.marks;
  bindings = bindings_with (bound_by e) f.bindings;
  sent = while_open (limits_after f.config e).window (max f.clock (moment_of e)) (sent_with (sends (id_of e) e) f.sent);
  rows = rows_after f.config e f.rows;
}

-- the facts after these entries more, the first of them first
abbrev pub facts_from : StreamFacts → List Entry → StreamFacts
facts_from f [] = f
facts_from f (e ∷ es) = facts_from (facts_after f e) es

-- the facts of a stream that was just made
abbrev pub new_facts : Config → StreamFacts
new_facts c = record { config = c; last = 0; clock = 0; marks = empty; bindings = empty; sent = empty; rows = [] }

-- the facts of a history
abbrev pub facts : History → StreamFacts
facts h = facts_from (new_facts h.config) h.entries

-- ---- what is asked of a history, answered by its facts

-- where the copy of an index starts
abbrev pub start_by_facts : ℕ → StreamFacts → ℕ
start_by_facts index f = start_of (get f.bindings index) (origin_named index f.config.copies)

-- how far the copy of an index has come
abbrev pub mark_by_facts : ℕ → StreamFacts → ℕ
mark_by_facts index f = mark_or (get f.marks index) (start_by_facts index f - 1)

-- how far a mirror has come
abbrev pub front_by_facts : Start → StreamFacts → ℕ
front_by_facts start f = max f.last (start_by (get f.bindings 0) start - 1)

-- the number of which a publish of this identifier would be a repeat at this moment
abbrev pub dup_by_facts : StreamFacts → List ℕ → ℕ → Option ℕ
dup_by_facts f id now = number_in f.config.window (max now f.clock) (get f.sent id)

-- the same for an identifier that may not be there
abbrev pub repeat_by_facts : StreamFacts → Option (List ℕ) → ℕ → Option ℕ
repeat_by_facts f None now = None
repeat_by_facts f (Some id) now = dup_by_facts f id now

-- what a publish of this message at this moment is answered
abbrev pub verdict_by_facts : StreamFacts → Message → ℕ → Result Verdict Refusal
verdict_by_facts f m now = verdict_behind (earlier_refusal f.config m) (repeat_by_facts f (first_value (codes "Nats-Msg-Id") m.headers) now) (later_refusal f.config m f.rows f.last)

-- an entry may come next in a history of these facts
abbrev pub FitsFacts : StreamFacts → Entry → Type 0
FitsFacts f (Put number message mark) = (f.last < number) × (number < 2 ^ 63) × IsMark mark
FitsFacts f (Del number) = IsSome (message_at number f.rows)
FitsFacts f (Purge pattern below) = ⊤
FitsFacts f (Expire now) = ⊤
FitsFacts f (Bind index incarnation start) = (index < index_count f.config.copies) × (get f.bindings index ≡ None)
FitsFacts f (Limits config) = KeepsMembers f.config config

-- the latest message of an identifier, while its time plus the window is above the clock
abbrev pub open_sent : ℕ → ℕ → List ℕ → Option Numbered → Option Sent
open_sent window clock id None = None
open_sent window clock id (Some row) = if nat_lt clock (row.message.time + window) then Some (record { id = id; seq = row.seq; time = row.message.time }) else None

-- ---- histories of one window

-- an entry leaves the duplicate window as it is
abbrev pub LeavesWindow : ℕ → Entry → Type 0
LeavesWindow window (Put number message mark) = ⊤
LeavesWindow window (Del number) = ⊤
LeavesWindow window (Purge pattern below) = ⊤
LeavesWindow window (Expire now) = ⊤
LeavesWindow window (Bind index incarnation start) = ⊤
LeavesWindow window (Limits config) = config.window ≡ window

-- each of these entries leaves it
abbrev pub AllLeaveWindow : ℕ → List Entry → Type 0
AllLeaveWindow window [] = ⊤
AllLeaveWindow window (e ∷ es) = LeavesWindow window e × AllLeaveWindow window es

-- the duplicate window stays what it was at the creation
abbrev pub KeepsWindow : History → Type 0
KeepsWindow h = AllLeaveWindow h.config.window h.entries

-- ---- what a state shows

-- the marks of a list, the first one of each index
abbrev pub marks_in : List Mark → Marks
marks_in [] = empty
marks_in (m ∷ ms) = insert (marks_in ms) m.index m.seq

-- what a state holds, as facts: of each index and identifier what is looked up, whatever the order of
-- the lists
abbrev pub facts_in : Held → StreamFacts
facts_in held = record {
  config = held.limits;
  last = held.last;
  clock = held.clock;
  marks = marks_in held.marks;
  bindings = bindings_with held.bindings empty;
  sent = while_open held.window held.clock (sent_with held.sent empty);
  rows = held.rows;
}
