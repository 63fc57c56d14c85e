-- What a publish into a stream is answered: a number for it, the number of the message that it
-- repeats, or the first refusal (the publish headers of JetStream).
use Rattle.std.specs.Prelude.{◌≡◌, ℕ, ◌+◌, ◌-◌, ◌^◌, max, min, List, [], ◌∷◌, ◌++◌, length, Bool, true, false, ◌&&◌, ◌||◌, not, ◌==◌, nat_lt, nat_le, if◌then◌else◌, Option, None, Some, is_none, Result, Ok, Err, codes}
use Rattle.std.specs.List.{list_any}
use Rattle.std.specs.Str.{bytes_eq}
use Rattle.nats_text.specs.Headers.{first_value, has_name, written}
use Rattle.nats_text.specs.Matching.{matches}
use Rattle.nats_text.specs.Numbers.{number_of}
use Rattle.nats_text.specs.declared.message.Message.{Message}
use Rattle.stream_fold.specs.declared.config.Config.{Config}
use Rattle.stream_fold.specs.declared.config.Discard.{Discard}
use Rattle.stream_fold.specs.declared.config.Discard.TheVariants.{Old, New}
use Rattle.stream_fold.specs.declared.entry.Entry.{Entry}
use Rattle.stream_fold.specs.declared.entry.Entry.TheVariants.{Put, Del, Purge, Expire, Bind, Limits}
use Rattle.stream_fold.specs.declared.entry.Mark.{Mark}
use Rattle.stream_fold.specs.declared.entry.Numbered.{Numbered}
use Rattle.stream_fold.specs.declared.verdict.Verdict.{Verdict}
use Rattle.stream_fold.specs.declared.verdict.Verdict.TheVariants.{Fresh, Duplicate}
use Rattle.stream_fold.specs.declared.verdict.Refusal.{Refusal}
use Rattle.stream_fold.specs.declared.verdict.Refusal.TheVariants.{IsMirror, BadHeader, WrongStream, WrongLast, WrongSubjectLast, TooLarge, SeqEnd, Full, NoMemory}
use Rattle.stream_fold.specs.Checking.{is_mirror}
use Rattle.stream_fold.specs.Histories.{History, either, last, clock, stands, kept, newest_of_subjects, are_within, size_of}

-- ---- repeats

-- there is a value, and it is this one
abbrev pub is_value : List ℕ → Option (List ℕ) → Bool
is_value wanted None = false
is_value wanted (Some value) = bytes_eq value wanted

-- a message without a mark that a client gave this identifier
abbrev pub is_sent_as : List ℕ → Message → Option Mark → Bool
is_sent_as id message None = is_value id (first_value (codes "Nats-Msg-Id") message.headers)
is_sent_as id message (Some mark) = false

-- the message that this entry puts for a client under the identifier
abbrev pub sent_by : List ℕ → Entry → Option Numbered
sent_by id (Put number message mark) = if is_sent_as id message mark then Some (record { seq = number; message = message }) else None
sent_by id (Del number) = None
sent_by id (Purge pattern below) = None
sent_by id (Expire now) = None
sent_by id (Bind index incarnation start) = None
sent_by id (Limits config) = None

-- the latest message of the identifier, kept or not
abbrev pub latest_sent : List ℕ → List Entry → Option Numbered
latest_sent id [] = None
latest_sent id (e ∷ es) = either (latest_sent id es) (sent_by id e)

-- its number, where its time plus the window is above the moment
abbrev pub in_window : ℕ → ℕ → Option Numbered → Option ℕ
in_window window moment None = None
in_window window moment (Some row) = if nat_lt moment (row.message.time + window) then Some row.seq else None

-- the number of which a publish of this identifier would be a repeat at the greater of `now` and the
-- history's clock
abbrev pub dup : History → List ℕ → ℕ → Option ℕ
dup h id now = in_window h.config.window (max now (clock h.entries)) (latest_sent id h.entries)

-- the same for an identifier that may not be there
abbrev pub dup_of : History → Option (List ℕ) → ℕ → Option ℕ
dup_of h None now = None
dup_of h (Some id) now = dup h id now

-- ---- refusals

-- a value that is there and is no number
abbrev pub is_no_number : Option (List ℕ) → Bool
is_no_number None = false
is_no_number (Some value) = is_none (number_of value)

-- there is a number, and it is another one
abbrev pub is_other : ℕ → Option ℕ → Bool
is_other n None = false
is_other n (Some m) = not (m == n)

-- a value that is there, is a number, and is another one than this
abbrev pub is_other_number : ℕ → Option (List ℕ) → Bool
is_other_number n None = false
is_other_number n (Some value) = is_other n (number_of value)

-- a value that is there and is another text than this
abbrev pub is_other_text : List ℕ → Option (List ℕ) → Bool
is_other_text text None = false
is_other_text text (Some value) = not (bytes_eq value text)

-- the first header that a publish may not have: three that aren't taken, and two that have to be numbers
abbrev pub bad_header : Message → Option (List ℕ)
bad_header m =
    if has_name (codes "Nats-Rollup") m.headers then Some (codes "Nats-Rollup")
    else (if has_name (codes "Nats-TTL") m.headers then Some (codes "Nats-TTL")
    else (if has_name (codes "Nats-Expected-Last-Msg-Id") m.headers then Some (codes "Nats-Expected-Last-Msg-Id")
    else (if is_no_number (first_value (codes "Nats-Expected-Last-Sequence") m.headers) then Some (codes "Nats-Expected-Last-Sequence")
    else (if is_no_number (first_value (codes "Nats-Expected-Last-Subject-Sequence") m.headers) then Some (codes "Nats-Expected-Last-Subject-Sequence") else None))))

-- the greatest kept number of a subject
abbrev pub last_of : List ℕ → List Numbered → Option ℕ
last_of subject [] = None
last_of subject (row ∷ rows) = either (last_of subject rows) (if bytes_eq row.message.subject subject then Some row.seq else None)

-- the number, or 0 where there is none
abbrev pub number_or_0 : Option ℕ → ℕ
number_or_0 None = 0
number_or_0 (Some n) = n

-- a number, or the greatest of 64 bits where it is greater
abbrev pub capped : ℕ → ℕ
capped n = min n (2 ^ 64 - 1)

-- the header block and the payload of a message
abbrev pub content_size : Message → ℕ
content_size m = length (written m.headers) + length m.payload

-- the messages that would be kept with this one, the limit of each subject applied
abbrev pub rows_with : Config → Message → List Numbered → ℕ → List Numbered
rows_with c m rows last = newest_of_subjects c.max_per_subject (rows ++ (record { seq = last + 1; message = m }) ∷ [])

-- a full stream takes no new message
abbrev pub is_new : Discard → Bool
is_new Old = false
is_new New = true

-- the stream takes no new message where it is full, and would be
abbrev pub is_full : Config → List Numbered → Bool
is_full c rows = is_new c.discard && not (are_within c rows)

-- the refusal of a full stream, with the count and the bytes that would stand
abbrev pub full : List Numbered → Refusal
full rows = Full (length rows) (capped (size_of rows))

-- the refusals behind the test for a repeat, in their order; `rows` are kept, `last` is the last number
abbrev pub later_refusal : Config → Message → List Numbered → ℕ → Option Refusal
later_refusal c m rows last =
    if is_other_number last (first_value (codes "Nats-Expected-Last-Sequence") m.headers) then Some (WrongLast last)
    else (if is_other_number (number_or_0 (last_of m.subject rows)) (first_value (codes "Nats-Expected-Last-Subject-Sequence") m.headers) then Some (WrongSubjectLast (number_or_0 (last_of m.subject rows)))
    else (if not (c.max_msg_size == 0) && nat_lt c.max_msg_size (content_size m) then Some (TooLarge (capped (content_size m)) c.max_msg_size)
    else (if last == 2 ^ 63 - 1 then Some SeqEnd
    else (if is_full c (rows_with c m rows last) then Some (full (rows_with c m rows last)) else None))))

-- a bad header, and behind it another stream than the one expected
abbrev pub header_refusal : Config → Message → Option (List ℕ) → Option Refusal
header_refusal c m (Some name) = Some (BadHeader name)
header_refusal c m None = if is_other_text c.name (first_value (codes "Nats-Expected-Stream") m.headers) then Some WrongStream else None

-- the refusals before the test for a repeat, in their order
abbrev pub earlier_refusal : Config → Message → Option Refusal
earlier_refusal c m = if is_mirror c.copies then Some IsMirror else header_refusal c m (bad_header m)

-- new, unless it is refused
abbrev pub fresh_or : Option Refusal → Result Verdict Refusal
fresh_or None = Ok Fresh
fresh_or (Some refusal) = Err refusal

-- a repeat, and else new unless it is refused
abbrev pub repeat_or : Option ℕ → Option Refusal → Result Verdict Refusal
repeat_or None refusal = fresh_or refusal
repeat_or (Some number) refusal = Ok (Duplicate number)

-- an earlier refusal, else a repeat, else a later refusal, else new
abbrev pub verdict_behind : Option Refusal → Option ℕ → Option Refusal → Result Verdict Refusal
verdict_behind None repeated later = repeat_or repeated later
verdict_behind (Some refusal) repeated later = Err refusal

-- what a publish of this message at this moment is answered
abbrev pub verdict : History → Message → ℕ → Result Verdict Refusal
verdict h m now = verdict_behind (earlier_refusal (stands h).limits m) (dup_of h (first_value (codes "Nats-Msg-Id") m.headers) now) (later_refusal (stands h).limits m (kept h) (last h.entries))

-- ---- what a state gives

-- the verdict itself, unless memory ran out
abbrev pub UnlessNoMemory : Refusal → Type 0 → Type 0
UnlessNoMemory IsMirror fact = fact
UnlessNoMemory (BadHeader name) fact = fact
UnlessNoMemory WrongStream fact = fact
UnlessNoMemory (WrongLast kept) fact = fact
UnlessNoMemory (WrongSubjectLast kept) fact = fact
UnlessNoMemory (TooLarge bytes limit) fact = fact
UnlessNoMemory SeqEnd fact = fact
UnlessNoMemory (Full count bytes) fact = fact
UnlessNoMemory NoMemory fact = Unit {0}

-- what is answered is the verdict, unless memory ran out
abbrev pub GivesVerdict : Result Verdict Refusal → Result Verdict Refusal → Type 0
GivesVerdict (Ok answer) verdict = verdict ≡ Ok answer
GivesVerdict (Err refusal) verdict = UnlessNoMemory refusal (verdict ≡ Err refusal)

-- the number is that of a row at or after `from` that one of the filters takes, or all where there is none
abbrev pub is_next : ℕ → List (List ℕ) → Numbered → Bool
is_next from filters row = nat_le from row.seq && ((length filters == 0) || list_any (λ pattern. matches pattern row.message.subject) filters)

-- the least kept number at or after `from` of a subject that one of the filters matches; all match
-- where there is no filter
abbrev pub next_match : ℕ → List (List ℕ) → List Numbered → Option ℕ
next_match from filters [] = None
next_match from filters (row ∷ rows) = if is_next from filters row then Some row.seq else next_match from filters rows
