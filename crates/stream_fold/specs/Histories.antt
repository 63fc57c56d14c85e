-- A stream as the configuration of its creation and a list of entries, and what is read off it.
use Rattle.std.specs.Prelude.{◌≡◌, ℕ, ◌+◌, ◌<◌, ◌≤◌, max, ◌==◌, nat_lt, nat_le, Bool, not, ◌&&◌, ◌||◌, List, [], ◌∷◌, ◌++◌, length, if◌then◌else◌, Option, Some, None, sum_by, count_by, filter, ⊤}
use Rattle.std.specs.Str.{bytes_eq}
use Rattle.nats_text.specs.Matching.{matches}
use Rattle.nats_text.specs.Sizes.{size}
use Rattle.nats_text.specs.declared.message.Message.{Message}
use Rattle.stream_fold.specs.declared.config.Config.{Config}
use Rattle.stream_fold.specs.declared.entry.Entry.{Entry}
use Rattle.stream_fold.specs.declared.entry.Entry.TheVariants.{Put, Del, Purge, Expire, Bind, Limits}
use Rattle.stream_fold.specs.declared.entry.Mark.{Mark}
use Rattle.stream_fold.specs.declared.entry.Numbered.{Numbered}

-- a stream: the configuration of its creation, and its entries, the oldest first
pub record History : Type 0 where
  pub config : Config
  pub entries : List Entry

-- the history with one entry more
abbrev pub with_entry : History → Entry → History
with_entry h e = record { config = h.config; entries = h.entries ++ e ∷ [] }

-- the first of two, where there is one
abbrev pub either : {A : Type 0} → Option A → Option A → Option A
either (Some x) o = Some x
either None o = o

-- the message that this entry puts under the number
abbrev pub put_by : ℕ → Entry → Option Message
put_by seq (Put number message mark) = if number == seq then Some message else None
put_by seq (Del number) = None
put_by seq (Purge pattern below) = None
put_by seq (Expire now) = None
put_by seq (Bind index incarnation start) = None
put_by seq (Limits config) = None

-- the message of the Put with this number
abbrev pub put : ℕ → List Entry → Option Message
put seq [] = None
put seq (e ∷ es) = either (put_by seq e) (put seq es)

-- the number that this entry puts, else 0
abbrev pub number_put : Entry → ℕ
number_put (Put number message mark) = number
number_put (Del number) = 0
number_put (Purge pattern below) = 0
number_put (Expire now) = 0
number_put (Bind index incarnation start) = 0
number_put (Limits config) = 0

-- the greatest number put, else 0
abbrev pub last : List Entry → ℕ
last [] = 0
last (e ∷ es) = max (number_put e) (last es)

-- the moment of this entry: the time of a Put or the moment of an Expire, else 0
abbrev pub moment_of : Entry → ℕ
moment_of (Put number message mark) = message.time
moment_of (Del number) = 0
moment_of (Purge pattern below) = 0
moment_of (Expire now) = now
moment_of (Bind index incarnation start) = 0
moment_of (Limits config) = 0

-- the greatest time of a Put or moment of an Expire, else 0
abbrev pub clock : List Entry → ℕ
clock [] = 0
clock (e ∷ es) = max (moment_of e) (clock es)

-- the mark beside the message of a Put
abbrev pub mark_of : Entry → Option Mark
mark_of (Put number message mark) = mark
mark_of (Del number) = None
mark_of (Purge pattern below) = None
mark_of (Expire now) = None
mark_of (Bind index incarnation start) = None
mark_of (Limits config) = None

-- the configuration in force, and the messages that are kept, oldest first
pub record Folded : Type 0 where
  pub limits : Config
  pub rows : List Numbered

-- the second message has the subject of the first
abbrev pub has_subject_of : Numbered → Numbered → Bool
has_subject_of row other = bytes_eq other.message.subject row.message.subject

-- a message goes where so many later ones of its subject stand
abbrev pub newest_of_each : ℕ → List Numbered → List Numbered
newest_of_each n [] = []
newest_of_each n (row ∷ rows) = if nat_le n (count_by (has_subject_of row) rows) then newest_of_each n rows else row ∷ newest_of_each n rows

-- a limit of 0 is none
abbrev pub is_in_limit : ℕ → ℕ → Bool
is_in_limit limit n = (limit == 0) || nat_le n limit

-- the sum of the sizes of these messages, in bytes
abbrev pub size_of : List Numbered → ℕ
size_of rows = sum_by (λ row. size row.message) rows

-- the messages within the limits on their count and their bytes
abbrev pub are_within : Config → List Numbered → Bool
are_within c rows = is_in_limit c.max_msgs (length rows) && is_in_limit c.max_bytes (size_of rows)

-- without the shortest prefix that brings them within the limits
abbrev pub newest_within : Config → List Numbered → List Numbered
newest_within c [] = []
newest_within c (row ∷ rows) = if are_within c (row ∷ rows) then row ∷ rows else newest_within c rows

-- of each subject the newest so many; 0 means no limit
abbrev pub newest_of_subjects : ℕ → List Numbered → List Numbered
newest_of_subjects most rows = if most == 0 then rows else newest_of_each most rows

-- first the limit of each subject, then those of the stream
abbrev pub limited : Config → List Numbered → List Numbered
limited c rows = newest_within c (newest_of_subjects c.max_per_subject rows)

-- a purge takes it: its subject matches, and its number is below
abbrev pub is_purged : List ℕ → ℕ → Numbered → Bool
is_purged pattern below row = nat_lt row.seq below && matches pattern row.message.subject

-- an expiry takes it: it is as old as the limit on age says
abbrev pub is_expired : ℕ → ℕ → Numbered → Bool
is_expired max_age now row = not (max_age == 0) && nat_le (row.message.time + max_age) now

-- what an entry does to the messages, before the limits
abbrev pub changed_rows : Config → Entry → List Numbered → List Numbered
changed_rows c (Put number message mark) rows = rows ++ (record { seq = number; message = message }) ∷ []
changed_rows c (Del number) rows = filter (λ row. not (row.seq == number)) rows
changed_rows c (Purge pattern below) rows = filter (λ row. not (is_purged pattern below row)) rows
changed_rows c (Expire now) rows = filter (λ row. not (is_expired c.max_age now row)) rows
changed_rows c (Bind index incarnation start) rows = rows
changed_rows c (Limits config) rows = rows

-- the configuration after an entry
abbrev pub limits_after : Config → Entry → Config
limits_after c (Put number message mark) = c
limits_after c (Del number) = c
limits_after c (Purge pattern below) = c
limits_after c (Expire now) = c
limits_after c (Bind index incarnation start) = c
limits_after c (Limits config) = config

-- the messages after an entry, the limits applied
abbrev pub rows_after : Config → Entry → List Numbered → List Numbered
rows_after c e rows = limited (limits_after c e) (changed_rows c e rows)

-- the configuration and the messages after an entry
abbrev pub after : Folded → Entry → Folded
after k e = record { limits = limits_after k.limits e; rows = rows_after k.limits e k.rows }

-- what stands after these entries, the first of them first
abbrev pub standing : Folded → List Entry → Folded
standing k [] = k
standing k (e ∷ es) = standing (after k e) es

-- what stands at a history's end
abbrev pub stands : History → Folded
stands h = standing (record { limits = h.config; rows = [] }) h.entries

-- the messages that are kept, oldest first
abbrev pub kept : History → List Numbered
kept h = (stands h).rows

-- the message that is kept under the number
abbrev pub message_at : ℕ → List Numbered → Option Message
message_at seq [] = None
message_at seq (row ∷ rows) = if row.seq == seq then Some row.message else message_at seq rows

-- a Put has a number above this one
abbrev pub IsAbove : ℕ → Entry → Type 0
IsAbove low (Put number message mark) = low < number
IsAbove low (Del number) = ⊤
IsAbove low (Purge pattern below) = ⊤
IsAbove low (Expire now) = ⊤
IsAbove low (Bind index incarnation start) = ⊤
IsAbove low (Limits config) = ⊤

-- each Put has a number above this one and above those before it
abbrev pub RiseFrom : ℕ → List Entry → Type 0
RiseFrom low [] = ⊤
RiseFrom low (e ∷ es) = IsAbove low e × RiseFrom (max low (number_put e)) es

-- each Put has a number above those before it
abbrev pub NumbersRise : List Entry → Type 0
NumbersRise es = RiseFrom 0 es

-- a number that was reached and under which no message is kept
pub record IsHole (h : History) (seq : ℕ) : Type 0 where
  pub positive : 1 ≤ seq
  pub reached : seq ≤ last h.entries
  pub gone : message_at seq (kept h) ≡ None
