-- How far a consumer has come, its window of bytes, and its flow requests (push consumers of JetStream
-- with flow control).
use Rattle.std.specs.Prelude.{ℕ, ◌+◌, ◌-◌, ◌==◌, Bool, false, not, ◌&&◌, nat_lt, nat_le, List, [], ◌∷◌, ◌++◌, length, sum, drop, if◌then◌else◌, Option, None, Some}
use Rattle.nats_text.specs.Sizes.{size}
use Rattle.nats_text.specs.declared.message.Stamp.{Stamp}
use Rattle.stream_fold.specs.declared.entry.Numbered.{Numbered}
use Rattle.js_wire.specs.declared.packet.Packet.{Packet}
use Rattle.js_wire.specs.declared.packet.Packet.TheVariants.{Beat}
use Rattle.push_consumer.specs.declared.wanted.Wanted.{Wanted}

-- How many deliveries were sent, the number of the last message sent, 0 where none was, and the
-- greatest token that was answered, 0 where none was. For each later flow request the bytes that were
-- sent between the request before it and it, and the bytes that were sent since the last request.
pub record Progress : Type 0 where
  pub count : ℕ
  pub last : ℕ
  pub answered : ℕ
  pub unanswered : List ℕ
  pub recent : ℕ

-- A consumer: its name, the stream that it reads, what its copy wants, how far it has come, whether it
-- is paused, and the moment at which it sent its last packet, or was made.
pub record ConsumerState : Type 0 where
  pub name : Stamp
  pub stream : List ℕ
  pub wanted : Wanted
  pub progress : Progress
  pub paused : Bool
  pub moment : ℕ

-- nothing was sent
abbrev pub no_progress : Progress
no_progress = record { count = 0; last = 0; answered = 0; unanswered = []; recent = 0 }

-- a consumer that was made at this moment
abbrev pub new_consumer : Stamp → List ℕ → Wanted → ℕ → ConsumerState
new_consumer own_name read_stream what now = record { name = own_name; stream = read_stream; wanted = what; progress = no_progress; paused = false; moment = now }

-- the bytes that were sent since the last flow request that was answered
abbrev pub outstanding : Progress → ℕ
outstanding q = sum q.unanswered + q.recent

-- the window of 1 MiB is spent
abbrev pub is_spent : Progress → Bool
is_spent q = nat_le 1048576 (outstanding q)

-- the token of the last flow request, 0 where there was none: tokens number the requests from 1
abbrev pub latest_token : Progress → ℕ
latest_token q = q.answered + length q.unanswered

-- from which number on the next message is sought
abbrev pub next_number : ℕ → Progress → ℕ
next_number start q = if q.count == 0 then start else q.last + 1

-- ---- deliveries and flow requests

-- a flow request is due: 256 KiB or more were sent since the one before
abbrev pub asks : Progress → Bool
asks q = nat_le 262144 q.recent

-- one delivery more
abbrev pub delivered : Progress → Numbered → Progress
delivered q row = record q { count = q.count + 1; last = row.seq; recent = q.recent + size row.message }

-- one flow request more
abbrev pub requested : Progress → Progress
requested q = record q { unanswered = q.unanswered ++ q.recent ∷ []; recent = 0 }

-- one delivery more, and a flow request where it is due then
abbrev pub after_row : Progress → Numbered → Progress
after_row q row = if asks (delivered q row) then requested (delivered q row) else delivered q row

-- these deliveries more
abbrev pub after_rows : Progress → List Numbered → Progress
after_rows q [] = q
after_rows q (row ∷ rows) = after_rows (after_row q row) rows

-- ---- answers

-- the token is that of a flow request that isn't answered yet
abbrev pub is_awaited : ℕ → Progress → Bool
is_awaited token q = nat_lt q.answered token && nat_le token (latest_token q)

-- an answer to a flow request, which answers those before it too
abbrev pub answered_by : ℕ → Progress → Progress
answered_by token q = if is_awaited token q then record q { answered = token; unanswered = drop (token - q.answered) q.unanswered } else q

-- ---- beats

-- the token that is awaited where the window is spent
abbrev pub stalled : Progress → Option ℕ
stalled q = if is_spent q then Some (latest_token q) else None

-- what an idle consumer tells
abbrev pub beat : ConsumerState → Packet
beat c = Beat c.wanted.asker c.wanted.attempt c.wanted.origin c.stream c.name c.progress.count c.progress.last (stalled c.progress)

-- a consumer that isn't paused beats 5 seconds after its last packet
abbrev pub beats : ℕ → ConsumerState → Bool
beats now c = not c.paused && nat_le (c.moment + 5000000000) now

-- the beat, where it is time
abbrev pub beat_at : ℕ → ConsumerState → Option Packet
beat_at now c = if beats now c then Some (beat c) else None

-- the consumer after that
abbrev pub after_beat : ℕ → ConsumerState → ConsumerState
after_beat now c = if beats now c then record c { moment = now } else c
