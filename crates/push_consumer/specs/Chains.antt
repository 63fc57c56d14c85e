-- What a consumer has sent, against its progress and against the history that it reads.
use Rattle.std.specs.Prelude.{◌≡◌, ◌⊎◌, ℕ, zero, suc, ◌+◌, ◌<◌, ◌≤◌, nat_le, Bool, List, [], ◌∷◌, ◌++◌, length, map, sum_by, count_by, if◌then◌else◌, Some, Contains, IsTrue, ⊤}
use Rattle.nats_text.specs.Sizes.{size}
use Rattle.nats_text.specs.declared.message.Message.{Message}
use Rattle.stream_fold.specs.declared.entry.Numbered.{Numbered}
use Rattle.stream_fold.specs.Histories.{History, put, IsHole}
use Rattle.stream_fold.specs.RowLists.{Rises}
use Rattle.push_consumer.specs.Progress.{Progress, ConsumerState}
use Rattle.push_consumer.specs.Sends.{is_wanted}

-- one delivery: the number and the size of its message, and whether a flow request follows it
pub record Sent : Type 0 where
  pub seq : ℕ
  pub bytes : ℕ
  pub asks : Bool

-- all deliveries of a consumer, oldest first, and the greatest token that was answered
pub record Sendings : Type 0 where
  pub sent : List Sent
  pub answered : ℕ

-- nothing was sent
abbrev pub no_sendings : Sendings
no_sendings = record { sent = []; answered = 0 }

-- the numbers that were sent, in their order
abbrev pub chain : Sendings → List ℕ
chain c = map (λ s. s.seq) c.sent

-- how many flow requests follow these deliveries
abbrev pub requests : List Sent → ℕ
requests sent = count_by (λ s. s.asks) sent

-- what stands behind the flow request of this token; all stands behind 0
abbrev pub after_token : ℕ → List Sent → List Sent
after_token zero sent = sent
after_token (suc token) [] = []
after_token (suc token) (s ∷ ss) = after_token (if s.asks then token else suc token) ss

-- the bytes of these deliveries
abbrev pub bytes_of : List Sent → ℕ
bytes_of sent = sum_by (λ s. s.bytes) sent

-- the bytes of all but the last of them
abbrev pub bytes_before_last : List Sent → ℕ
bytes_before_last [] = 0
bytes_before_last (s ∷ []) = 0
bytes_before_last (s ∷ t ∷ ss) = s.bytes + bytes_before_last (t ∷ ss)

-- the bytes up to each flow request from the one before it, the first of them behind so many more
abbrev pub parts : ℕ → List Sent → List ℕ
parts before [] = []
parts before (s ∷ ss) = if s.asks then (before + s.bytes) ∷ parts 0 ss else parts (before + s.bytes) ss

-- the bytes since the last flow request, or behind so many more where there is none
abbrev pub bytes_since : ℕ → List Sent → ℕ
bytes_since before [] = before
bytes_since before (s ∷ ss) = bytes_since (if s.asks then 0 else before + s.bytes) ss

-- a flow request follows exactly the deliveries that bring the bytes since the one before to 256 KiB
-- or more
abbrev pub AsksWhereDue : ℕ → List Sent → Type 0
AsksWhereDue before [] = ⊤
AsksWhereDue before (s ∷ ss) = (s.asks ≡ nat_le 262144 (before + s.bytes)) × AsksWhereDue (if s.asks then 0 else before + s.bytes) ss

-- the last number of a chain, 0 where it is empty
abbrev pub last_of : List ℕ → ℕ
last_of [] = 0
last_of (x ∷ []) = x
last_of (x ∷ y ∷ ys) = last_of (y ∷ ys)

-- The progress is that of what was sent, whose flow requests stand where they are due, and of which
-- no more were answered than there were.
pub record StandsFor (q : Progress) (c : Sendings) : Type 0 where
  pub count : q.count ≡ length c.sent
  pub last : q.last ≡ last_of (chain c)
  pub answer : q.answered ≡ c.answered
  pub unanswered : q.unanswered ≡ parts 0 (after_token c.answered c.sent)
  pub recent : q.recent ≡ bytes_since 0 (after_token c.answered c.sent)
  pub tokens : c.answered ≤ requests c.sent
  pub due : AsksWhereDue 0 c.sent

-- the bytes that were sent behind the last flow request that was answered
abbrev pub outstanding_of : Sendings → ℕ
outstanding_of c = bytes_of (after_token c.answered c.sent)

-- Without its last message fewer bytes than the window of 1 MiB are outstanding. So the window and
-- one message is the most that is.
abbrev pub WithinWindow : Sendings → Type 0
WithinWindow c = bytes_before_last (after_token c.answered c.sent) < 1048576

-- ---- more sendings

-- one row more, with a flow request where it is due
abbrev pub with_row : Sendings → Numbered → Sendings
with_row c row = record c { sent = c.sent ++ (record { seq = row.seq; bytes = size row.message; asks = nat_le 262144 (bytes_since 0 c.sent + size row.message) }) ∷ [] }

-- these rows more
abbrev pub with_rows : Sendings → List Numbered → Sendings
with_rows c [] = c
with_rows c (row ∷ rows) = with_rows (with_row c row) rows

-- ---- chains and histories

-- the number behind the last one of a chain, or its start
abbrev pub next_of : ℕ → List ℕ → ℕ
next_of start [] = start
next_of start (x ∷ xs) = next_of (suc x) xs

-- the number was put in the history, with a message that a filter wants
pub record IsWantedPut (h : History) (filters : List (List ℕ)) (seq : ℕ) : Type 0 where
  pub message : Message
  pub here : put seq h.entries ≡ Some message
  pub taken : IsTrue (is_wanted filters message.subject)

-- A chain skips holes alone: it rises and begins at or after the start; each number of it was put, and
-- a filter wants it; each wanted number that was put, from the start to the chain's last, is in the
-- chain or is a hole of the history.
pub record SkipsHoles (h : History) (start : ℕ) (filters : List (List ℕ)) (numbers : List ℕ) : Type 0 where
  pub rises : Rises start numbers
  pub members : (seq : ℕ) → Contains numbers seq → IsWantedPut h filters seq
  pub no_other : (seq : ℕ) → start ≤ seq → seq < next_of start numbers → IsWantedPut h filters seq → Contains numbers seq ⊎ IsHole h seq

-- What was sent is right: it is what the consumer's progress stands for, skips holes of the history
-- alone, and is within the window.
pub record IsRight (h : History) (p : ConsumerState) (c : Sendings) : Type 0 where
  pub stands : StandsFor p.progress c
  pub skips : SkipsHoles h p.wanted.start p.wanted.filters (chain c)
  pub window : WithinWindow c
