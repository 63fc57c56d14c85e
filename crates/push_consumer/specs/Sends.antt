-- The messages that a consumer has still to send.
use Rattle.std.specs.Prelude.{ℕ, ◌+◌, ◌==◌, Bool, ◌||◌, List, [], ◌∷◌, ◌++◌, length, if◌then◌else◌, Option, None, Some}
use Rattle.std.specs.List.{list_any}
use Rattle.nats_text.specs.Matching.{matches}
use Rattle.nats_text.specs.declared.message.Message.{Message}
use Rattle.stream_fold.specs.declared.entry.Numbered.{Numbered}
use Rattle.stream_fold.specs.Histories.{message_at}
use Rattle.stream_fold.specs.Publishing.{is_next}
use Rattle.push_consumer.specs.Progress.{ConsumerState, next_number}

-- a filter takes the subject; all subjects are taken where there is no filter
abbrev pub is_wanted : List (List ℕ) → List ℕ → Bool
is_wanted filters subject = (length filters == 0) || list_any (λ pattern. matches pattern subject) filters

-- the numbers of the wanted rows from a number on, each above the one before
abbrev pub numbers_from : ℕ → List (List ℕ) → List Numbered → List ℕ
numbers_from from filters [] = []
numbers_from from filters (row ∷ rows) = if is_next from filters row then row.seq ∷ numbers_from (row.seq + 1) filters rows else numbers_from from filters rows

-- the row of a number and the message that is kept under it, if any
abbrev pub row_of : ℕ → Option Message → List Numbered
row_of number None = []
row_of number (Some m) = record { seq = number; message = m } ∷ []

-- the messages that are kept under these numbers
abbrev pub rows_at : List ℕ → List Numbered → List Numbered
rows_at [] rows = []
rows_at (number ∷ numbers) rows = row_of number (message_at number rows) ++ rows_at numbers rows

-- the kept messages from a number on that a filter wants, oldest first
abbrev pub rows_from : ℕ → List (List ℕ) → List Numbered → List Numbered
rows_from from filters rows = rows_at (numbers_from from filters rows) rows

-- the kept messages that the consumer has still to send, oldest first
abbrev pub to_send : List Numbered → ConsumerState → List Numbered
to_send rows c = rows_from (next_number c.wanted.start c.progress) c.wanted.filters rows
