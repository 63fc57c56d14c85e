-- The kept messages as the code holds them.
use Rattle.std.specs.Prelude.{◌≡◌, ◌<◌, ◌≤◌, ◌^◌, ◌==◌, ℕ, suc, ⊤, nat_lt, nat_le, List, [], ◌∷◌, map, count_by, not, ◌&&◌, Bool, if◌then◌else◌}
use Rattle.std.specs.Str.{bytes_eq}
use Rattle.stream_fold.specs.declared.config.Config.{Config}
use Rattle.stream_fold.specs.declared.entry.Numbered.{Numbered}
use Rattle.stream_fold.specs.Histories.{is_in_limit, size_of}

-- the messages, and how many more may be added without memory
pub record RowList : Type 0 where
  pub rows : List Numbered
  pub room : ℕ

-- the total is the sum of the sizes, which has 64 bits
pub record IsTotal (total : ℕ) (rows : List Numbered) : Type 0 where
  pub sum : total ≡ size_of rows
  pub fits : size_of rows < 2 ^ 64

-- so many messages of so many bytes are within the limits
abbrev pub counts_within : Config → ℕ → ℕ → Bool
counts_within c count bytes = is_in_limit c.max_msgs count && is_in_limit c.max_bytes bytes

-- without the first message of the subject
abbrev pub without_first : List ℕ → List Numbered → List Numbered
without_first subject [] = []
without_first subject (row ∷ rows) = if bytes_eq row.message.subject subject then rows else row ∷ without_first subject rows

-- with a place for one more message of the subject: the first one goes where so many stand
abbrev pub with_place : ℕ → List ℕ → List Numbered → List Numbered
with_place most subject rows =
    if not (most == 0) && nat_le most (count_by (λ row. bytes_eq row.message.subject subject) rows) then without_first subject rows else rows

-- what holds of each row
abbrev pub EachRow : (Numbered → Type 0) → List Numbered → Type 0
EachRow P [] = ⊤
EachRow P (row ∷ rows) = P row × EachRow P rows

-- the numbers of these messages
abbrev pub seqs : List Numbered → List ℕ
seqs rows = map (λ row. row.seq) rows

-- the numbers rise strictly, and none is below the bound
abbrev pub Rises : ℕ → List ℕ → Type 0
Rises low [] = ⊤
Rises low (x ∷ xs) = (low ≤ x) × Rises (suc x) xs

-- the messages from the first one on that has this number or a later one
abbrev pub from_number : ℕ → List Numbered → List Numbered
from_number seq [] = []
from_number seq (row ∷ rows) = if nat_lt row.seq seq then from_number seq rows else row ∷ rows
