-- A tap that counts.
use Rattle.std.specs.Prelude.{◌≡◌, ℕ, ◌-◌, ◌^◌, min, Bool, true, false, List, ◌++◌, count_by, codes, decimal}
use Rattle.tap_row.specs.declared.notice.Notice.{Notice}
use Rattle.tap_row.specs.declared.notice.Notice.TheVariants.{Stored, Removed, Bound, AskedAgain, Stopped, PostFull}

-- the notice is of a message that was stored
abbrev pub is_stored : Notice → Bool
is_stored (Stored stream seq) = true
is_stored (Removed stream count) = false
is_stored (Bound stream index) = false
is_stored (AskedAgain stream index) = false
is_stored (Stopped stream index kept seen) = false
is_stored (PostFull held) = false

-- the count is that of the messages that were stored, or the greatest one where there were more
abbrev pub Counts : ℕ → List Notice → Type 0
Counts count notices = count ≡ min (count_by is_stored notices) (2 ^ 64 - 1)

-- the line of a count, without its end
abbrev pub counted_line : ℕ → List ℕ
counted_line count = codes "stored " ++ decimal count
