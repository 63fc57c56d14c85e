-- Which entry may come next in a history.
use Rattle.std.specs.Prelude.{◌≡◌, ℕ, ◌<◌, ◌^◌, List, [], ◌∷◌, length, Option, None, Some, IsSome, ⊤}
use Rattle.stream_fold.specs.declared.config.Config.{Config}
use Rattle.stream_fold.specs.declared.config.Copies.{Copies}
use Rattle.stream_fold.specs.declared.config.Copies.TheVariants.{Nothing, Mirror, Sources}
use Rattle.stream_fold.specs.declared.entry.Mark.{Mark}
use Rattle.stream_fold.specs.declared.entry.Entry.{Entry}
use Rattle.stream_fold.specs.declared.entry.Entry.TheVariants.{Put, Del, Purge, Expire, Bind, Limits}
use Rattle.stream_fold.specs.Histories.{History, with_entry, stands, kept, last, message_at}
use Rattle.stream_fold.specs.Copying.{bound}

-- a mark of this number may be kept
abbrev pub IsMark : Option Mark → Type 0
IsMark None = ⊤
IsMark (Some mark) = mark.seq < 2 ^ 63

-- how many indexes the copies have
abbrev pub index_count : Copies → ℕ
index_count Nothing = 0
index_count (Mirror origin) = 1
index_count (Sources origins) = length origins

-- the members that never change
pub record KeepsMembers (old new : Config) : Type 0 where
  pub name : new.name ≡ old.name
  pub window : new.window ≡ old.window
  pub copies : new.copies ≡ old.copies

-- An entry may come next in a history: a Put has a number above the last and below 2^63, and so has
-- its mark; a Del names a kept number; a Bind names an index of the copies that isn't bound; a Limits
-- keeps the members that never change.
abbrev pub Fits : History → Entry → Type 0
Fits h (Put number message mark) = (last h.entries < number) × (number < 2 ^ 63) × IsMark mark
Fits h (Del number) = IsSome (message_at number (kept h))
Fits h (Purge pattern below) = ⊤
Fits h (Expire now) = ⊤
Fits h (Bind index incarnation start) = (index < index_count (stands h).limits.copies) × (bound index h.entries ≡ None)
Fits h (Limits config) = KeepsMembers (stands h).limits config

-- each of the entries fits the history with those before it
abbrev pub FitAfter : History → List Entry → Type 0
FitAfter h [] = ⊤
FitAfter h (e ∷ es) = Fits h e × FitAfter (with_entry h e) es

-- each entry of the history fits those before it
abbrev pub AllFit : History → Type 0
AllFit h = FitAfter (record { config = h.config; entries = [] }) h.entries
