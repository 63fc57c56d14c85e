-- What stays as a history grows, what holds of the messages that are kept, and what copies hold as
-- they and their origins grow.
use Rattle.std.specs.Prelude.{◌≡◌, ℕ, ◌+◌, ◌<◌, ◌≤◌, max, Some, None, List, [], ◌∷◌, ◌++◌}
use Rattle.nats_text.specs.declared.message.Message.{Message}
use Rattle.nats_text.specs.declared.origin.Origin.{Origin}
use Rattle.stream_fold.specs.declared.config.Config.{Config}
use Rattle.stream_fold.specs.declared.entry.Entry.{Entry}
use Rattle.stream_fold.specs.declared.entry.Entry.TheVariants.{Put, Bind}
use Rattle.stream_fold.specs.Histories.{History, with_entry, put, last, kept, NumbersRise, IsHole}
use Rattle.stream_fold.specs.Copying.{mark, stored, MirrorHolds, SourceHolds, IsVia, Follows, PassesBy, IsNoPut, AreHolesFrom, AreHolesBetween}
use Rattle.stream_fold.specs.Fits.{Fits, AllFit}
use Rattle.stream_fold.specs.RowLists.{EachRow, seqs, Rises}

-- a hole of a history is one of every longer history
abbrev pub HolesStay : Type 0
HolesStay = (c : Config) (es more : List Entry) (seq : ℕ) → NumbersRise (es ++ more) → IsHole (record { config = c; entries = es }) seq → IsHole (record { config = c; entries = es ++ more }) seq

-- what was put under a number up to the last, or that nothing was, stays
abbrev pub PutsStay : Type 0
PutsStay = (es more : List Entry) (seq : ℕ) → NumbersRise (es ++ more) → seq ≤ last es → put seq (es ++ more) ≡ put seq es

-- where each entry fits those before it, the numbers of the Puts rise
abbrev pub FittingRise : Type 0
FittingRise = (h : History) → AllFit h → NumbersRise h.entries

-- the numbers of the kept messages rise strictly
abbrev pub KeptRise : Type 0
KeptRise = (h : History) → NumbersRise h.entries → Rises 0 (seqs (kept h))

-- the number of a kept message is at most the last number
abbrev pub KeptAreReached : Type 0
KeptAreReached = (h : History) → EachRow (λ row. row.seq ≤ last h.entries) (kept h)

-- each kept message was put under its number
abbrev pub KeptWerePut : Type 0
KeptWerePut = (h : History) → NumbersRise h.entries → EachRow (λ row. put row.seq h.entries ≡ Some row.message) (kept h)

-- a mirror that holds what it should of its origin does so as the origin grows
abbrev pub MirrorsOutlast : Type 0
MirrorsOutlast = (origin : History) (copy : List Entry) (start : ℕ) (e : Entry) → NumbersRise (with_entry origin e).entries → MirrorHolds origin copy start → MirrorHolds (with_entry origin e) copy start

-- an entry of the copy that is no Put leaves what a mirror holds
abbrev pub MirrorsStay : Type 0
MirrorsStay = (origin : History) (copy : List Entry) (start : ℕ) (e : Entry) → IsNoPut e → MirrorHolds origin copy start → MirrorHolds origin (copy ++ e ∷ []) start

-- so does a Put of the message that comes next
abbrev pub MirrorsStore : Type 0
MirrorsStore = (origin : History) (copy : List Entry) (start seq : ℕ) (message : Message) → NumbersRise origin.entries → start ≤ seq → last copy < seq → AreHolesFrom origin (max start (last copy + 1)) seq → put seq origin.entries ≡ Some message → MirrorHolds origin copy start → MirrorHolds origin (copy ++ Put seq message None ∷ []) start

-- a source that holds what it should of its origin does so as the origin grows
abbrev pub SourcesOutlast : Type 0
SourcesOutlast = (want : Origin) (origin copy : History) (index : ℕ) (e : Entry) → NumbersRise (with_entry origin e).entries → SourceHolds want origin copy index → SourceHolds want (with_entry origin e) copy index

-- an entry of the copy that is none of the index leaves what the source of the index holds
abbrev pub SourcesStay : Type 0
SourcesStay = (want : Origin) (origin copy : History) (index : ℕ) (e : Entry) → Fits copy e → Follows (last copy.entries) e → PassesBy index e → SourceHolds want origin copy index → SourceHolds want origin (with_entry copy e) index

-- so does a Bind of the index, where nothing of it was stored yet
abbrev pub SourcesBind : Type 0
SourcesBind = (want : Origin) (origin copy : History) (index incarnation start : ℕ) → stored index copy.entries ≡ [] → SourceHolds want origin copy index → SourceHolds want origin (with_entry copy (Bind index incarnation start)) index

-- and so does a Put of the message that comes next
abbrev pub SourcesStore : Type 0
SourcesStore = (want : Origin) (origin copy : History) (index seq : ℕ) (message : Message) → mark index copy < seq → AreHolesBetween want origin (mark index copy) seq → IsVia want origin (record { mark = seq; message = message }) → SourceHolds want origin copy index → SourceHolds want origin (with_entry copy (Put (last copy.entries + 1) message (Some (record { index = index; seq = seq })))) index
