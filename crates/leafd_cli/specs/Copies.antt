-- What a copy has of its origin, and when it has all of it.
use Rattle.std.specs.Prelude.{◌≡◌, ℕ, ◌≤◌, max, List, [], ◌∷◌, Option, None, Some}
use Rattle.nats_text.specs.declared.message.Start.{Start}
use Rattle.nats_text.specs.declared.origin.Origin.{Origin}
use Rattle.stream_fold.specs.declared.config.Copies.{Copies}
use Rattle.stream_fold.specs.declared.config.Copies.TheVariants.{Nothing, Mirror, Sources}
use Rattle.stream_fold.specs.declared.entry.Entry.{Entry}
use Rattle.stream_fold.specs.declared.entry.BoundTo.{BoundTo}
use Rattle.stream_fold.specs.declared.entry.Numbered.{Numbered}
use Rattle.stream_fold.specs.Histories.{History, put, kept}
use Rattle.stream_fold.specs.Copying.{bound, front, MirrorHolds, IsRightStart}
use Rattle.leafd_cli.specs.Logs.{StreamLog, history_of}
use Rattle.leafd_cli.specs.Legal.{origin_among}

-- What a mirror has of its origin. One that isn't bound has stored nothing. One that is names the
-- only incarnation that its origin has had and starts right, and has at each number from its start
-- to its last the origin's message, or nothing where the origin holds none.
abbrev pub CopyHolds : Option BoundTo → Start → History → List Entry → Type 0
CopyHolds None start origin copy = (seq : ℕ) → put seq copy ≡ None
CopyHolds (Some to) start origin copy = (to.incarnation ≡ 1) × IsRightStart origin start to.start × MirrorHolds origin copy (max 1 to.start)

-- a mirror whose origin is there has what its origin's log says
abbrev pub IsRightMirror : List StreamLog → StreamLog → Origin → Type 0
IsRightMirror streams copy want =
    (origin : StreamLog) × (origin_among want streams ≡ Some origin) × CopyHolds (bound 0 copy.entries) want.start (history_of origin) copy.entries

-- a copy has what its origin's log says; no line makes a stream with sources yet
abbrev pub IsRightCopy : List StreamLog → StreamLog → Copies → Type 0
IsRightCopy streams copy Nothing = Unit {0}
IsRightCopy streams copy (Mirror want) = IsRightMirror streams copy want
IsRightCopy streams copy (Sources wants) = ⊥

-- each of some streams is a right copy or no copy
abbrev pub AreRight : List StreamLog → List StreamLog → Type 0
AreRight all [] = Unit {0}
AreRight all (s ∷ streams) = IsRightCopy all s s.config.copies × AreRight all streams

-- the front has come to or past each kept number
abbrev pub HasAll : ℕ → List Numbered → Type 0
HasAll front [] = Unit {0}
HasAll front (row ∷ rows) = (row.seq ≤ front) × HasAll front rows

-- a mirror is bound and has come as far as its origin
abbrev pub IsThroughMirror : List StreamLog → StreamLog → Origin → Type 0
IsThroughMirror streams copy want =
    (origin : StreamLog) × (origin_among want streams ≡ Some origin) × (to : BoundTo) × (bound 0 copy.entries ≡ Some to) × HasAll (front want.start copy.entries) (kept (history_of origin))

-- a copy is bound and has come as far as its origin; no line makes a stream with sources yet
abbrev pub IsThrough : List StreamLog → StreamLog → Copies → Type 0
IsThrough streams copy Nothing = Unit {0}
IsThrough streams copy (Mirror want) = IsThroughMirror streams copy want
IsThrough streams copy (Sources wants) = ⊥

-- each of some streams has come as far as its origin, or copies nothing
abbrev pub AreThrough : List StreamLog → List StreamLog → Type 0
AreThrough all [] = Unit {0}
AreThrough all (s ∷ streams) = IsThrough all s s.config.copies × AreThrough all streams
