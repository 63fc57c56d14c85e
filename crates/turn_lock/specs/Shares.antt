-- A lock and a seat as contracts see them, and shares of a lock.
use Rattle.std.specs.Prelude.{◌≡◌, ℕ, suc, ◌+◌, ◌-◌, ◌*◌, ◌^◌, max, List, [], Option, Some}
use Rattle.atomic_table.specs.Seated.{TableId}
use Rattle.turn_lock.specs.declared.rule.View.{View}

-- the share parts / 2 ^ halvings
pub record Share : Type 0 where
  pub parts : ℕ
  pub halvings : ℕ

-- one seat's share of a new lock
abbrev pub one : Share
one = record { parts = 1; halvings = 0 }

-- half of a share
abbrev pub half : Share → Share
half s = record { parts = s.parts; halvings = suc s.halvings }

-- two shares together
abbrev pub both : Share → Share → Share
both s t =
    let m = max s.halvings t.halvings in
    record { parts = s.parts * 2 ^ (m - s.halvings) + t.parts * 2 ^ (m - t.halvings); halvings = m }

-- the share is that of so many seats, all that a lock has
abbrev pub IsAll : ℕ → Share → Type 0
IsAll seats s = s.parts ≡ seats * 2 ^ s.halvings

-- a lock: which one it is, the opening that its histories begin from, and how many seats it was made with
pub record Lock (O : Type 0) : Type 0 where
  pub id : TableId
  pub opening : O
  pub seats : ℕ

-- a seat: its lock, the opening, the history that it has seen, its own steps with their tickets, and its share
pub record SeatState (S O : Type 0) : Type 0 where
  pub lock : TableId
  pub opening : Option O
  pub seen : List S
  pub own : List (ℕ × S)
  pub share : Share

module _ {S O : Type 0} where
  -- the seat is of this lock
  abbrev pub IsOf : Lock O → SeatState S O → Type 0
  IsOf lock seat = (seat.lock ≡ lock.id) × (seat.opening ≡ Some lock.opening)

  -- what contracts see of a view
  abbrev pub seat_state : TableId → View S O → SeatState S O
  seat_state id v = record { lock = id; opening = v.opening; seen = v.seen; own = v.own; share = record { parts = v.parts; halvings = v.halvings } }

  -- a seat as `new` gives it
  abbrev pub new_seat : Lock O → SeatState S O
  new_seat lock = record { lock = lock.id; opening = Some lock.opening; seen = []; own = []; share = one }
