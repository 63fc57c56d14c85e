-- The rule of a lock's table. It has two words, the next ticket and the number that is served, which is
-- the length of the history, and one slot, which holds the value while no seat has it.
use Rattle.std.specs.Prelude.{◌≡◌, ◌≢◌, ◌⊎◌, ℕ, suc, ◌+◌, ◌-◌, ◌*◌, ◌<◌, ◌≤◌, ◌^◌, max, List, [], ◌∷◌, ◌++◌, length, Option, Some, None, slice_get, MatchBool, ◌==◌}
use mathlib.Core.Option.{some}
use lib.ListN.{get_elem?}
use Rattle.atomic_table.specs.Table.{State, Me, rest}
use Rattle.turn_lock.specs.declared.rule.View.{View}
use Rattle.turn_lock.specs.Own.{Owns, RisesFrom, merged, longer, shorter, Begins}

module _ {S O : Type 0} where
  -- a seat's share, counted in parts of 1 / 2 ^ depth
  abbrev pub weight : ℕ → View S O → ℕ
  weight depth v = v.parts * 2 ^ (depth - v.halvings)

  -- the shares of all seats together
  abbrev pub total : ℕ → List (View S O) → ℕ
  total depth [] = 0
  total depth (v ∷ vs) = weight depth v + total depth vs

  -- what a seat knows is so: it has seen a beginning of the history, its own steps stand in it at their tickets,
  -- and its turn is still to come or is now, when the value is out with it. A seat that was joined away knows nothing
  pub record Knows (o : O) (log : List S) (next depth : ℕ) (v : View S O) : Type 0 where
    pub opening : 0 < v.parts → v.opening ≡ Some o
    pub seen : Begins v.seen log
    pub shorter : Begins v.shorter v.seen
    pub own : (k : ℕ) (x : S) → Owns v.own k x → slice_get log k ≡ Some x
    pub rising : RisesFrom 0 v.own
    pub turn : (t : ℕ) → v.turn ≡ Some t → (length log ≤ t) × (t < next)
    pub stage : (v.stage ≡ 0) ⊎ ((v.stage ≡ 1) × (v.turn ≡ Some (length log)) × (v.seen ≡ log))
    pub halvings : v.halvings ≤ depth
    pub spent : v.parts ≡ 0 → (v.turn ≡ None) × (v.own ≡ []) × (v.seen ≡ [])

  -- no ticket is with both seats, waited for or used
  pub record Apart (v w : View S O) : Type 0 where
    pub turns : (t : ℕ) → v.turn ≡ Some t → w.turn ≡ Some t → ⊥
    pub owns : (k : ℕ) (x y : S) → Owns v.own k x → Owns w.own k y → ⊥

  -- some view has the property
  abbrev pub Has : List (View S O) → (View S O → Type 0) → Type 0
  Has views P = (id : ℕ) × (v : View S O) × (get_elem? views id ≡ some v) × P v

  -- the view of a seat that has seen nothing
  abbrev pub made : O → ℕ → ℕ → View S O
  made o seats stage = record { opening = Some o; seen = []; shorter = []; own = []; turn = None; stage = stage; parts = seats; halvings = 0 }

  -- a ticket was drawn
  abbrev pub drawn : View S O → ℕ → View S O
  drawn v t = record { opening = v.opening; seen = v.seen; shorter = v.shorter; own = v.own; turn = Some t; stage = v.stage; parts = v.parts; halvings = v.halvings }

  -- the value is out with the seat, which has now seen the whole history
  abbrev pub lent : View S O → List S → View S O
  lent v log = record { opening = v.opening; seen = log; shorter = []; own = v.own; turn = v.turn; stage = 1; parts = v.parts; halvings = v.halvings }

  -- the value is back, and the history ends with the step that the seat made
  abbrev pub gave : View S O → S → View S O
  gave v x = record { opening = v.opening; seen = v.seen ++ x ∷ []; shorter = []; own = v.own ++ (length v.seen, x) ∷ []; turn = None; stage = 0; parts = v.parts; halvings = v.halvings }

  -- the same at another stage
  abbrev pub staged : View S O → ℕ → View S O
  staged v n = record { opening = v.opening; seen = v.seen; shorter = v.shorter; own = v.own; turn = v.turn; stage = n; parts = v.parts; halvings = v.halvings }

  -- the same with other own steps and another share
  abbrev pub shared : View S O → List (ℕ × S) → ℕ → ℕ → View S O
  shared v own n k = record { opening = v.opening; seen = v.seen; shorter = v.shorter; own = own; turn = v.turn; stage = v.stage; parts = n; halvings = k }

  -- a seat that gave away the share 1, and the seat that got it
  abbrev pub dealt_left : View S O → View S O
  dealt_left v = shared v v.own (v.parts - 1) v.halvings

  abbrev pub dealt_right : View S O → View S O
  dealt_right v = shared v [] 1 v.halvings

  -- the two halves of a seat. The first keeps the own steps
  abbrev pub half_left : View S O → View S O
  half_left v = shared v v.own v.parts (suc v.halvings)

  abbrev pub half_right : View S O → View S O
  half_right v = shared v [] v.parts (suc v.halvings)

  -- one seat of two
  abbrev pub joined : View S O → View S O → View S O
  joined v w =
      let m = max v.halvings w.halvings in
      record { opening = v.opening; seen = longer v.seen w.seen; shorter = shorter v.seen w.seen; own = merged v.own w.own; turn = v.turn; stage = v.stage; parts = v.parts * 2 ^ (m - v.halvings) + w.parts * 2 ^ (m - w.halvings); halvings = m }

  -- a seat that was joined away
  abbrev pub spent : View S O
  spent = record { opening = None; seen = []; shorter = []; own = []; turn = None; stage = 0; parts = 0; halvings = 0 }

module _ {V S O : Type 0} where
  -- there is a history such that what every seat knows is so, each of its steps is one seat's own, some seat has
  -- seen all of it, the shares are as many as the lock's seats, and the value stands for it unless it is out
  pub record IsKept (stands : V → O → List S → Type 0) (o : O) (seats : ℕ) (s : State (Option V) (View S O)) : Type 0 where
    pub log : List S
    pub next : ℕ
    pub depth : ℕ
    pub words : s.words ≡ next ∷ length log ∷ []
    pub order : length log ≤ next
    pub below : next < 2 ^ 64
    pub views : (id : ℕ) (v : View S O) → get_elem? s.views id ≡ some v → Knows o log next depth v
    pub apart : (a b : ℕ) (v w : View S O) → a ≢ b → get_elem? s.views a ≡ some v → get_elem? s.views b ≡ some w → Apart v w
    pub whole : (k : ℕ) → k < length log → Has s.views (λ v. (x : S) × Owns v.own k x)
    pub last : Has s.views (λ v. v.seen ≡ log)
    pub shares : total depth s.views ≡ seats * 2 ^ depth
    pub home : ((value : V) × (get_elem? s.homes 0 ≡ some (some (Some value))) × stands value o log) ⊎ Has s.views (λ v. v.stage ≡ 1)

  -- the value isn't in yet
  pub record IsNew (o : O) (seats : ℕ) (s : State (Option V) (View S O)) : Type 0 where
    pub words : s.words ≡ 0 ∷ 0 ∷ []
    pub views : ((s.views ≡ made o seats 2 ∷ []) × (get_elem? s.homes 0 ≡ some (some None))) ⊎ (s.views ≡ made o seats 3 ∷ [])

  -- the rule
  abbrev pub Holds : (V → O → List S → Type 0) → O → ℕ → State (Option V) (View S O) → Type 0
  Holds stands o seats s = IsNew o seats s ⊎ IsKept stands o seats s

  -- the ticket was drawn where it was still the next, and else nothing changed
  abbrev pub Draws : ℕ → Me (Option V) (View S O) → ℕ → Me (Option V) (View S O) → Type 0
  Draws old m n r = MatchBool (n == old) (r ≡ (drawn m.0 old, m.1)) (r ≡ m)

  -- the value is lent. It stands for the history, of which the seat had seen a beginning and which has its own
  -- steps at their tickets
  pub record Lends (stands : V → O → List S → Type 0) (m : Me (Option V) (View S O)) (n : ℕ) (r : Me (Option V) (View S O)) : Type 0 where
    pub log : List S
    pub value : V
    pub now : r ≡ (lent m.0 log, (0, Some value) ∷ m.1)
    pub place : length log ≡ n
    pub seen : Begins m.0.seen log
    pub own : (k : ℕ) (x : S) → Owns m.0.own k x → slice_get log k ≡ Some x
    pub rising : RisesFrom 0 m.0.own
    pub meets : (o : O) → m.0.opening ≡ Some o → stands value o log

  -- the value is lent where the number was the seat's ticket, and else nothing changed
  abbrev pub Looks : (V → O → List S → Type 0) → Me (Option V) (View S O) → ℕ → Me (Option V) (View S O) → Type 0
  Looks stands m n r = (m.0.turn ≡ Some n → Lends stands m n r) × ((m.0.turn ≡ Some n → ⊥) → r ≡ m)

  -- the step was added, and the value given back
  abbrev pub Serves : List S → Me (Option V) (View S O) → Me (Option V) (View S O) → Type 0
  Serves steps m r = (x : S) × (steps ≡ x ∷ []) × (r ≡ (gave m.0 x, rest m.1))

  -- nothing changed. What was seen by the seats that were joined last begins the history, and the own steps of the
  -- two have no ticket in common
  abbrev pub Recalls : Me (Option V) (View S O) → Me (Option V) (View S O) → Type 0
  Recalls m r = (r ≡ m) × Begins m.0.shorter m.0.seen × RisesFrom 0 m.0.own

  -- the empty slot was taken
  abbrev pub Fetches : Me (Option V) (View S O) → Me (Option V) (View S O) → Type 0
  Fetches m r = r ≡ (staged m.0 3, (0, None) ∷ m.1)

  -- the value was put in
  abbrev pub Fills : Me (Option V) (View S O) → Me (Option V) (View S O) → Type 0
  Fills m r = r ≡ (staged m.0 0, rest m.1)
