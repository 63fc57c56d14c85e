-- What a link holds that takes the frames it is told, and what comes of changes and tellings.
use Rattle.std.specs.Prelude.{◌≡◌, ℕ, ◌==◌, Bool, true, ◌&&◌, not, List, [], ◌∷◌, Option, Some, None, filter}
use Rattle.std.specs.List.{list_all}
use Rattle.std.specs.Str.{bytes_eq}
use Rattle.leaf_frames.specs.declared.frame.LeafFrame.{LeafFrame}
use Rattle.leaf_frames.specs.declared.frame.LeafFrame.TheVariants.{Info, Connect, SubOn, SubOff, Msg, Ping, Pong, Fault}
use Rattle.interest_list.specs.declared.change.Change.{Change}
use Rattle.interest_list.specs.declared.telling.Told.{Told}
use Rattle.interest_list.specs.Orders.{placed}
use Rattle.interest_list.specs.Lists.{Interests, no_interest, same_queue, told_cmp}
use Rattle.interest_list.specs.Tellings.{told, told_before, news, informed}
use Rattle.interest_list.specs.Changes.{after, has_weight, is_weight}

-- LS+ brings a pair with its weight, in place of the same pair; a plain pattern weighs 1
abbrev pub taken_on : List ℕ → Option (List ℕ × ℕ) → List Told → List Told
taken_on pattern None held = placed told_cmp (record { pattern = pattern; queue = None; weight = 1 }) held
taken_on pattern (Some g) held = placed told_cmp (record { pattern = pattern; queue = Some g.0; weight = g.1 }) held

-- LS- takes a pair away
abbrev pub taken_off : List ℕ → Option (List ℕ) → List Told → List Told
taken_off pattern queue held = filter (λ t. not (bytes_eq t.pattern pattern && same_queue t.queue queue)) held

-- what a link holds after a frame
abbrev pub taken : LeafFrame → List Told → List Told
taken (Info name headers) held = held
taken (Connect name headers) held = held
taken (SubOn pattern group) held = taken_on pattern group held
taken (SubOff pattern queue) held = taken_off pattern queue held
taken (Msg parcel queues) held = held
taken Ping held = held
taken Pong held = held
taken (Fault text) held = held

-- what it holds after these frames, the first first
abbrev pub taken_all : List LeafFrame → List Told → List Told
taken_all [] held = held
taken_all (f ∷ fs) held = taken_all fs (taken f held)

-- a weight as it is told: 1 for a plain pattern, and 1 to 65,536 for a group
abbrev pub has_told_weight : Told → Bool
has_told_weight t = elim t.queue [ None ↦ t.weight == 1 | Some q ↦ is_weight t.weight ]

-- it comes of changes and of tellings, from nobody's wanting anything
pub data IsReached : Interests → Type 0 where
  begun : IsReached no_interest
  by_change : (c : Change) (it : Interests) → has_weight c ≡ true → IsReached it → IsReached (after c it)
  by_telling : (link : ℕ) (it : Interests) → IsReached it → IsReached (informed link it)

-- a link that takes the frames behind what it was told holds what it is to be told
abbrev pub NewsLeadToTold : Type 0
NewsLeadToTold = (link : ℕ) (it : Interests) → IsReached it → taken_all (news link it) (told_before link it.told_to) ≡ told link it.subs

-- each weight that is told is one that a frame may carry
abbrev pub WeightsAreTold : Type 0
WeightsAreTold = (link : ℕ) (it : Interests) → IsReached it → list_all has_told_weight (told link it.subs) ≡ true
