-- Which frames a leaf link has: each value as its type or its format has it.
use Rattle.std.specs.Prelude.{◌≡◌, ℕ, List, true, Option, None, Some}
use Rattle.std.specs.List.{list_all}
use Rattle.nats_text.specs.Text.{is_name, is_pattern}
use Rattle.nats_frames.specs.Kinds.{is_label, is_queue, IsParcel}
use Rattle.nats_frames.specs.Lines.{has_no_feed}
use Rattle.leaf_frames.specs.declared.frame.LeafFrame.{LeafFrame}
use Rattle.leaf_frames.specs.declared.frame.LeafFrame.TheVariants.{Info, Connect, SubOn, SubOff, Msg, Ping, Pong, Fault}
use Rattle.leaf_frames.specs.Frames.{is_weight}

-- a queue and its weight
abbrev pub IsGroup : Option (List ℕ × ℕ) → Type 0
IsGroup None = Unit {0}
IsGroup (Some group) = (is_label group.0 ≡ true) × (is_weight group.1 ≡ true)

-- a frame of a leaf link: the text of an error has no LF
abbrev pub IsLeaf : LeafFrame → Type 0
IsLeaf (Info name headers) = is_name name ≡ true
IsLeaf (Connect name headers) = is_name name ≡ true
IsLeaf (SubOn pattern group) = (is_pattern pattern ≡ true) × IsGroup group
IsLeaf (SubOff pattern queue) = (is_pattern pattern ≡ true) × (is_queue queue ≡ true)
IsLeaf (Msg parcel queues) = IsParcel parcel × (list_all is_label queues ≡ true)
IsLeaf Ping = Unit {0}
IsLeaf Pong = Unit {0}
IsLeaf (Fault text) = has_no_feed text ≡ true
