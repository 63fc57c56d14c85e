-- A frame is carried in two steps: it is put behind the others where it is to stay under way, and it is taken.
use Rattle.std.specs.Prelude.{ℕ, ◌-◌, List, [], ◌∷◌, ◌++◌}
use Rattle.js_wire.specs.declared.packet.Packet.{Packet}
use Rattle.world_steps.specs.Links.{Channel, once_more}

-- what is put behind the frames
abbrev pub again_of : List Packet → ℕ → List Packet
again_of [] repeats = []
again_of (p ∷ ps) repeats = once_more repeats p

-- how many repeats are left
abbrev pub repeats_left : List Packet → ℕ → ℕ
repeats_left [] repeats = repeats
repeats_left (p ∷ ps) repeats = repeats - 1

-- the first frame stands behind the others too, where it is to stay under way
abbrev pub with_first_again : Channel → Channel
with_first_again c = record { frames = c.frames ++ again_of c.frames c.repeats; losses = c.losses; repeats = repeats_left c.frames c.repeats }

-- a channel with these frames, of which the first is taken
abbrev pub without_head_of : List Packet → Channel → Channel
without_head_of [] c = c
without_head_of (p ∷ ps) c = record { frames = ps; losses = c.losses - 1; repeats = c.repeats }

-- the first frame is taken
abbrev pub without_head : Channel → Channel
without_head c = without_head_of c.frames c
