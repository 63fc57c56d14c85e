-- The JSON of the opening frames of a leaf link.
use Rattle.std.specs.Prelude.{ℕ, List, Bool, false, Option, codes, option_and_then, option_map}
use Rattle.serde_json.specs.Data.{Data, boolean, string, object, no_members, member}
use Rattle.nats_frames.specs.Json.{switch_at, name_at}
use Rattle.leaf_frames.specs.declared.frame.LeafFrame.{LeafFrame}
use Rattle.leaf_frames.specs.declared.frame.LeafFrame.TheVariants.{Info, Connect}

-- the name of a node, and whether it takes headers: other members than these two are ignored
abbrev pub hello_of : Data → Option (List ℕ × Bool)
hello_of d =
    option_and_then (λ name. option_map (λ headers. (name, headers)) (switch_at (codes "headers") false d)) (name_at (codes "name") d)

-- the frame of a hub's object
abbrev pub info_of : Data → Option LeafFrame
info_of d = option_map (λ hello. Info hello.0 hello.1) (hello_of d)

-- the frame of a leaf's object
abbrev pub connect_of : Data → Option LeafFrame
connect_of d = option_map (λ hello. Connect hello.0 hello.1) (hello_of d)

-- ---- writing

-- a node's name, which is its JetStream domain too, in byte order of the members' names
abbrev pub hello_data : List ℕ → Bool → Data
hello_data name headers = object
    (member (codes "domain") (string name)
    (member (codes "headers") (boolean headers)
    (member (codes "name") (string name) no_members)))
