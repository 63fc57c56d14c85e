-- The JSON of CONNECT and of INFO (the NATS client protocol).
use Rattle.std.specs.Prelude.{ℕ, ◌^◌, List, Bool, true, false, nat_lt, if◌then◌else◌, Option, None, Some, is_some, codes, option_and_then, option_map}
use Rattle.std.specs.Option.{option_map_or}
use Rattle.std.specs.Str.{is_utf8}
use Rattle.serde_json.specs.Data.{Data, number, unsigned, boolean, string, object, no_members, member}
use Rattle.serde_json.specs.Find.{get, as_bool, as_number, as_str, as_u64, as_object}
use Rattle.serde_json.specs.Read.{read}
use Rattle.nats_text.specs.Text.{is_name}
use Rattle.nats_frames.specs.declared.frame.ServerInfo.{ServerInfo}
use Rattle.nats_frames.specs.declared.frame.ClientFrame.{ClientFrame}
use Rattle.nats_frames.specs.declared.frame.ClientFrame.TheVariants.{Connect, Info}

-- data that is an object
abbrev pub if_object : Data → Option Data
if_object d = if is_some (as_object d) then Some d else None

-- the JSON of a text in UTF-8, where it is an object
abbrev pub object_of : List ℕ → Option Data
object_of text = if is_utf8 text then option_and_then if_object (read text) else None

-- a switch, which is as given where it is absent, and has to be true or false where it stands
abbrev pub switch_at : List ℕ → Bool → Data → Option Bool
switch_at name absent d = option_map_or as_bool (get name d) (Some absent)

-- true or false, which has to stand
abbrev pub flag_at : List ℕ → Data → Option Bool
flag_at name d = option_and_then as_bool (get name d)

-- a text, which is UTF-8
abbrev pub text_at : List ℕ → Data → Option (List ℕ)
text_at name d = option_and_then (λ t. if is_utf8 t then Some t else None) (option_and_then as_str (get name d))

-- a name of a node or a server
abbrev pub name_at : List ℕ → Data → Option (List ℕ)
name_at name d = option_and_then (λ t. if is_name t then Some t else None) (option_and_then as_str (get name d))

-- a whole number of 64 bits
abbrev pub whole_at : List ℕ → Data → Option ℕ
whole_at name d = option_and_then (λ n. if nat_lt n (2 ^ 64) then Some n else None) (option_and_then as_u64 (option_and_then as_number (get name d)))

-- a whole number of 32 bits
abbrev pub small_at : List ℕ → Data → Option ℕ
small_at name d = option_and_then (λ n. if nat_lt n (2 ^ 32) then Some n else None) (whole_at name d)

-- the options of a client: other members than these four are ignored
abbrev pub connect_of : Data → Option ClientFrame
connect_of d =
    option_and_then (λ verbose. option_and_then (λ headers. option_and_then (λ no_responders. option_map (λ echo. Connect verbose headers no_responders echo)
    (switch_at (codes "echo") true d)) (switch_at (codes "no_responders") false d)) (switch_at (codes "headers") false d)) (switch_at (codes "verbose") true d)

-- the numbers of a server and its texts, around those that were read before
abbrev pub numbers_of : List ℕ → List ℕ → List ℕ → List ℕ → List ℕ → Data → Option ServerInfo
numbers_of server_id server_name version go host d =
    option_and_then (λ port. option_and_then (λ headers. option_and_then (λ max_payload. option_map (λ proto.
    record { server_id = server_id; server_name = server_name; version = version; go = go; host = host; port = port; headers = headers; max_payload = max_payload; proto = proto })
    (small_at (codes "proto") d)) (whole_at (codes "max_payload") d)) (flag_at (codes "headers") d)) (small_at (codes "port") d)

-- what a server tells of itself: all nine members have to stand, and others are ignored
abbrev pub server_of : Data → Option ServerInfo
server_of d =
    option_and_then (λ server_id. option_and_then (λ server_name. option_and_then (λ version. option_and_then (λ go. option_and_then (λ host.
    numbers_of server_id server_name version go host d)
    (text_at (codes "host") d)) (text_at (codes "go") d)) (text_at (codes "version") d)) (name_at (codes "server_name") d)) (name_at (codes "server_id") d)

-- the frame of a server's object
abbrev pub info_of : Data → Option ClientFrame
info_of d = option_map (λ info. Info info) (server_of d)

-- ---- writing

-- the options, in byte order of their names
abbrev pub connect_data : Bool → Bool → Bool → Bool → Data
connect_data verbose headers no_responders echo = object
    (member (codes "echo") (boolean echo)
    (member (codes "headers") (boolean headers)
    (member (codes "no_responders") (boolean no_responders)
    (member (codes "verbose") (boolean verbose) no_members))))

-- what a server tells of itself, in byte order of the names
abbrev pub info_data : ServerInfo → Data
info_data info = object
    (member (codes "go") (string info.go)
    (member (codes "headers") (boolean info.headers)
    (member (codes "host") (string info.host)
    (member (codes "max_payload") (number (unsigned info.max_payload))
    (member (codes "port") (number (unsigned info.port))
    (member (codes "proto") (number (unsigned info.proto))
    (member (codes "server_id") (string info.server_id)
    (member (codes "server_name") (string info.server_name)
    (member (codes "version") (string info.version) no_members)))))))))
