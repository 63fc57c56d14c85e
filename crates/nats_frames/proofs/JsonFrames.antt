-- CONNECT and INFO that are written are read again.
use Rattle.std.proofs.Common.{◌≡◌, ◌<◌, ◌≤◌, ◌^◌, Bool, true, cond, nat_lt, Option, None, Some, refl, ap, ◌∙◌, arith}
use Rattle.std.specs.Prelude.{codes, option_and_then, option_map, is_some}
use Rattle.std.specs.Str.{is_utf8}
use Rattle.std.proofs.lemmas.Bool.{cond-true, lt-ltb}
use Rattle.json.proofs.Printed.Utf8.{IsUtf8-are_ascii}
use Rattle.std.proofs.lemmas.Str.{IsUtf8-from_is_utf8, is_utf8-from_IsUtf8}
use Rattle.serde_json.specs.Data.{Data, object, Members, depth}
use Rattle.serde_json.specs.Find.{as_object}
use Rattle.serde_json.specs.Read.{read, of_json, max_depth}
use Rattle.serde_json.specs.Written.{outline, compact_text}
use Rattle.serde_json.proofs.Numbers.{number_of-decimal}
use Rattle.nats_text.specs.Text.{is_name}
use Rattle.nats_frames.specs.declared.frame.ServerInfo.{ServerInfo}
use Rattle.nats_frames.specs.declared.frame.ClientFrame.TheVariants.{Connect, Info}
use Rattle.nats_frames.specs.Json.{object_of, connect_of, server_of, info_of, connect_data, info_data}
use Rattle.nats_frames.proofs.Jsons.{Plain, reads_again, text_utf8}
use Rattle.nats_frames.proofs.Names.{name_utf8}
use Rattle.nats_frames.proofs.Readable.{GoodServer}

-- an object that is written reads as the object
pub object_read : (ms : Members) → Plain (object ms) → of_json (outline (object ms)) ≡ Some (object ms) → depth (object ms) ≤ max_depth → object_of (compact_text (object ms)) ≡ Some (object ms)
object_read ms plain ordered shallow =
    let d : Data = object ms in
    let keep : Data → Option Data = λ x. cond (is_some (as_object x)) (Some x) None in
    cond-true (is_utf8 (compact_text d)) (option_and_then keep (read (compact_text d))) None (is_utf8-from_IsUtf8 (compact_text d) (text_utf8 d plain))
    ∙ ap (option_and_then keep) (reads_again d plain ordered shallow)

-- ---- CONNECT

pub connect_plain : (v h n e : Bool) → Plain (connect_data v h n e)
connect_plain v h n e = (
  IsUtf8-are_ascii (codes "echo") refl,
  tt,
  (IsUtf8-are_ascii (codes "headers") refl, tt, (IsUtf8-are_ascii (codes "no_responders") refl, tt, (IsUtf8-are_ascii (codes "verbose") refl, tt, tt))),
)

connect_object : (v h n e : Bool) → object_of (compact_text (connect_data v h n e)) ≡ Some (connect_data v h n e)
connect_object v h n e = object_read _ (connect_plain v h n e) refl (omega arith)

pub connect_read : (v h n e : Bool) → option_and_then connect_of (object_of (compact_text (connect_data v h n e))) ≡ Some (Connect v h n e)
connect_read v h n e = ap (option_and_then connect_of) (connect_object v h n e)

-- ---- INFO

pub info_plain : (info : ServerInfo) → GoodServer info → Plain (info_data info)
info_plain info g = (
  IsUtf8-are_ascii (codes "go") refl,
  IsUtf8-from_is_utf8 info.go g.go,
  (
    IsUtf8-are_ascii (codes "headers") refl,
    tt,
    (
      IsUtf8-are_ascii (codes "host") refl,
      IsUtf8-from_is_utf8 info.host g.host,
      (
        IsUtf8-are_ascii (codes "max_payload") refl,
        g.max_payload,
        (
          IsUtf8-are_ascii (codes "port") refl,
          omega (arith, g.port),
          (
            IsUtf8-are_ascii (codes "proto") refl,
            omega (arith, g.proto),
            (
              IsUtf8-are_ascii (codes "server_id") refl,
              name_utf8 info.server_id g.id,
              (
                IsUtf8-are_ascii (codes "server_name") refl,
                name_utf8 info.server_name g.name,
                (IsUtf8-are_ascii (codes "version") refl, IsUtf8-from_is_utf8 info.version g.version, tt),
              ),
            ),
          ),
        ),
      ),
    ),
  ),
)

info_ordered : (info : ServerInfo) → info.max_payload < 2 ^ 64 → info.port < 2 ^ 64 → info.proto < 2 ^ 64 → of_json (outline (info_data info)) ≡ Some (info_data info)
info_ordered info a b c = rw (number_of-decimal info.max_payload a, number_of-decimal info.port b, number_of-decimal info.proto c) refl

info_object : (info : ServerInfo) → GoodServer info → object_of (compact_text (info_data info)) ≡ Some (info_data info)
info_object info g = object_read _ (info_plain info g) (info_ordered info g.max_payload (omega (arith, g.port)) (omega (arith, g.proto))) (omega arith)

server_read : (info : ServerInfo) → is_name info.server_id ≡ true → is_name info.server_name ≡ true → is_utf8 info.version ≡ true → is_utf8 info.go ≡ true → is_utf8 info.host ≡ true
    → nat_lt info.port (2 ^ 64) ≡ true → nat_lt info.port (2 ^ 32) ≡ true → nat_lt info.max_payload (2 ^ 64) ≡ true → nat_lt info.proto (2 ^ 64) ≡ true → nat_lt info.proto (2 ^ 32) ≡ true
    → server_of (info_data info) ≡ Some info
server_read info i n v g h p q m o r = rw (i, n, v, g, h, p, q, m, o, r) refl

pub info_read : (info : ServerInfo) → GoodServer info → option_and_then info_of (object_of (compact_text (info_data info))) ≡ Some (Info info)
info_read info g =
    ap (option_and_then info_of) (info_object info g)
    ∙ ap (option_map (λ x. Info x)) (server_read info g.id g.name g.version g.go g.host
    (lt-ltb info.port (2 ^ 64) (omega (arith, g.port))) (lt-ltb info.port (2 ^ 32) g.port) (lt-ltb info.max_payload (2 ^ 64) g.max_payload)
    (lt-ltb info.proto (2 ^ 64) (omega (arith, g.proto))) (lt-ltb info.proto (2 ^ 32) g.proto))
