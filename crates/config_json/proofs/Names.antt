-- Names are text.
use Rattle.std.proofs.Common.{◌≡◌, ℕ, zero, suc, ◌<◌, List, [], ◌∷◌, length, true, ◌&&◌, not, ◌==◌, arith, IsUtf8, nat_lt}
use Rattle.std.specs.Prelude.{nat_le}
use Rattle.std.specs.List.{list_all}
use Rattle.std.specs.Str.{IsAscii}
use Rattle.std.proofs.lemmas.Bool.{and_parts, ltb-true}
use Rattle.std.proofs.lemmas.Str.{IsUtf8-from_ascii}
use Rattle.nats_text.specs.Text.{is_name, is_name_byte}

byte_high : (b : ℕ) → is_name_byte b ≡ true → b < 127
byte_high b h =
    let f = nat_lt 32 b && nat_lt b 127 in
    let p5 = and_parts (f && not (b == 46) && not (b == 42) && not (b == 62) && not (b == 47)) (not (b == 92)) h in
    let p4 = and_parts (f && not (b == 46) && not (b == 42) && not (b == 62)) (not (b == 47)) p5.0 in
    let p3 = and_parts (f && not (b == 46) && not (b == 42)) (not (b == 62)) p4.0 in
    let p2 = and_parts (f && not (b == 46)) (not (b == 42)) p3.0 in
    let p1 = and_parts f (not (b == 46)) p2.0 in
    ltb-true b 127 (and_parts (nat_lt 32 b) (nat_lt b 127) p1.0).1

name_ascii : (w : List ℕ) → list_all is_name_byte w ≡ true → IsAscii w
name_ascii [] h i = omega arith
name_ascii (b ∷ bs) h zero = omega (arith, byte_high b (and_parts (is_name_byte b) (list_all is_name_byte bs) h).0)
name_ascii (b ∷ bs) h (suc i) = name_ascii bs (and_parts (is_name_byte b) (list_all is_name_byte bs) h).1 i

pub name_utf8 : (w : List ℕ) → is_name w ≡ true → IsUtf8 w
name_utf8 w h = IsUtf8-from_ascii w (name_ascii w (and_parts (nat_lt 0 (length w) && nat_le (length w) 64) (list_all is_name_byte w) h).1)
