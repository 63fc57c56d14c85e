-- Names and subjects are UTF-8.
use Rattle.std.proofs.Common.{◌≡◌, ℕ, zero, suc, ◌<◌, List, [], ◌∷◌, length, true, ◌&&◌, not, ◌==◌, refl, arith, IsUtf8, nat_lt}
use Rattle.std.specs.Prelude.{nat_le, codes, decimal}
use Rattle.std.specs.List.{list_all}
use Rattle.std.specs.Str.{IsAscii, is_utf8}
use Rattle.std.proofs.lemmas.Bool.{and_parts, ltb-true}
use Rattle.std.proofs.lemmas.Str.{IsUtf8-append, IsUtf8-from_ascii, IsUtf8-from_is_utf8}
use Rattle.json.proofs.Printed.Utf8.{IsUtf8-are_ascii}
use Rattle.nats_text.specs.Text.{is_name, is_name_byte, is_subject, is_literal_token, tokens}
use Rattle.js_api.specs.Refusals.{row, own_text}
use Rattle.js_api.specs.declared.refusal.ApiRefusal.{ApiRefusal}
use Rattle.js_api.specs.declared.refusal.ApiRefusal.TheVariants as refusal

name_byte : (b : ℕ) → is_name_byte b ≡ true → b < 127
name_byte b h =
    let f = nat_lt 32 b && nat_lt b 127 in
    let p5 = and_parts (f && not (b == 46) && not (b == 42) && not (b == 62) && not (b == 47)) (not (b == 92)) h in
    let p4 = and_parts (f && not (b == 46) && not (b == 42) && not (b == 62)) (not (b == 47)) p5.0 in
    let p3 = and_parts (f && not (b == 46) && not (b == 42)) (not (b == 62)) p4.0 in
    let p2 = and_parts (f && not (b == 46)) (not (b == 42)) p3.0 in
    let p1 = and_parts f (not (b == 46)) p2.0 in
    ltb-true b 127 (and_parts (nat_lt 32 b) (nat_lt b 127) p1.0).1

name_ascii : (w : List ℕ) → list_all is_name_byte w ≡ true → IsAscii w
name_ascii [] h i = omega arith
name_ascii (b ∷ bs) h zero =
    let p = and_parts (is_name_byte b) (list_all is_name_byte bs) h in
    omega (arith, name_byte b p.0)
name_ascii (b ∷ bs) h (suc i) = name_ascii bs (and_parts (is_name_byte b) (list_all is_name_byte bs) h).1 i

pub name_utf8 : (w : List ℕ) → is_name w ≡ true → IsUtf8 w
name_utf8 w h =
    let p = and_parts (nat_lt 0 (length w) && nat_le (length w) 64) (list_all is_name_byte w) h in
    IsUtf8-from_ascii w (name_ascii w p.1)

pub subject_utf8 : (w : List ℕ) → is_subject w ≡ true → IsUtf8 w
subject_utf8 w h =
    let p = and_parts (nat_le (length w) 1024 && is_utf8 w) (list_all is_literal_token (tokens w)) h in
    IsUtf8-from_is_utf8 w (and_parts (nat_le (length w) 1024) (is_utf8 w) p.0).1

-- ---- descriptions

pub row_utf8 : (refusal : ApiRefusal) → IsUtf8 (own_text refusal) → IsUtf8 (row refusal).text
row_utf8 refusal.NoStream h = IsUtf8-are_ascii (codes "stream not found") refl
row_utf8 refusal.NameTaken h = IsUtf8-are_ascii (codes "stream name already in use with a different configuration") refl
row_utf8 refusal.NoMessage h = IsUtf8-are_ascii (codes "no message found") refl
row_utf8 (refusal.BadConfig wrong) h = IsUtf8-append (codes "bad member: ") wrong (IsUtf8-are_ascii (codes "bad member: ") refl) h
row_utf8 (refusal.Overlap other) h = IsUtf8-append (codes "subjects overlap with stream ") other (IsUtf8-are_ascii (codes "subjects overlap with stream ") refl) h
row_utf8 refusal.IsMirror h = IsUtf8-are_ascii (codes "stream is a mirror") refl
row_utf8 (refusal.BadHeader name) h = IsUtf8-append (codes "bad header: ") name (IsUtf8-are_ascii (codes "bad header: ") refl) h
row_utf8 refusal.WrongStream h = IsUtf8-are_ascii (codes "expected stream does not match") refl
row_utf8 (refusal.WrongLast kept) h = IsUtf8-append (codes "wrong last sequence: ") (decimal kept) (IsUtf8-are_ascii (codes "wrong last sequence: ") refl) h
row_utf8 (refusal.WrongSubjectLast kept) h = IsUtf8-append (codes "wrong last subject sequence: ") (decimal kept) (IsUtf8-are_ascii (codes "wrong last subject sequence: ") refl) h
row_utf8 refusal.TooLarge h = IsUtf8-are_ascii (codes "message size exceeds maximum allowed") refl
row_utf8 refusal.SeqEnd h = IsUtf8-are_ascii (codes "no sequence left") refl
row_utf8 refusal.Full h = IsUtf8-are_ascii (codes "stream is full") refl
row_utf8 refusal.TooManyStreams h = IsUtf8-are_ascii (codes "too many streams") refl
row_utf8 refusal.TooManyConsumers h = IsUtf8-are_ascii (codes "too many consumers") refl
row_utf8 refusal.JournalFull h = IsUtf8-are_ascii (codes "journal is full") refl
row_utf8 refusal.DiskFault h = IsUtf8-are_ascii (codes "disk fault") refl
row_utf8 refusal.BadJournal h = IsUtf8-are_ascii (codes "bad journal") refl
row_utf8 refusal.NoMemory h = IsUtf8-are_ascii (codes "out of memory") refl
row_utf8 refusal.NotForClients h = IsUtf8-are_ascii (codes "consumers are internal") refl
row_utf8 refusal.BadRequest h = IsUtf8-are_ascii (codes "bad request") refl
row_utf8 refusal.TooMany h = IsUtf8-are_ascii (codes "too many subscriptions") refl
