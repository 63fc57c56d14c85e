-- The object of a text.
use Rattle.std.proofs.Common.{◌≡◌, List, ℕ, Bool, true, false, cond, None, refl}
use Rattle.std.specs.Prelude.{option_and_then}
use Rattle.std.specs.Str.{is_utf8}
use Rattle.serde_json.specs.Read.{read}
use Rattle.nats_frames.specs.Json.{if_object, object_of}

pub object_is : (text : List ℕ) → option_and_then if_object (cond (is_utf8 text) (read text) None) ≡ object_of text
object_is text =
    let P : Bool → Type 0 = λ b. option_and_then if_object (cond b (read text) None) ≡ cond b (option_and_then if_object (read text)) None in
    let go : (b : Bool) → P b = λ b. elim b as P [ true ↦ refl | false ↦ refl ] in
    go (is_utf8 text)
