use Rattle.std.proofs.Common.{◌≡◌, List, ℕ, ◌∷◌, None, refl, sym, ap, ◌∙◌}
use Rattle.nats_text.specs.Pieces.{pieces}
use Rattle.js_wire.specs.Reading.{stamp_of}
use Rattle.js_wire.proofs.Pieces.{pieces_first, HasFirst}
use Rattle.js_wire.proofs.words.stamp_of.Goals as goal

three : (a b : List ℕ) (others : List (List ℕ)) → HasFirst others → stamp_of (a ∷ b ∷ others) ≡ None
three a b others h = rw h.is refl

pub returns-in-Some : goal.returns-in-Some
returns-in-Some c =
    let first = c.in_ok-boot.ensures.parts in
    let second = c.in-Some.ensures.parts in
    sym (ap stamp_of (first ∙ ap (λ ps. c.in_ok-boot.boot.now ∷ ps) second) ∙ three c.in_ok-boot.boot.now c.in-Some.field-0.0.now (pieces 67 c.in-Some.field-0.1.now) (pieces_first 67 c.in-Some.field-0.1.now))
