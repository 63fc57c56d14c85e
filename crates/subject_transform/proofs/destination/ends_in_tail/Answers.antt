use Rattle.std.proofs.Common.{◌≡◌, ◌∙◌, ◌∷◌, List, ℕ, ap, sym, refl}
use Rattle.nats_text.specs.Pieces.{pieces}
use Rattle.subject_transform.specs.Transforms.{ends_in_tail}
use Rattle.subject_transform.proofs.Tokens.{HasFirst, pieces_first}
use Rattle.subject_transform.proofs.destination.ends_in_tail.Goals as goal

-- a token before others doesn't change how they end
ends_on : (t : List ℕ) (ts : List (List ℕ)) → HasFirst ts → ends_in_tail (t ∷ ts) ≡ ends_in_tail ts
ends_on t ts h = rw h.is refl

pub loop-after-preserved : goal.loop-after-preserved
loop-after-preserved l =
    let parts = l.in-Some.ensures.parts in
    sym (ends_on l.in-Some.field-0-0.now (pieces 46 l.in-Some.after.now) (pieces_first 46 l.in-Some.after.now)) ∙ sym (ap ends_in_tail parts) ∙ l.loop-after.invariant
