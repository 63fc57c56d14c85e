use Rattle.std.proofs.Common.{◌≡◌, ◌+◌, ◌-◌, ◌∷◌, length, take, drop, ap, sym, ◌∙◌}
use Rattle.std.proofs.lemmas.List.{take_rest, drop-drop}
use Rattle.nats_frames.specs.Fields.{parts}
use Rattle.nats_frames.proofs.fields.cut_blank.Goals as goal

pub returns-clause-parts : goal.returns-clause-parts
returns-clause-parts c =
    let bs = c.args.bytes.now in
    let at = c.in_ok-at.at in
    let tail = c.split_at.result.1.now in
    let e : take (length tail - 1) (drop 1 tail) ≡ drop (at + 1) bs = take_rest tail 1 ∙ (ap (λ t. drop 1 t) c.split_at.ensures.back ∙ drop-drop 1 at bs) in
    c.in_ok-at.ensures.1 ∙ (ap (λ x. x ∷ parts (drop (at + 1) bs)) (sym c.split_at.ensures.front) ∙ ap (λ y. c.split_at.result.0.now ∷ parts y) (sym e))
