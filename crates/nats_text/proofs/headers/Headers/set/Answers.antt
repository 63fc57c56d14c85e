use Rattle.std.proofs.Common.{◌++◌, ◌∷◌, [], ap, ◌∙◌}
use Rattle.nats_text.specs.Headers.{other_pairs}
use Rattle.nats_text.proofs.LegalPairs.{block_with}
use Rattle.nats_text.proofs.headers.Headers.set.Goals as goal

pub invariant_of-self-2 : goal.invariant_of-self-2
invariant_of-self-2 c =
    let kept = c.keep_others.ensures.items ∙ ap (other_pairs c.args.name.now) c.reserve.ensures.items in
    let rest = c.push_reserved.ensures.items ∙ (ap (λ ps. ps ++ c.in_ok-pair.pair ∷ []) kept ∙ ap (λ p. other_pairs c.args.name.now c.self.inside.pairs.items ++ p ∷ []) c.in_ok-pair.ensures) in
    block_with c.self.inside.status c.args.name.now c.args.value.now c.self.inside.pairs.items _ rest c.requires c.self.invariant
