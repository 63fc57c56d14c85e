use Rattle.std.proofs.Common.{◌≡◌, ◌∷◌, sym, ap, ◌∙◌}
use Rattle.std.specs.Map.{keys_of}
use Rattle.told_pairs.specs.declared.pair.Pair.{Pair}
use Rattle.told_pairs.proofs.Loops.{collected_more, joined_old}
use Rattle.told_pairs.proofs.links.add_keys.Goals as goal

pub loop-pair-preserved : goal.loop-pair-preserved
loop-pair-preserved g c =
    let k = c.in_ok-copied.field-0 in
    let is : c.loop-pair.pair-iterator ≡ k ∷ c.next.new.self = c.in-Some.ensures.steps ∙ ap (λ (p : Pair). p ∷ c.next.new.self) (sym c.in_ok-copied.ensures) in
    record {
      old = λ p none. c.loop-pair.invariant.old p (joined_old k c.loop-pair.set c.insert.new.self c.in_ok-insert.ensures.updates.0 p none);
      keys = collected_more (keys_of c.args.map.now.entries) c.loop-pair.pair-iterator c.next.new.self k c.loop-pair.set c.insert.new.self is c.in_ok-insert.ensures.updates.0 c.loop-pair.invariant.keys;
    }
