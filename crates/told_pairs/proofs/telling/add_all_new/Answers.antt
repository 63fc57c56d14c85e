use Rattle.std.proofs.Common.{◌++◌, ◌==◌, ℕ, cond, map, ap₂}
use Rattle.interest_list.specs.Tellings.{frame_on}
use Rattle.told_pairs.specs.Tellings.{come, told_at}
use Rattle.told_pairs.specs.Wants.{to_tell}
use Rattle.told_pairs.proofs.Loops.{more_told}
use Rattle.told_pairs.proofs.telling.add_all_new.Goals as goal

pub loop-pair-preserved : goal.loop-pair-preserved
loop-pair-preserved c =
    more_told frame_on (λ p. cond (told_at p c.args.told.now.entries == to_tell c.args.link p c.args.wants.now.entries) 0 (to_tell c.args.link p c.args.wants.now.entries)) c.loop-pair.frames.items c.add_new.new.frames.items
    (c.args.frames.now.items ++ map frame_on (come (λ p. told_at p c.args.told.now.entries) (λ p. to_tell c.args.link p c.args.wants.now.entries) c.args.pairs.now.keys))
    c.in-Some.pair.now c.next.new.self c.loop-pair.pair-iterator (cond (c.weight.result == c.to_tell.result) 0 c.to_tell.result) c.in-Some.ensures.steps (ap₂ (λ (m n : ℕ). cond (n == m) 0 m) c.to_tell.ensures c.weight.ensures) c.in_ok-add_new.ensures c.loop-pair.invariant
