use Rattle.std.proofs.Common.{◌++◌, ◌==◌, ℕ, cond, map, ap₂}
use Rattle.interest_list.specs.Tellings.{frame_off}
use Rattle.told_pairs.specs.Tellings.{gone, told_at}
use Rattle.told_pairs.specs.Wants.{to_tell}
use Rattle.told_pairs.proofs.Loops.{more_told}
use Rattle.told_pairs.proofs.telling.add_all_gone.Goals as goal

pub loop-pair-preserved : goal.loop-pair-preserved
loop-pair-preserved c =
    more_told frame_off (λ p. cond (to_tell c.args.link p c.args.wants.now.entries == 0) (told_at p c.args.told.now.entries) 0) c.loop-pair.frames.items c.add_gone.new.frames.items
    (c.args.frames.now.items ++ map frame_off (gone (λ p. told_at p c.args.told.now.entries) (λ p. to_tell c.args.link p c.args.wants.now.entries) c.args.pairs.now.keys))
    c.in-Some.pair.now c.next.new.self c.loop-pair.pair-iterator (cond (c.to_tell.result == 0) c.weight.result 0) c.in-Some.ensures.steps (ap₂ (λ (m n : ℕ). cond (m == 0) n 0) c.to_tell.ensures c.weight.ensures) c.in_ok-add_gone.ensures c.loop-pair.invariant
