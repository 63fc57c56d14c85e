use Rattle.std.proofs.Common.{◌%◌, sym, ◌∙◌}
use Rattle.interest_list.specs.Targets.{members, weights}
use Rattle.interest_list.proofs.Choosing.{none-chosen}
use Rattle.interest_list.proofs.targets.chosen.Goals as goal

pub returns-then-total-eq0 : goal.returns-then-total-eq0
returns-then-total-eq0 c =
    let all = members c.args.queue.now c.args.live.now in
    sym (none-chosen (c.args.pick % weights all) all (sym c.weight_of-total.ensures ∙ c.if-total-eq0.true))
