use Rattle.std.proofs.Common.{rules, ◌<◌, ◌≤◌, length, drop, sym, ◌∙◌, ap}
use denote.Enum.Bare.{same_true, same_false}
use Rattle.tap_row.specs.contracts.notice.Stay.{the_type}
use Rattle.tap_row.proofs.Rows.{told_end, told_leaves, told_stays, told_moved, front_kept, drop_set, drop_removed, take_kept, not_true}
use Rattle.tap_row.proofs.row.+tell_from.Goals as goal

pub returns-then-at-len-clause-told : goal.returns-then-at-len-clause-told
returns-then-at-len-clause-told g t c = let le : length c.args.taps.now.items ≤ c.args.at = search rules in told_end _ _ _ c.args.taps.now.items c.args.at le

pub returns-then-eq-clause-told : goal.returns-then-eq-clause-told
returns-then-eq-clause-told g t c =
    let old = c.args.taps.now.items in
    let at = c.args.at in
    let lt : at < length old = search rules in
    let new = c.tell_one.new.tap in
    let gone = same_true the_type (search rules) _ _ (sym c.if-eq.ensures) in
    told_leaves _ _ _ old c.tell_from.new.taps.items at c.index_mut.result.now new lt c.index_mut.ensures.value c.tell_one.ensures.told (c.tell_one.ensures.left.0 gone)
    (told_moved _ _ _ _ _ _ (ap (drop at) c.remove.ensures.items ∙ drop_removed old at new lt) c.tell_from.ensures.told)

pub returns-else-eq-clause-before : goal.returns-else-eq-clause-before
returns-else-eq-clause-before g t c =
    let lt : c.args.at < length c.args.taps.now.items = search rules in
    take_kept c.args.taps.now.items c.args.at c.tell_one.new.tap lt _ c.tell_from-else-eq.ensures.before

pub returns-else-eq-clause-told : goal.returns-else-eq-clause-told
returns-else-eq-clause-told g t c =
    let old = c.args.taps.now.items in
    let at = c.args.at in
    let lt : at < length old = search rules in
    let new = c.tell_one.new.tap in
    let stayed = not_true _ (λ e. same_false the_type _ _ (sym c.if-eq.ensures) (c.tell_one.ensures.left.1 e)) in
    told_stays _ _ _ old c.tell_from-else-eq.new.taps.items at c.index_mut.result.now new lt c.index_mut.ensures.value c.tell_one.ensures.told stayed
    (front_kept old at new lt _ c.tell_from-else-eq.ensures.before) (told_moved _ _ _ _ _ _ (drop_set old at new lt) c.tell_from-else-eq.ensures.told)
