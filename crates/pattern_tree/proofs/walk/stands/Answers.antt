use Rattle.std.proofs.Common.{sym, ap₂, ◌∙◌}
use Rattle.std.specs.List.{starts_with}
use Rattle.std.specs.Prelude.{nat_eq}
use Rattle.pattern_tree.proofs.Standing.{behind_other, behind_none}
use Rattle.pattern_tree.proofs.walk.stands.Goals as goal

pub returns-in-Some : goal.returns-in-Some
returns-in-Some g c = λ none. behind_other c.args.map.now c.args.front.now c.range.result c.next.new.self (c.in-Some.key.now, c.in-Some.field-0-1.now) (c.range.ensures.in_range tt) c.in-Some.ensures.steps (ap₂ (λ a b. starts_with nat_eq a b) (sym c.as_slice.ensures.value) (sym c.as_slice-in-Some.ensures.value) ∙ (sym c.starts_with.ensures.value ∙ none))

pub returns-in-None : goal.returns-in-None
returns-in-None g c = λ _. behind_none c.args.map.now c.args.front.now c.range.result (c.range.ensures.in_range tt) c.in-None.ensures.steps.0
