use Rattle.std.proofs.Common.{◌++◌, List, map, map-id, sym, ap, ◌∙◌}
use Rattle.std.specs.Map.{keys_of}
use Rattle.interest_list.specs.declared.telling.Told.{Told}
use Rattle.told_pairs.specs.Tellings.{told_list}
use Rattle.told_pairs.specs.Wants.{to_tell}
use Rattle.told_pairs.proofs.Loops.{more_told, all_told}
use Rattle.told_pairs.proofs.telling.told.Goals as goal

pub loop-pair-preserved : goal.loop-pair-preserved
loop-pair-preserved c =
    more_told (λ (t : Told). t) (λ p. to_tell c.args.link p c.args.wants.now.entries) c.loop-pair.all.items c.add_told.new.all.items
    (map (λ t. t) (told_list (map (λ p. (p, to_tell c.args.link p c.args.wants.now.entries)) (keys_of c.args.wants.now.entries))))
    c.in-Some.pair.now c.next.new.self c.loop-pair.pair-iterator c.to_tell.result c.in-Some.ensures.steps c.to_tell.ensures (c.in_ok-add_told.ensures ∙ ap (λ (l : List Told). c.loop-pair.all.items ++ l) (sym (map-id _))) c.loop-pair.invariant

pub returns : goal.returns
returns c = λ subs h. c.from_vec.ensures ∙ all_told c.args.link c.args.wants.now.entries c.loop-pair.all.items c.loop-pair.pair-iterator c.in-None.ensures.steps.0 c.keys-pair-items.ensures.ordered c.loop-pair.invariant subs h
