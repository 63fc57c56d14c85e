use Rattle.std.proofs.Common.{◌≡◌, ◌==◌, length, drop, true, sym, ap, ◌∙◌, arith}
use Rattle.std.proofs.lemmas.List.{take_rest}
use Rattle.std.specs.List.{starts_with}
use Rattle.subject_transform.proofs.Parted.{found, none_found}
use Rattle.subject_transform.proofs.split.cut_at.Goals as goal

pub returns-then-starts_with-clause-parts : goal.returns-then-starts_with-clause-parts
returns-then-starts_with-clause-parts c =
    let bs = c.args.bytes.now in
    let at = c.loop-at.at in
    let separator = c.args.separator.now in
    let here : starts_with ◌==◌ (drop at bs) separator ≡ true =
    ap (λ r. starts_with ◌==◌ r separator) (sym (take_rest bs at)) ∙ (sym c.starts_with.ensures.value ∙ c.if-starts_with.true) in
    rw (take_rest bs at, take_rest (drop at bs) (length separator)) (found separator bs at c.requires c.loop-at-test.true c.loop-at.invariant here)

pub returns-clause-parts : goal.returns-clause-parts
returns-clause-parts c = none_found c.args.separator.now c.args.bytes.now (λ k l. c.loop-at.invariant k (omega arith))
