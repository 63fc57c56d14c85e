use Rattle.std.proofs.Common.{ap, ◌∙◌, ◌∷◌, [], ◌++◌}
use Rattle.nats_text.specs.Text.{star, tail}
use Rattle.pattern_tree.specs.Reached.{Adds, Reached, seen}
use Rattle.pattern_tree.proofs.Walked.{last_added, more_added}
use Rattle.pattern_tree.proofs.Walked.{took, went, stayed}
use Rattle.pattern_tree.proofs.walk.+walk.Goals as goal
use Rattle.pattern_tree.proofs.walk.+walk.Goals.{then-stands+in_ok-found-3, else-stands, then-stands-2+in_ok-found-4, else-stands-2}

pub returns-in_default : goal.returns-in_default
returns-in_default g t c =
    let m = c.args.map.now in
    let f = c.args.front.now in
    let r = c.args.rest.now in
    let a = took m c.as_slice.result.now (f ++ tail) (seen c.args.found.items) (seen c.in_ok-found.found.items) c.in_ok-found.ensures (c.as_slice.ensures.value ∙ c.in_ok-open.ensures) in
    let b = took m c.as_slice-in_default.result.now (f ++ star) (seen c.in_ok-found.found.items) (seen c.in_ok-found-2.found.items) c.in_ok-found-2.ensures (c.as_slice-in_default.ensures.value ∙ c.in_ok-any.ensures) in
    last_added m f r c.as_slice-in_default-2.result.now (seen c.args.found.items) (seen c.in_ok-found.found.items) (seen c.in_ok-found-2.found.items) c.take_at-in_default-2.result c.in_default.ensures.parts a b (c.as_slice-in_default-2.ensures.value ∙ c.in_ok-whole.ensures) c.take_at-in_default-2.ensures

pub returns : goal.returns
returns g t c =
    let m = c.args.map.now in
    let f = c.args.front.now in
    let r = c.args.rest.now in
    let tok = c.in-Some.token.now in
    let aft = c.in-Some.after.now in
    let a = took m c.as_slice.result.now (f ++ tail) (seen c.args.found.items) (seen c.in_ok-found.found.items) c.in_ok-found.ensures (c.as_slice.ensures.value ∙ c.in_ok-open.ensures) in
    let b : Adds (Reached (f ++ (star ++ 46 ∷ [])) aft) m (seen c.in_ok-found.found.items) (seen c.if-stands.found.items) = elim c.if-stands.branch [
      | then-stands+in_ok-found-3 w ↦ went m w.as_slice-then-stands.result.now (f ++ (star ++ 46 ∷ [])) aft (seen c.in_ok-found.found.items) (seen w.in_ok-found-3.found.items) (seen c.if-stands.found.items) (w.as_slice-then-stands.ensures.value ∙ c.in_ok-any-2.ensures) w.in_ok-found-3.ensures (ap (λ x. seen x.items) w.found-is)
      | else-stands w ↦ stayed m c.in_ok-any-2.any.items (f ++ (star ++ 46 ∷ [])) aft (seen c.in_ok-found.found.items) (seen c.if-stands.found.items) c.in_ok-any-2.ensures (c.stands.ensures w.if-stands.false) (ap (λ x. seen x.items) w.found-is)
    ] in
    let d : Adds (Reached (f ++ (tok ++ 46 ∷ [])) aft) m (seen c.if-stands.found.items) (seen c.if-stands-2.found.items) = elim c.if-stands-2.branch [
      | then-stands-2+in_ok-found-4 w ↦ went m w.as_slice-then-stands-2.result.now (f ++ (tok ++ 46 ∷ [])) aft (seen c.if-stands.found.items) (seen w.in_ok-found-4.found.items) (seen c.if-stands-2.found.items) (w.as_slice-then-stands-2.ensures.value ∙ c.in_ok-next.ensures) w.in_ok-found-4.ensures (ap (λ x. seen x.items) w.found-is)
      | else-stands-2 w ↦ stayed m c.in_ok-next.next.items (f ++ (tok ++ 46 ∷ [])) aft (seen c.if-stands.found.items) (seen c.if-stands-2.found.items) c.in_ok-next.ensures (c.stands-2.ensures w.if-stands-2.false) (ap (λ x. seen x.items) w.found-is)
    ] in
    more_added m f r tok aft (seen c.args.found.items) (seen c.in_ok-found.found.items) (seen c.if-stands.found.items) (seen c.if-stands-2.found.items) c.in-Some.ensures.parts a b d
