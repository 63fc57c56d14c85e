use Rattle.std.proofs.Common.{◌≡◌, None, sym, ap, ◌∙◌}
use Rattle.subject_transform.specs.PartsOf.{pieces_of}
use Rattle.subject_transform.specs.Values.{taken}
use Rattle.subject_transform.proofs.Tokens.{taken_none}
use Rattle.subject_transform.proofs.taken.taken.Goals as goal

pub returns-in_default-subjects : goal.returns-in_default-subjects
returns-in_default-subjects c =
    let e : c.loop-sources.subjects ≡ None = c.in_default-subjects.is in
    let ps = pieces_of 46 c.loop-sources.sources in
    sym (taken_none ps c.loop-sources.left) ∙ (ap (λ s. taken ps (pieces_of 46 s) c.loop-sources.left) (sym e) ∙ c.loop-sources.invariant)
