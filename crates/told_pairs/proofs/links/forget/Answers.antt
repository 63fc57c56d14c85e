use Rattle.std.proofs.Common.{ap, ◌∙◌, List, ℕ, map}
use Rattle.told_pairs.specs.Tellings.{LinkTellings, told_link}
use Rattle.told_pairs.proofs.LinkLists.{list_remove}
use Rattle.told_pairs.proofs.links.forget.Goals as goal

pub returns-clause-told : goal.returns-clause-told
returns-clause-told c = ap (λ (es : List (ℕ × LinkTellings)). map told_link es) c.remove.ensures.entries ∙ list_remove c.args.link c.args.links.now.entries c.len.ensures.ordered
