use Rattle.std.proofs.Common.{List, ℕ, sym, ap, ◌∙◌}
use Rattle.std.specs.List.{list_all}
use Rattle.indexed_rows.specs.Indexes.{is_plain}
use Rattle.indexed_rows.proofs.Literal.{literal}
use Rattle.indexed_rows.proofs.purging.is_literal.Goals as goal

pub returns : goal.returns
returns c = λ yields. literal c.args.pattern.now c.bytes.ensures.legal (ap (λ (bs : List ℕ). list_all is_plain bs) (sym c.bytes.ensures.value) ∙ (sym c.are_plain.ensures ∙ yields)) c.literal_patterns.ensures
