use Rattle.std.proofs.Common.{◌≡◌, ℕ, List, [], ◌∷◌, ◌++◌, true, false, Option, Some, None, refl, sym, ap, ◌∙◌, subst}
use Rattle.std.specs.Option.{option_copied}
use Rattle.std.specs.Str.{bytes_eq}
use Rattle.shard_table.proofs.Hears.{copy-elsewhere, gives-ignored}
use Rattle.shard_table.proofs.table.Table.heard_by.Goals as goal

pub hear-requires : goal.hear-requires
hear-requires c =
    let v = c.requires.0 in
    let h = c.requires.1 in
    (v, h, c.requires.2, ap (bytes_eq c.args.id.now.node) (sym (c.node.ensures ∙ h.askers.node)) ∙ (sym c.is_same.ensures ∙ c.if-is_same.true))

pub returns-then-is_same : goal.returns-then-is_same
returns-then-is_same c = λ v h addressed.
    c.hear.ensures v h addressed (ap (bytes_eq c.args.id.now.node) (sym (c.node.ensures ∙ h.askers.node)) ∙ (sym c.is_same.ensures ∙ c.if-is_same.true))

pub returns-else-is_same : goal.returns-else-is_same
returns-else-is_same c = λ v h addressed.
    let packet = c.args.packet.now in
    let other : bytes_eq c.args.id.now.node v.node ≡ false = ap (bytes_eq c.args.id.now.node) (sym (c.node.ensures ∙ h.askers.node)) ∙ (sym c.is_same.ensures ∙ c.if-is_same.false) in
    gives-ignored c.args.self.now v packet c.args.now c.ignored.result c.ignored.ensures (copy-elsewhere v c.args.id.now packet addressed other) h
