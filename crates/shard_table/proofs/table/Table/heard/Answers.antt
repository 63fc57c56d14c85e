use Rattle.std.proofs.Common.{◌≡◌, ℕ, List, [], ◌∷◌, ◌++◌, true, false, Option, Some, None, refl, sym, ap, ◌∙◌, subst}
use Rattle.std.specs.Option.{option_copied}
use Rattle.shard_table.proofs.Hears.{copy-nowhere, gives-ignored}
use Rattle.shard_table.proofs.table.Table.heard.Goals as goal

pub heard_by-requires : goal.heard_by-requires
heard_by-requires c = (c.requires.0, c.requires.1, sym c.addressee.ensures ∙ ap option_copied c.in-Some.is)

pub returns-in-Some : goal.returns-in-Some
returns-in-Some c = λ v h. c.heard_by.ensures v h (sym c.addressee.ensures ∙ ap option_copied c.in-Some.is)

pub returns-in-None : goal.returns-in-None
returns-in-None c = λ v h.
    let packet = c.args.packet.now in
    gives-ignored c.args.self.now v packet c.args.now c.ignored.result c.ignored.ensures (copy-nowhere v packet (sym c.addressee.ensures ∙ ap option_copied c.in-None.is)) h
