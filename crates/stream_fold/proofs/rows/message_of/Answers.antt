use Rattle.std.proofs.Common.{sym, ap, ◌∙◌}
use Rattle.std.specs.Option.{option_copied}
use Rattle.stream_fold.proofs.Finding.{none_first}
use Rattle.stream_fold.proofs.rows.message_of.Goals as goal

pub returns-else-row-seq : goal.returns-else-row-seq
returns-else-row-seq c =
    sym (none_first c.args.seq c.args.rows.now c.in_ok-row.row.now c.requires (sym c.first.ensures.value ∙ ap option_copied c.in_ok-row.was) c.if-row-seq.false)
