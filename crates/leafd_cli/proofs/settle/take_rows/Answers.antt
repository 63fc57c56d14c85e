use Rattle.std.proofs.Common.{sym, subst, ◌∙◌}
use Rattle.stream_fold.specs.Histories.{last}
use Rattle.leafd_cli.specs.Logs.{StreamLog}
use Rattle.leafd_cli.specs.Keeping.{CanFollow}
use Rattle.leafd_cli.proofs.Following.{bound_on}
use Rattle.leafd_cli.proofs.settle.take_rows.Goals as goal
use Rattle.leafd_cli.proofs.settle.take_rows.Goals.{then-is_none+in_ok-add, else-is_none}

pub add_rows-requires : goal.add_rows-requires
add_rows-requires c =
    let P : StreamLog → Type 0 = λ s. CanFollow (last s.entries) c.args.rows.now in
    elim c.if-is_none.branch [
      | then-is_none+in_ok-add w ↦ subst P (sym (w.stream-is ∙ w.in_ok-add.ensures)) (bound_on c.args.stream.now c.args.rows.now c.requires.rows)
      | else-is_none w ↦ subst P (sym w.stream-is) c.requires.rows
    ]
