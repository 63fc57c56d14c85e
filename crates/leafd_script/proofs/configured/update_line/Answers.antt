use Rattle.leafd_script.proofs.Shapes.{few_for_update}
use Rattle.leafd_script.proofs.configured.update_line.Goals as goal

pub returns-in_default : goal.returns-in_default
returns-in_default c = few_for_update c.args.args.now c.in_default.len_below
