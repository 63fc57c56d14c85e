use Rattle.toml.proofs.Views.{table_get}
use Rattle.leafd_conf.proofs.member.value_at.Goals as goal

pub returns : goal.returns
returns c = table_get c.get.result c.args.member.now c.args.table.now.entries c.get.ensures.value
