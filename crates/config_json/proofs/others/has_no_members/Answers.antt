use Rattle.config_json.proofs.Empties.{no_members_are}
use Rattle.config_json.proofs.others.has_no_members.Goals as goal

pub returns : goal.returns
returns c = no_members_are c.is_empty.result c.args.members.now.entries c.is_empty.ensures.0 c.is_empty.ensures.1
