use Rattle.std.proofs.Common.{◌∙◌}
use Rattle.config_json.proofs.Empties.{no_items_are}
use Rattle.config_json.proofs.others.has_no_items.Goals as goal

pub returns : goal.returns
returns c = c.is_empty.ensures ∙ no_items_are c.args.items.now
