use Rattle.js_api.proofs.Texts.{name_utf8}
use Rattle.js_api.proofs.text.push_name.Goals as goal

pub returns-clause-utf8 : goal.returns-clause-utf8
returns-clause-utf8 c = name_utf8 c.args.name.now c.bytes.ensures.legal
