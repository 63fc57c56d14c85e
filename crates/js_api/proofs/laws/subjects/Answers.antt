use Rattle.js_api.proofs.Topics.{each_read, read_is}
use Rattle.js_api.proofs.laws.subjects.Goals as goal

pub returns-clause-each : goal.returns-clause-each
returns-clause-each c = each_read

pub returns-clause-alone : goal.returns-clause-alone
returns-clause-alone c = read_is
