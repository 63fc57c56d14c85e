use Rattle.record_log.proofs.ShortRecords.{records-are-short}
use Rattle.record_log.proofs.laws.records_are_short.Goals as goal

pub returns : goal.returns
returns c = records-are-short c.one_spelling.ensures.alone
