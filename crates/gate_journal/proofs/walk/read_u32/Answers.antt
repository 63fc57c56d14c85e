use Rattle.std.proofs.Common.{rules}
use Rattle.std.proofs.lemmas.Nat.{le_bytes_4}
use Rattle.gate_journal.proofs.walk.read_u32.Goals as goal

pub returns-clause-spelling : goal.returns-clause-spelling
returns-clause-spelling c = le_bytes_4 c.args.bytes _ (search rules) (search rules) c.from_le_bytes.ensures
