use Rattle.std.proofs.Common.{length}
use Rattle.std.proofs.lemmas.Bool.{lt-ltb}
use Rattle.subject_transform.proofs.argument.is_separator.Goals as goal

pub returns-in-len1-up : goal.returns-in-len1-up
returns-in-len1-up c = rw (lt-ltb 0 (length c.args.text.now) c.in-len1-up.len_at_least) c.are_separator_bytes.ensures
