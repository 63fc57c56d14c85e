use Rattle.std.proofs.Common.{◌∙◌, sym, ap, arith}
use Rattle.mem_disk.specs.MemDisks.{past_unsynced}
use Rattle.mem_disk.proofs.Keeping.{lt_true, unsynced_entry}
use Rattle.mem_disk.proofs.history.History.is_unsynced.Goals as goal

pub returns-then-self-len : goal.returns-then-self-len
returns-then-self-len c = lt_true _ _ c.if-self-len.true ∙ sym (sym (ap past_unsynced c.self.view_is) ∙ unsynced_entry c.self.inside c.self.invariant (omega arith))
