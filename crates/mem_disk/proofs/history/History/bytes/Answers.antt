use Rattle.std.proofs.Common.{◌∙◌, sym, ap}
use Rattle.mem_disk.specs.MemDisks.{past_seen}
use Rattle.mem_disk.proofs.Keeping.{kept_seen}
use Rattle.mem_disk.proofs.history.History.bytes.Goals as goal

pub returns : goal.returns
returns c = c.as_slice.ensures.value ∙ sym (kept_seen c.self.inside c.self.invariant) ∙ ap past_seen c.self.view_is
