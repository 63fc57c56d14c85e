use Rattle.std.proofs.Common.{◌≡◌, ◌<◌, ◌∙◌, None, true, length, ap, arith}
use Rattle.mem_disk.specs.Histories.{past_of}
use Rattle.mem_disk.specs.MemDisks.{Past, past_unsynced}
use Rattle.mem_disk.proofs.Keeping.{dirty_entry, kept_synced}
use Rattle.mem_disk.proofs.history.History.sync.Goals as goal

pub invariant_of-self : goal.invariant_of-self
invariant_of-self c =
    let h = c.self.inside in
    let idle : (past_of h).tried ≡ None = ap (λ (p : Past). p.tried) c.self.view_is ∙ c.requires.idle in
    let dirt : past_unsynced (past_of h) ≡ true = ap past_unsynced c.self.view_is ∙ c.requires.dirt in
    let below : h.synced < length h.entries.items = dirty_entry h c.self.invariant idle dirt in
    kept_synced h c.self.invariant c.push_reserved.new.self c.len-self-inside.result (omega (arith, below)) c.push_reserved.ensures.items (omega arith)
