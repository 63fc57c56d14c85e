use Rattle.std.proofs.Common.{ap, sym, subst, ◌∙◌}
use Rattle.mem_disk.specs.Contents.{picked}
use Rattle.mem_disk.specs.MemDisks.{Past, fresh_past, past_seen, PastImages, crash_content, crash_image}
use Rattle.mem_disk.specs.MemDiskFields.{disk_of}
use Rattle.mem_disk.proofs.Soundness.{IsShort, fresh_short}
use Rattle.mem_disk.proofs.DiskCalls.{crash_is_image}
use Rattle.mem_disk.proofs.disk.MemDisk.after_crash.Goals as goal

-- the bytes that are put in place are the image that the fate picks
pub returns-clause-image : goal.returns-clause-image
returns-clause-image c =
    let put = ap past_seen (c.crash.ensures ∙ ap (λ fate. fresh_past (picked fate (crash_content c.self.inside.history))) c.unwrap_or.ensures) ∙ ap crash_image c.self.view_is in
    subst (PastImages c.args.self.now.past) (sym put) (crash_is_image c.args.self.now)

pub invariant_of-self : goal.invariant_of-self
invariant_of-self c =
    let d = disk_of c.self.inside in
    record {
      idle = λ runs. ap (λ (p : Past). p.tried) c.crash.ensures;
      range = c.self.invariant.range;
      count = c.self.invariant.count;
      short = subst IsShort (sym (c.crash.ensures ∙ ap (λ fate. fresh_past (picked fate (crash_content c.self.inside.history))) c.unwrap_or.ensures)) (fresh_short (crash_image d) (c.self.invariant.short (crash_image d) (crash_is_image d)));
    }
