use Rattle.mem_disk.proofs.Leads.{look_leads}
use Rattle.mem_disk.proofs.disk.MemDiskDisk.len.Goals as goal

pub returns-clause-leads : goal.returns-clause-leads
returns-clause-leads c = look_leads c.args.self.now c.look.new.self c.look.result c.look.ensures.sound c.look.ensures.exact
