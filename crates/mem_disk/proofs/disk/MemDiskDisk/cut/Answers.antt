use Rattle.mem_disk.proofs.DiskCalls.{cut_seen, cut_dirt, cut_crash, cut_time, cut_cause}
use Rattle.mem_disk.proofs.Leads.{cut_leads}
use Rattle.mem_disk.proofs.disk.MemDiskDisk.cut.Goals as goal

pub returns-clause-shorter : goal.returns-clause-shorter
returns-clause-shorter c tells = cut_seen c.args.len c.args.self.now c.do_cut.new.self c.do_cut.result c.do_cut.ensures.sound c.do_cut.ensures.exact

pub returns-clause-dirt : goal.returns-clause-dirt
returns-clause-dirt c tells = cut_dirt c.args.len c.args.self.now c.do_cut.new.self c.do_cut.result c.do_cut.ensures.sound c.do_cut.ensures.exact

pub returns-clause-crash : goal.returns-clause-crash
returns-clause-crash c tells = cut_crash c.args.len c.args.self.now c.do_cut.new.self c.do_cut.result c.do_cut.ensures.sound c.do_cut.ensures.exact

pub returns-clause-time : goal.returns-clause-time
returns-clause-time c tells = cut_time c.args.len c.args.self.now c.do_cut.new.self c.do_cut.result c.do_cut.ensures.sound c.do_cut.ensures.exact

pub returns-clause-cause : goal.returns-clause-cause
returns-clause-cause c = cut_cause c.args.len c.args.self.now c.do_cut.new.self c.do_cut.result c.do_cut.ensures.sound c.do_cut.ensures.exact

pub returns-clause-leads : goal.returns-clause-leads
returns-clause-leads c = cut_leads c.args.len c.args.self.now c.do_cut.new.self c.do_cut.result c.do_cut.ensures.sound c.do_cut.ensures.exact
