use Rattle.mem_disk.proofs.DiskCalls.{write_seen, write_dirt, write_crash, write_time, write_cause}
use Rattle.mem_disk.proofs.Leads.{write_leads}
use Rattle.mem_disk.proofs.disk.MemDiskDisk.write_at.Goals as goal

pub returns-clause-written : goal.returns-clause-written
returns-clause-written c tells = write_seen c.args.place c.args.bytes.now c.args.self.now c.do_write.new.self c.do_write.result c.do_write.ensures.sound c.do_write.ensures.exact

pub returns-clause-dirt : goal.returns-clause-dirt
returns-clause-dirt c tells = write_dirt c.args.place c.args.bytes.now c.args.self.now c.do_write.new.self c.do_write.result c.do_write.ensures.sound c.do_write.ensures.exact

pub returns-clause-crash : goal.returns-clause-crash
returns-clause-crash c tells = write_crash c.args.place c.args.bytes.now c.args.self.now c.do_write.new.self c.do_write.result c.do_write.ensures.sound c.do_write.ensures.exact

pub returns-clause-time : goal.returns-clause-time
returns-clause-time c tells = write_time c.args.place c.args.bytes.now c.args.self.now c.do_write.new.self c.do_write.result c.do_write.ensures.sound c.do_write.ensures.exact

pub returns-clause-cause : goal.returns-clause-cause
returns-clause-cause c = write_cause c.args.place c.args.bytes.now c.args.self.now c.do_write.new.self c.do_write.result c.do_write.ensures.sound c.do_write.ensures.exact

pub returns-clause-leads : goal.returns-clause-leads
returns-clause-leads c = write_leads c.args.place c.args.bytes.now c.args.self.now c.do_write.new.self c.do_write.result c.do_write.ensures.sound c.do_write.ensures.limit c.do_write.ensures.exact
