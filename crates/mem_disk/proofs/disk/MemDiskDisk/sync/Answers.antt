use Rattle.mem_disk.proofs.DiskCalls.{sync_seen, sync_durable, sync_dirt, sync_crash, sync_time, sync_cause}
use Rattle.mem_disk.proofs.Leads.{sync_leads}
use Rattle.mem_disk.proofs.disk.MemDiskDisk.sync.Goals as goal

pub returns-clause-content : goal.returns-clause-content
returns-clause-content c tells = sync_seen c.args.self.now c.do_sync.new.self c.do_sync.result c.do_sync.ensures.sound c.do_sync.ensures.exact

pub returns-clause-durable : goal.returns-clause-durable
returns-clause-durable c tells = sync_durable c.args.self.now c.do_sync.new.self c.do_sync.result c.do_sync.ensures.sound c.do_sync.ensures.exact

pub returns-clause-dirt : goal.returns-clause-dirt
returns-clause-dirt c tells = sync_dirt c.args.self.now c.do_sync.new.self c.do_sync.result c.do_sync.ensures.sound c.do_sync.ensures.exact

pub returns-clause-crash : goal.returns-clause-crash
returns-clause-crash c tells = sync_crash c.args.self.now c.do_sync.new.self c.do_sync.result c.do_sync.ensures.sound c.do_sync.ensures.exact

pub returns-clause-time : goal.returns-clause-time
returns-clause-time c tells = sync_time c.args.self.now c.do_sync.new.self c.do_sync.result c.do_sync.ensures.sound c.do_sync.ensures.exact

pub returns-clause-cause : goal.returns-clause-cause
returns-clause-cause c = sync_cause c.args.self.now c.do_sync.new.self c.do_sync.result c.do_sync.ensures.sound c.do_sync.ensures.exact

pub returns-clause-leads : goal.returns-clause-leads
returns-clause-leads c = sync_leads c.args.self.now c.do_sync.new.self c.do_sync.result c.do_sync.ensures.sound c.do_sync.ensures.exact
