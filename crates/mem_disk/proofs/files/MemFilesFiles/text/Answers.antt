use Rattle.std.proofs.Common.{◌≡◌, ◌∙◌, true, sym, rules}
use Rattle.mem_disk.specs.Stores.{store_text, is_too_long}
use Rattle.mem_disk.specs.StoreLeading.{store_leads_here}
use Rattle.mem_disk.proofs.StoreLeads.{counted_leads, listed_leads, long_leads}
use Rattle.mem_disk.proofs.files.MemFilesFiles.text.Goals as goal

pub returns-then-is_listed-clause-leads : goal.returns-then-is_listed-clause-leads
returns-then-is_listed-clause-leads c = listed_leads c.args.self.now c.is_listed.ensures.sound (sym c.is_listed.ensures.value ∙ c.if-is_listed.true) c.fail.new.self c.fail.ensures.state

pub returns-in-None-clause-leads : goal.returns-in-None-clause-leads
returns-in-None-clause-leads c = counted_leads c.args.self.now c.is_listed.ensures.sound c.count.new.self c.count.ensures

pub returns-in-Some-clause-leads : goal.returns-in-Some-clause-leads
returns-in-Some-clause-leads c =
    let long : is_too_long (store_text c.args.self.now c.args.name.now) ≡ true = search rules in
    long_leads c.args.self.now c.is_listed.ensures.sound c.args.name.now long c.fail-in-Some.new.self c.fail-in-Some.ensures.state

pub returns-in-Ok-clause-leads : goal.returns-in-Ok-clause-leads
returns-in-Ok-clause-leads c = counted_leads c.args.self.now c.is_listed.ensures.sound c.count-in-Ok.new.self c.count-in-Ok.ensures

pub returns-in-Err-clause-leads : goal.returns-in-Err-clause-leads
returns-in-Err-clause-leads c = store_leads_here c.args.self.now
