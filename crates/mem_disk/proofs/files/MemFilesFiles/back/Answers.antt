use Rattle.std.proofs.Common.{◌≡◌, ◌==◌, ◌∙◌, subst, sym, ap, arith, rules}
use Rattle.std.specs.Prelude.{if◌then◌else◌}
use Rattle.leaf_edges.specs.Files.{GoesBack}
use Rattle.leaf_edges.specs.Memory.{risen}
use Rattle.mem_disk.specs.Stores.{Store, store_place, store_is_out, store_handed, store_text}
use Rattle.mem_disk.proofs.StoreCalls.{back_goes}
use Rattle.mem_disk.proofs.StoreLeads.{back_leads, back_exactly}
use Rattle.mem_disk.proofs.files.MemFilesFiles.back.Goals as goal

pub returns-then-is_faulty-clause-goes : goal.returns-then-is_faulty-clause-goes
returns-then-is_faulty-clause-goes c tells =
    let old = c.args.self.now in
    let name = c.args.name.now in
    let (at, first, same) = c.put_back.ensures.state in
    let both = c.count_disk_fault.ensures ∙ ap (λ (s : Store). record s { disk_fault_count = risen s.disk_fault_count }) same in
    subst (GoesBack store_place store_is_out store_handed store_text name c.args.disk old) (sym both) (back_goes old name at first c.args.disk (risen old.disk_fault_count))

pub returns-else-is_faulty-clause-goes : goal.returns-else-is_faulty-clause-goes
returns-else-is_faulty-clause-goes c tells =
    let old = c.args.self.now in
    let name = c.args.name.now in
    let (at, first, same) = c.put_back.ensures.state in
    subst (GoesBack store_place store_is_out store_handed store_text name c.args.disk old) (sym same) (back_goes old name at first c.args.disk old.disk_fault_count)

pub returns-then-is_faulty-clause-leads : goal.returns-then-is_faulty-clause-leads
returns-then-is_faulty-clause-leads c =
    let old = c.args.self.now in
    let (at, first, same) = c.put_back.ensures.state in
    let both = c.count_disk_fault.ensures ∙ ap (λ (s : Store). record s { disk_fault_count = risen s.disk_fault_count }) same in
    back_leads old c.put_back.ensures.sound at c.args.name.now c.args.disk (risen old.disk_fault_count) c.count_disk_fault.new.self (omega (arith, c.put_back.ensures.sound.disk_faults)) both

pub returns-then-is_faulty-clause-exact : goal.returns-then-is_faulty-clause-exact
returns-then-is_faulty-clause-exact c =
    let old = c.args.self.now in
    let (at, first, same) = c.put_back.ensures.state in
    let both = c.count_disk_fault.ensures ∙ ap (λ (s : Store). record s { disk_fault_count = risen s.disk_fault_count }) same in
    let counts : risen old.disk_fault_count ≡ (if c.args.disk.fault_count == 0 then old.disk_fault_count else risen old.disk_fault_count) = search rules in
    back_exactly old c.count_disk_fault.new.self c.args.name.now c.args.disk at (risen old.disk_fault_count) first counts both

pub returns-else-is_faulty-clause-leads : goal.returns-else-is_faulty-clause-leads
returns-else-is_faulty-clause-leads c =
    let old = c.args.self.now in
    let (at, first, same) = c.put_back.ensures.state in
    back_leads old c.put_back.ensures.sound at c.args.name.now c.args.disk old.disk_fault_count c.put_back.new.self (omega arith) same

pub returns-else-is_faulty-clause-exact : goal.returns-else-is_faulty-clause-exact
returns-else-is_faulty-clause-exact c =
    let old = c.args.self.now in
    let (at, first, same) = c.put_back.ensures.state in
    let counts : old.disk_fault_count ≡ (if c.args.disk.fault_count == 0 then old.disk_fault_count else risen old.disk_fault_count) = search rules in
    back_exactly old c.put_back.new.self c.args.name.now c.args.disk at old.disk_fault_count first counts same
