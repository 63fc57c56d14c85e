use Rattle.std.proofs.Common.{◌∙◌, List, subst, sym, ap, arith}
use Rattle.mem_disk.specs.Stores.{Store, Slot, IsFirstOf, has_name}
use Rattle.mem_disk.proofs.Slots.{first_within}
use Rattle.mem_disk.proofs.StoreCalls.{not_out}
use Rattle.mem_disk.proofs.files.MemFiles.put_back.Goals as goal

pub shelve-requires : goal.shelve-requires
shelve-requires c =
    let first = subst (λ (l : List Slot). IsFirstOf l c.args.name.now c.in-Some.at) c.deref.ensures.value c.in-Some.ensures in
    omega (arith, first_within c.self.inside.disks.items c.args.name.now c.in-Some.at first)

-- a name whose disk is out is there
pub returns-in-None-clause-state : goal.returns-in-None-clause-state
returns-in-None-clause-state c =
    let name = c.args.name.now in
    let slots = c.deref.ensures.value ∙ ap (λ (s : Store). s.slots) c.self.view_is in
    let absent = sym (ap (λ (l : List Slot). has_name l name) slots) ∙ c.in-None.ensures in
    absurd (not_out c.args.self.now name absent c.requires)
