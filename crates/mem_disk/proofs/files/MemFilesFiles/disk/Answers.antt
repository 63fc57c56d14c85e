use Rattle.std.proofs.Common.{◌∙◌, List, subst, sym, ap}
use Rattle.mem_disk.specs.Stores.{Store, Slot, IsFirstOf, has_name}
use Rattle.mem_disk.proofs.StoreCalls.{lent_disk, lent_goes, made_disk, made_goes, not_there}
use Rattle.mem_disk.specs.StoreLeading.{StoreLeadsTo, store_leads_here}
use Rattle.mem_disk.proofs.StoreLeads.{counted_leads, listed_leads, lent_leads, made_leads, lent_exactly}
use Rattle.mem_disk.proofs.files.MemFilesFiles.disk.Goals as goal

pub returns-in-Ok-clause-disk : goal.returns-in-Ok-clause-disk
returns-in-Ok-clause-disk c tells =
    let name = c.args.name.now in
    let slots = c.deref.ensures.value ∙ ap (λ (s : Store). s.slots) c.self.view_is in
    let first = subst (λ (l : List Slot). IsFirstOf l name c.in-Some.at) slots c.in-Some.ensures in
    lent_disk c.args.self.now name c.in-Some.at first c.args.make c.in-Ok.disk (c.requires tells) c.in-Ok.ensures.disk

pub returns-in-Ok-clause-goes : goal.returns-in-Ok-clause-goes
returns-in-Ok-clause-goes c tells =
    let name = c.args.name.now in
    let slots = c.deref.ensures.value ∙ ap (λ (s : Store). s.slots) c.self.view_is in
    let first = subst (λ (l : List Slot). IsFirstOf l name c.in-Some.at) slots c.in-Some.ensures in
    lent_goes c.args.self.now name c.in-Some.at first c.hand_out.new.self c.in-Ok.disk (c.requires tells) c.in-Ok.ensures.disk c.in-Ok.ensures.ok

pub returns-in-Ok-hand_out_new-clause-disk : goal.returns-in-Ok-hand_out_new-clause-disk
returns-in-Ok-hand_out_new-clause-disk c tells =
    let name = c.args.name.now in
    let slots = c.deref.ensures.value ∙ ap (λ (s : Store). s.slots) c.self.view_is in
    let absent = sym (ap (λ (l : List Slot). has_name l name) slots) ∙ c.in-None.ensures in
    made_disk c.args.self.now name absent c.args.make c.in-Ok-hand_out_new.disk c.if-make.true c.in-Ok-hand_out_new.ensures.disk

pub returns-in-Ok-hand_out_new-clause-goes : goal.returns-in-Ok-hand_out_new-clause-goes
returns-in-Ok-hand_out_new-clause-goes c tells =
    let name = c.args.name.now in
    let slots = c.deref.ensures.value ∙ ap (λ (s : Store). s.slots) c.self.view_is in
    let absent = sym (ap (λ (l : List Slot). has_name l name) slots) ∙ c.in-None.ensures in
    made_goes c.args.self.now name absent c.hand_out_new.new.self c.in-Ok-hand_out_new.ensures.ok

pub returns-in-None-2-clause-disk : goal.returns-in-None-2-clause-disk
returns-in-None-2-clause-disk c tells =
    let name = c.args.name.now in
    let slots = c.deref.ensures.value ∙ ap (λ (s : Store). s.slots) c.self.view_is in
    let absent = sym (ap (λ (l : List Slot). has_name l name) slots) ∙ c.in-None.ensures in (
      not_there c.args.self.now name absent,
      c.if-make.false,
    )

pub returns-then-is_listed-clause-leads : goal.returns-then-is_listed-clause-leads
returns-then-is_listed-clause-leads c = listed_leads c.args.self.now c.is_listed.ensures.sound (sym c.is_listed.ensures.value ∙ c.if-is_listed.true) c.fail.new.self c.fail.ensures.state

pub returns-in-Ok-clause-leads : goal.returns-in-Ok-clause-leads
returns-in-Ok-clause-leads c = lent_leads c.args.self.now c.is_listed.ensures.sound c.in-Some.at c.args.name.now c.hand_out.new.self c.in-Ok.ensures.ok

pub returns-in-Ok-clause-exact : goal.returns-in-Ok-clause-exact
returns-in-Ok-clause-exact c =
    let slots = c.deref.ensures.value ∙ ap (λ (s : Store). s.slots) c.self.view_is in
    let first = subst (λ (l : List Slot). IsFirstOf l c.args.name.now c.in-Some.at) slots c.in-Some.ensures in
    lent_exactly c.args.self.now c.hand_out.new.self c.args.name.now c.args.make c.in-Some.at c.in-Ok.disk first (sym c.is_listed.ensures.value ∙ c.if-is_listed.false) c.in-Ok.ensures.disk c.in-Ok.ensures.ok

pub returns-in-Err-clause-leads : goal.returns-in-Err-clause-leads
returns-in-Err-clause-leads c = subst (StoreLeadsTo c.args.self.now) (sym c.in-Err.ensures.err) (store_leads_here c.args.self.now)

pub returns-in-Ok-hand_out_new-clause-leads : goal.returns-in-Ok-hand_out_new-clause-leads
returns-in-Ok-hand_out_new-clause-leads c = made_leads c.args.self.now c.is_listed.ensures.sound c.args.name.now c.hand_out_new.new.self c.in-Ok-hand_out_new.ensures.ok

pub returns-in-Err-hand_out_new-clause-leads : goal.returns-in-Err-hand_out_new-clause-leads
returns-in-Err-hand_out_new-clause-leads c = subst (StoreLeadsTo c.args.self.now) (sym c.in-Err-hand_out_new.ensures.err) (store_leads_here c.args.self.now)

pub returns-in-None-2-clause-leads : goal.returns-in-None-2-clause-leads
returns-in-None-2-clause-leads c = counted_leads c.args.self.now c.is_listed.ensures.sound c.count.new.self c.count.ensures
