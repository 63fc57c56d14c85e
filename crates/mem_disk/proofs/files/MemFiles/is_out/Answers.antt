use Rattle.std.proofs.Common.{◌∙◌, List, subst, sym, ap, arith}
use Rattle.std.specs.Prelude.{is_none}
use Rattle.mem_disk.specs.Stores.{Store, Slot, IsFirstOf, has_name, store_is_out}
use Rattle.mem_disk.proofs.Slots.{first_within, first_out, disk_at-read, absent_out}
use Rattle.mem_disk.proofs.files.MemFiles.is_out.Goals as goal

pub index-requires : goal.index-requires
index-requires c =
    let first = subst (λ (l : List Slot). IsFirstOf l c.args.name.now c.in-Some.at) c.deref.ensures.value c.in-Some.ensures in
    omega (arith, first_within c.self.inside.disks.items c.args.name.now c.in-Some.at first)

pub returns-in-Some : goal.returns-in-Some
returns-in-Some c =
    let name = c.args.name.now in
    let slots = c.self.inside.disks.items in
    let first = subst (λ (l : List Slot). IsFirstOf l name c.in-Some.at) c.deref.ensures.value c.in-Some.ensures in
    let here = disk_at-read slots c.in-Some.at c.index.result.now (first_within slots name c.in-Some.at first) c.index.ensures in
    c.is_out.ensures ∙ ap is_none here ∙ sym (first_out slots name c.in-Some.at first) ∙ ap (λ (s : Store). store_is_out s name) c.self.view_is

pub returns-in-None : goal.returns-in-None
returns-in-None c =
    let name = c.args.name.now in
    let slots = c.self.inside.disks.items in
    let absent = sym (ap (λ (l : List Slot). has_name l name) c.deref.ensures.value) ∙ c.in-None.ensures in
    sym (absent_out slots name absent) ∙ ap (λ (s : Store). store_is_out s name) c.self.view_is
