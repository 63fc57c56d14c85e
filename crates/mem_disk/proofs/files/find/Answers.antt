use Rattle.std.proofs.Common.{◌∙◌, sym, ap, arith}
use Rattle.std.specs.Prelude.{bytes_eq}
use Rattle.mem_disk.proofs.Slots.{first_here, none_further, none_at_all}
use Rattle.mem_disk.proofs.files.find.Goals as goal

pub returns-then-eq : goal.returns-then-eq
returns-then-eq c =
    let name = c.args.name.now in
    first_here c.args.disks.now name c.loop-at.at c.index-disks-at.result c.loop-at.invariant c.loop-at-test.true c.index-disks-at.is
    (ap (λ n. bytes_eq n name) (sym c.name.ensures) ∙ sym c.eq.ensures ∙ c.if-eq.true)

pub loop-at-preserved : goal.loop-at-preserved
loop-at-preserved c =
    let name = c.args.name.now in
    none_further c.args.disks.now name c.loop-at.at c.index-disks-at.result c.loop-at.invariant c.loop-at-test.true c.index-disks-at.is
    (ap (λ n. bytes_eq n name) (sym c.name.ensures) ∙ sym c.eq.ensures ∙ c.if-eq.false)

pub returns : goal.returns
returns c = none_at_all c.args.disks.now c.args.name.now c.loop-at.at c.loop-at.invariant (omega arith)
