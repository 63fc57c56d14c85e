use Rattle.std.proofs.Common.{◌≡◌, ◌∙◌, [], Some, drop, sym, ap, arith}
use Rattle.std.specs.Prelude.{bytes_eq}
use Rattle.std.proofs.Math.ListN.{drop_of_length-le}
use Rattle.mem_disk.specs.Stores.{text_in}
use Rattle.mem_disk.proofs.Slots.{text_here, text_further}
use Rattle.mem_disk.proofs.files.find_text.Goals as goal

pub returns-then-eq : goal.returns-then-eq
returns-then-eq c =
    let name = c.args.name.now in
    ap (λ b. Some b) c.bytes.ensures
    ∙ sym (text_here c.args.texts.now name c.loop-text.text-index c.text-item.result c.loop-text-test.true c.text-item.is (ap (λ n. bytes_eq n name) (sym c.name.ensures) ∙ sym c.eq.ensures ∙ c.if-eq.true))
    ∙ c.loop-text.invariant

pub loop-text-preserved : goal.loop-text-preserved
loop-text-preserved c =
    let name = c.args.name.now in
    text_further c.args.texts.now name c.loop-text.text-index c.text-item.result c.loop-text-test.true c.text-item.is (ap (λ n. bytes_eq n name) (sym c.name.ensures) ∙ sym c.eq.ensures ∙ c.if-eq.false)
    ∙ c.loop-text.invariant

pub returns : goal.returns
returns c =
    let none : drop c.loop-text.text-index c.args.texts.now ≡ [] = drop_of_length-le c.args.texts.now {i = c.loop-text.text-index} (omega arith) in
    sym (ap (λ l. text_in l c.args.name.now) none) ∙ c.loop-text.invariant
