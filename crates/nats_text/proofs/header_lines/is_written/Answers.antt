use Rattle.std.proofs.Common.{◌-◌, length, sym, ◌∙◌}
use Rattle.nats_text.proofs.WrittenBlocks.{block_written}
use Rattle.nats_text.proofs.header_lines.is_written.Goals as goal

pub returns-then-is_some : goal.returns-then-is_some
returns-then-is_some c =
    let bytes = c.args.block.now in
    let lines = c.in-Some.lines.now in
    let other = rw c.as_slice.ensures at (sym c.eq.ensures ∙ c.if-eq.false) in
    c.are_written.ensures (length bytes - length lines)
    ∙ sym (block_written bytes c.in-Some.line.now lines c.status_of_line.result (sym c.is_empty.ensures ∙ c.if-is_empty.false) other c.in-Some.ensures.parts c.status_of_line.ensures (sym c.is_some.ensures ∙ c.if-is_some.true))
