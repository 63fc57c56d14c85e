use Rattle.nats_text.proofs.WrittenBlocks.{other_name, other_value, same_end}
use Rattle.nats_text.proofs.header_lines.is_written_line.Goals as goal

pub returns-in_default : goal.returns-in_default
returns-in_default c = other_name c.args.line.now c.args.name.now c.args.value.now c.in_default.ensures.cases

pub returns-in_default-strip_prefix-2 : goal.returns-in_default-strip_prefix-2
returns-in_default-strip_prefix-2 c =
    let colon = c.in-Some.ensures.cases in
    let behind = rw c.as_slice.ensures at c.in-Some-strip_prefix.ensures.cases in
    other_value c.args.line.now c.args.name.now c.args.value.now c.in-Some.behind_name.now c.in-Some-strip_prefix.behind_colon.now colon.0 colon.1 behind.0 behind.1 c.in_default-strip_prefix-2.ensures.cases

pub returns : goal.returns
returns c =
    let colon = c.in-Some.ensures.cases in
    let behind = rw c.as_slice.ensures at c.in-Some-strip_prefix.ensures.cases in
    let end = c.in-Some-strip_prefix-2.ensures.cases in
    rw (c.eq.ensures, c.as_slice-2.ensures) (same_end c.args.line.now c.args.name.now c.args.value.now c.in-Some.behind_name.now c.in-Some-strip_prefix.behind_colon.now c.in-Some-strip_prefix-2.end.now colon.0 colon.1 behind.0 behind.1 end.0 end.1)
