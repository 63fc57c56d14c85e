use Rattle.std.proofs.Common.{ap, arith, drop, length, length-append}
use Rattle.std.proofs.KnownBytes.{starts_with_rest}
use Rattle.leaf_edges.proofs.dir_files.add_bytes.Goals as goal

pub returns-in-Ok-clause-ok : goal.returns-in-Ok-clause-ok
returns-in-Ok-clause-ok c =
    let old = c.args.buf.now.items in
    let new = c.read_to_end.new.buf.items in
    let added = drop (length old) new in
    let whole = starts_with_rest new old c.read_to_end.ensures.appends in
    (added, whole, omega (arith, ap length whole, length-append old added, c.in-Ok.ensures.ok))
