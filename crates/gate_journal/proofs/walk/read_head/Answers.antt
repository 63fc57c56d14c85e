use Rattle.std.proofs.Common.{◌∙◌, sym, take, drop, get_or, rules, arith}
use Rattle.std.specs.Cmp.Lexicographic.{same_text}
use Rattle.gate_journal.proofs.Reading.{head_read, not_other}
use Rattle.gate_journal.proofs.walk.read_head.Goals as goal

pub returns-clause-answer : goal.returns-clause-answer
returns-clause-answer g c = λ tells.
    let s = g.D.Disk.seen c.args.disk.now in
    let begins = same_text (take 8 c.fill.new.buf) c.as_slice.result.now (not_other _ (sym c.ne.ensures ∙ c.if-ne.false)) ∙ c.as_slice.ensures in (
      get_or c.fill.new.buf 8 0,
      drop 17 s,
      head_read s c.fill.new.buf c.copy_from_slice.new.self c.read_u64.result (c.in_ok-fill.ensures.bytes tells) (omega (arith, c.requires tells, c.if-len-le-HEAD_LEN.false)) begins c.copy_from_slice.ensures.after c.read_u64.ensures.spelling,
      search rules,
      search rules,
      search rules,
    )
