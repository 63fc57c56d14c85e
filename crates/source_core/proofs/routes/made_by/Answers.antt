use Rattle.std.proofs.Common.{sym, ◌∙◌}
use Rattle.source_core.proofs.Words.{pattern-word, dest-word}
use Rattle.source_core.proofs.routes.made_by.Goals as goal

pub returns-clause-told : goal.returns-clause-told
returns-clause-told c = record {
  filter = rw (c.in_ok-from_slice.ensures, c.bytes.ensures.value) (pattern-word _ c.bytes.ensures.legal);
  dest = rw (c.in_ok-from_slice-2.ensures, c.dest.ensures) (dest-word c.args.transform.now.src c.args.transform.now.dest c.args.subject.now c.in-Some.made (sym c.in_ok-made.ensures ∙ c.in-Some.is));
}
