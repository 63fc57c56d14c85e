use Rattle.std.proofs.Common.{Some, None, sym, ap, ◌∙◌}
use Rattle.std.specs.Str.{is_utf8}
use Rattle.std.proofs.lemmas.Bool.{cond-true}
use Rattle.std.proofs.lemmas.Str.{is_utf8-from_IsUtf8}
use Rattle.nats_frames.proofs.members.copied_text.Goals as goal

pub returns : goal.returns
returns c =
    let t = c.args.text.now in
    ap (λ b. Some b) (c.in_ok-from_slice.ensures ∙ c.as_bytes.ensures.value) ∙ sym (cond-true (is_utf8 t) (Some t) None (is_utf8-from_IsUtf8 t c.utf8.text))
