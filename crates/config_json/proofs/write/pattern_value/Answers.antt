use Rattle.std.proofs.Common.{sym, subst, IsUtf8, length, ◌&&◌}
use Rattle.std.specs.Prelude.{nat_le}
use Rattle.std.specs.Str.{is_utf8}
use Rattle.std.proofs.lemmas.Bool.{and_parts}
use Rattle.std.proofs.lemmas.Str.{IsUtf8-from_is_utf8}
use Rattle.nats_text.specs.Text.{tokens, are_pattern_tokens}
use Rattle.config_json.proofs.write.pattern_value.Goals as goal

pub as_text-requires : goal.as_text-requires
as_text-requires c =
    let t = c.args.pattern.now in
    let p = and_parts (nat_le (length t) 1024 && is_utf8 t) (are_pattern_tokens (tokens t)) c.bytes.ensures.legal in
    let q = and_parts (nat_le (length t) 1024) (is_utf8 t) p.0 in
    subst (λ s. IsUtf8 s) (sym c.bytes.ensures.value) (IsUtf8-from_is_utf8 t q.1)
