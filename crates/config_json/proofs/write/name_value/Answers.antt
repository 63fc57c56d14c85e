use Rattle.std.proofs.Common.{sym, subst, IsUtf8}
use Rattle.config_json.proofs.Names.{name_utf8}
use Rattle.config_json.proofs.write.name_value.Goals as goal

pub as_text-requires : goal.as_text-requires
as_text-requires c = subst (λ t. IsUtf8 t) (sym c.bytes.ensures.value) (name_utf8 c.args.name.now c.bytes.ensures.legal)
