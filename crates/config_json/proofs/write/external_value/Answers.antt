use Rattle.std.proofs.Common.{sym, subst, IsUtf8}
use Rattle.config_json.proofs.write.external_value.Goals as goal

pub as_text-requires : goal.as_text-requires
as_text-requires c = subst (λ t. IsUtf8 t) (sym c.as_slice.ensures) c.in_ok-api.ensures.text
