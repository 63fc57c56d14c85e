use Rattle.std.proofs.Common.{sym, subst, IsUtf8}
use Rattle.std.specs.Str.{is_utf8}
use Rattle.std.proofs.lemmas.Bool.{and_parts}
use Rattle.std.proofs.lemmas.Str.{IsUtf8-from_is_utf8}
use Rattle.config_json.proofs.write.mapping_value.Goals as goal

pub as_text-requires : goal.as_text-requires
as_text-requires c =
    let m = c.args.mapping.now in
    let p = and_parts (is_utf8 m.src) (is_utf8 m.dest) c.requires in
    subst (λ t. IsUtf8 t) (sym c.as_slice.ensures) (IsUtf8-from_is_utf8 m.dest p.1)

pub as_text-requires-2 : goal.as_text-requires-2
as_text-requires-2 c =
    let m = c.args.mapping.now in
    let p = and_parts (is_utf8 m.src) (is_utf8 m.dest) c.requires in
    subst (λ t. IsUtf8 t) (sym c.as_slice-2.ensures) (IsUtf8-from_is_utf8 m.src p.0)
