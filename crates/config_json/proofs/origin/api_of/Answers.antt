use Rattle.std.proofs.Common.{rules, ◌≡◌, sym, subst, IsUtf8}
use Rattle.config_json.specs.Origins.{api_of}
use Rattle.config_json.proofs.Written.{api_utf8}
use Rattle.config_json.proofs.origin.api_of.Goals as goal

pub returns-clause-text : goal.returns-clause-text
returns-clause-text c =
    let whole : c.from_vec.result ≡ api_of c.args.node.now = search rules in
    subst (λ t. IsUtf8 t) (sym whole) (api_utf8 c.args.node.now c.bytes.ensures.legal)
