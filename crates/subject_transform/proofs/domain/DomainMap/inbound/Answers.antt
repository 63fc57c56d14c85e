use Rattle.std.proofs.Common.{◌≡◌, ◌∙◌, ◌==◌, ◌++◌, length, drop, codes, true, false, IfOk, ap, sym, refl, cond}
use Rattle.std.specs.List.{starts_with}
use Rattle.nats_text.specs.Text.{is_subject}
use Rattle.subject_transform.specs.Domains.{domain_prefix, inbound}
use Rattle.subject_transform.proofs.Inbound.{inbound_subject}
use Rattle.subject_transform.proofs.domain.DomainMap.inbound.Goals as goal

pub own_subject-requires : goal.own_subject-requires
own_subject-requires c =
    let found = c.in-Some.ensures in
    let legal : is_subject c.bytes.result.now ≡ true = ap (λ t. is_subject t) c.bytes.ensures.value ∙ c.bytes.ensures.legal in
    ap (λ r. is_subject (codes "$JS.API." ++ r)) found.1 ∙ inbound_subject c.args.self.now c.bytes.result.now legal found.0
