use Rattle.std.proofs.Common.{◌≡◌, true, false, cond, sym, ap, ◌∙◌}
use Rattle.world_steps.specs.Links.{with_frame}
use Rattle.world_links.specs.States.{LinkState, on_channel}
use Rattle.world_links.proofs.Places.{apart-there, same-names}
use Rattle.world_links.proofs.Sending.{pushed-in, pushed-up-is}
use Rattle.world_links.proofs.links.Links.push_if_joined.Goals as goal

pub invariant_of-self-then-is_joined : goal.invariant_of-self-then-is_joined
invariant_of-self-then-is_joined c = apart-there c.args.self.now c.self.inside.links.items c.args.place c.index_mut-link.result.now c.push.new.self c.self.view_is c.self.invariant c.requires c.index_mut-link.ensures.value
    (ap (λ (l : LinkState). l.site.name) c.in_ok-push.ensures.ok ∙ same-names c.args.direction (with_frame c.args.packet) c.index_mut-link.result.now)

pub returns-then-is_joined-clause-ok : goal.returns-then-is_joined-clause-ok
returns-then-is_joined-clause-ok c =
    let l = c.index_mut-link.result.now in
    let up : c.is_joined.result ≡ true = c.if-is_joined.true in
    pushed-in c.args.self.now c.self.inside.links.items c.args.place c.args.direction c.args.packet l c.push.new.self c.self.view_is c.requires c.index_mut-link.ensures.value
    (c.in_ok-push.ensures.ok ∙ sym (pushed-up-is c.args.direction c.args.packet l c.is_joined.result c.is_joined.ensures ∙ ap (λ b. cond b (on_channel c.args.direction (with_frame c.args.packet) l) l) up))

pub returns-clause-ok : goal.returns-clause-ok
returns-clause-ok c =
    let l = c.index_mut-link.result.now in
    let down : c.is_joined.result ≡ false = c.if-is_joined.false in
    pushed-in c.args.self.now c.self.inside.links.items c.args.place c.args.direction c.args.packet l l c.self.view_is c.requires c.index_mut-link.ensures.value
    (sym (pushed-up-is c.args.direction c.args.packet l c.is_joined.result c.is_joined.ensures ∙ ap (λ b. cond b (on_channel c.args.direction (with_frame c.args.packet) l) l) down))
