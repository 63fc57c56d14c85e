use Rattle.std.proofs.Common.{◌≡◌, ◌∙◌, ℕ, sym, ap, arith}
use Rattle.world_steps.specs.Routes.{sent}
use Rattle.world_links.specs.States.{joined_in, name_at, sites_in}
use Rattle.world_links.proofs.Sending.{sent-by-hub, sent-by-leaf}
use Rattle.world_links.proofs.links.Links.send.Goals as goal

pub returns-then-place-eq0-clause-ok : goal.returns-then-place-eq0-clause-ok
returns-then-place-eq0-clause-ok c =
    let links = c.args.self.now in
    let first : c.args.place ≡ 0 = omega (arith, c.if-place-eq0.true) in
    c.in_ok-send_from_hub.ensures.ok
    ∙ sym (ap (λ (n : ℕ). sent (joined_in links) (name_at links n) c.args.packet (sites_in links)) first ∙ sent-by-hub links c.args.packet (omega (arith, c.requires)))

pub returns-clause-ok : goal.returns-clause-ok
returns-clause-ok c =
    c.in_ok-send_from_leaf.ensures.ok
    ∙ sym (sent-by-leaf c.args.self.now c.args.packet c.args.place c.in_ok-send_from_leaf.ensures.apart c.requires (omega (arith, c.if-place-eq0.false)))
