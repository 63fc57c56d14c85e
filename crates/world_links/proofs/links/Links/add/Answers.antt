use Rattle.std.proofs.Common.{◌≡◌, ℕ, List, sym, ap, subst}
use Rattle.std.specs.Prelude.{Contains}
use Rattle.world_steps.specs.Nets.{AreApart}
use Rattle.world_links.specs.States.{LinkState, names_in}
use Rattle.world_links.proofs.Places.{apart-added}
use Rattle.world_links.proofs.links.Links.add.Goals as goal

pub invariant_of-self-2 : goal.invariant_of-self-2
invariant_of-self-2 c =
    subst (λ (ls : List LinkState). AreApart (names_in ls)) (sym c.in_ok-push.ensures.items)
    (apart-added c.args.self.now c.self.inside.links.items c.new.result c.self.view_is c.self.invariant
    (λ q. c.requires (subst (Contains (names_in c.args.self.now)) (ap (λ (l : LinkState). l.site.name) c.new.ensures) q)))
