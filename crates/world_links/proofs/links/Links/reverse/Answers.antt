use Rattle.std.proofs.Common.{◌≡◌, ℕ, ◌+◌, ◌≤◌, refl, sym, ap, ◌∙◌, subst}
use Rattle.world_links.specs.States.{LinkState, on_channel}
use Rattle.world_steps.specs.Links.{Channel, losing, repeating, turned_round, emptied, after_carry}
use Rattle.world_links.proofs.Places.{same-names, changed-there, apart-there, channel-there, turned-there}
use Rattle.world_links.proofs.links.Links.reverse.Goals as goal

pub invariant_of-self : goal.invariant_of-self
invariant_of-self c = apart-there c.args.self.now c.self.inside.links.items c.args.place c.index_mut-link.result.now c.reverse.new.self c.self.view_is c.self.invariant c.requires c.index_mut-link.ensures.value (ap (λ (l : LinkState). l.site.name) c.reverse.ensures ∙ same-names c.args.direction turned_round c.index_mut-link.result.now)

pub returns : goal.returns
returns c = changed-there c.args.self.now c.self.inside.links.items c.args.place c.args.direction turned_round c.index_mut-link.result.now c.reverse.new.self c.self.view_is c.self.invariant c.requires c.index_mut-link.ensures.value c.reverse.ensures
