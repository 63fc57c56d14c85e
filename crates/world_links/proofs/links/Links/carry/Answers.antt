use Rattle.std.proofs.Common.{◌≡◌, ℕ, List, length, refl, sym, ap, ◌∙◌, subst}
use Rattle.world_links.specs.States.{LinkState, on_channel, channel_at}
use Rattle.world_steps.specs.Links.{Channel, after_carry, arriving}
use Rattle.world_links.proofs.Places.{apart-there, changed-there, channel-there, name-seen, up-seen, ok-then, if-ok-then, name-after}
use Rattle.world_links.proofs.links.Links.carry.Goals as goal

pub invariant_of-self : goal.invariant_of-self
invariant_of-self c = apart-there c.args.self.now c.self.inside.links.items c.args.place c.index_mut-link.result.now c.carry.new.self c.self.view_is c.self.invariant c.requires c.index_mut-link.ensures.value
    (name-after c.carry.result c.index_mut-link.result.now c.carry.new.self c.args.direction after_carry c.carry.ensures.ok c.carry.ensures.err)

pub returns-clause-ok : goal.returns-clause-ok
returns-clause-ok c = ok-then c.carry.result (λ is. changed-there c.args.self.now c.self.inside.links.items c.args.place c.args.direction after_carry c.index_mut-link.result.now c.carry.new.self c.self.view_is c.self.invariant c.requires c.index_mut-link.ensures.value is) c.carry.ensures.ok

pub returns-clause-frame : goal.returns-clause-frame
returns-clause-frame c = if-ok-then c.carry.result (λ frame e. e ∙ ap arriving (sym (channel-there c.args.self.now c.self.inside.links.items c.args.place c.args.direction c.index_mut-link.result.now c.self.view_is c.self.invariant c.requires c.index_mut-link.ensures.value))) c.carry.ensures.frame
