use Rattle.std.proofs.Common.{◌≡◌, ℕ, ◌+◌, ◌≤◌, refl, sym, ap, ◌∙◌, subst}
use Rattle.world_links.specs.States.{LinkState, on_channel}
use Rattle.world_steps.specs.Links.{Channel, losing, repeating, turned_round, emptied, after_carry}
use Rattle.world_links.proofs.Places.{same-names, changed-there, apart-there, channel-there, turned-there}
use Rattle.world_links.proofs.links.Links.repeat.Goals as goal

pub repeat-requires : goal.repeat-requires
repeat-requires c = subst (λ (ch : Channel). ch.repeats + c.args.count ≤ 4096) (channel-there c.args.self.now c.self.inside.links.items c.args.place c.args.direction c.index_mut-link.result.now c.self.view_is c.self.invariant c.requires.place c.index_mut-link.ensures.value) c.requires.room

pub invariant_of-self : goal.invariant_of-self
invariant_of-self c = apart-there c.args.self.now c.self.inside.links.items c.args.place c.index_mut-link.result.now c.repeat.new.self c.self.view_is c.self.invariant c.requires.place c.index_mut-link.ensures.value (ap (λ (l : LinkState). l.site.name) c.repeat.ensures ∙ same-names c.args.direction (repeating c.args.count) c.index_mut-link.result.now)

pub returns : goal.returns
returns c = changed-there c.args.self.now c.self.inside.links.items c.args.place c.args.direction (repeating c.args.count) c.index_mut-link.result.now c.repeat.new.self c.self.view_is c.self.invariant c.requires.place c.index_mut-link.ensures.value c.repeat.ensures
