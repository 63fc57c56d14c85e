use Rattle.std.proofs.Common.{◌≡◌, ℕ, List, length, refl, sym, ap, ◌∙◌, subst}
use Rattle.world_links.specs.States.{LinkState, on_channel, channel_at}
use Rattle.world_steps.specs.Links.{Channel, after_carry, arriving}
use Rattle.world_links.proofs.Places.{apart-there, changed-there, channel-there, name-seen, up-seen, ok-then, if-ok-then, name-after}
use Rattle.world_links.proofs.links.Links.losses.Goals as goal

pub returns : goal.returns
returns c = c.losses.ensures ∙ ap (λ (ch : Channel). ch.losses) (sym (channel-there c.args.self.now c.self.inside.links.items c.args.place c.args.direction c.index-link.result.now c.self.view_is c.self.invariant c.requires c.index-link.ensures))
