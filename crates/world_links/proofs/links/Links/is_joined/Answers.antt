use Rattle.std.proofs.Common.{◌≡◌, ℕ, List, length, refl, sym, ap, ◌∙◌, subst}
use Rattle.world_links.specs.States.{LinkState, on_channel, channel_at}
use Rattle.world_steps.specs.Links.{Channel, after_carry, arriving}
use Rattle.world_links.proofs.Places.{apart-there, changed-there, channel-there, name-seen, up-seen, ok-then, if-ok-then, name-after}
use Rattle.world_links.proofs.links.Links.is_joined.Goals as goal

pub returns : goal.returns
returns c = c.is_joined.ensures ∙ sym (up-seen c.args.self.now c.self.inside.links.items c.args.place c.index-link.result.now c.self.view_is c.requires c.index-link.ensures)
