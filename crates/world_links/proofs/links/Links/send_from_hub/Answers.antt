use Rattle.std.proofs.Common.{◌∙◌, ℕ, List, sym, ap}
use Rattle.std.specs.List.{position_from}
use Rattle.world_steps.specs.declared.event.Direction.TheVariants.{ToLeaf}
use Rattle.world_links.specs.States.{LinkState, is_named, joined_in, sites_in}
use Rattle.world_links.proofs.Sending.{hub-sends, hub-drops, pushed-same}
use Rattle.world_links.proofs.links.Links.send_from_hub.Goals as goal

pub returns-in_default-clause-ok : goal.returns-in_default-clause-ok
returns-in_default-clause-ok c = hub-drops c.args.self.now c.args.packet
    (ap (λ (n : List ℕ). position_from (is_named n) 0 c.args.self.now) (sym c.destination.ensures) ∙ (sym c.place_of.ensures.value ∙ c.in_default.is))

pub returns-clause-ok : goal.returns-clause-ok
returns-clause-ok c =
    ap sites_in c.in_ok-push_if_joined.ensures.ok
    ∙ hub-sends c.args.self.now c.args.packet c.in-Some.place c.place_of.ensures.apart
    (ap (λ (n : List ℕ). position_from (is_named n) 0 c.args.self.now) (sym c.destination.ensures) ∙ (sym c.place_of.ensures.value ∙ c.in-Some.is))

pub returns-clause-joined : goal.returns-clause-joined
returns-clause-joined c name =
    ap (λ (ls : List LinkState). joined_in ls name) c.in_ok-push_if_joined.ensures.ok
    ∙ pushed-same c.args.self.now c.in-Some.place ToLeaf c.args.packet c.in-Some.ensures.within name
