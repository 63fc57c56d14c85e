use Rattle.std.proofs.Common.{◌∙◌, List, ap}
use Rattle.world_steps.specs.declared.event.Direction.TheVariants.{ToHub}
use Rattle.world_links.specs.States.{LinkState, joined_in, sites_in}
use Rattle.world_links.proofs.Sending.{leaf-found, leaf-missing, pushed-same}
use Rattle.world_links.proofs.links.Links.send_from_leaf.Goals as goal

pub returns-then-is_none-clause-ok : goal.returns-then-is_none-clause-ok
returns-then-is_none-clause-ok c = leaf-missing c.args.self.now c.args.packet c.args.place c.destination.result.now c.place_of.result c.is_none.result c.destination.ensures c.place_of.ensures.value c.is_none.ensures c.if-is_none.true

pub returns-clause-ok : goal.returns-clause-ok
returns-clause-ok c =
    ap sites_in c.in_ok-push_if_joined.ensures.ok
    ∙ leaf-found c.args.self.now c.args.packet c.args.place c.destination.result.now c.place_of.result c.is_none.result c.place_of.ensures.apart c.requires c.destination.ensures c.place_of.ensures.value c.is_none.ensures c.if-is_none.false

pub returns-clause-joined : goal.returns-clause-joined
returns-clause-joined c name =
    ap (λ (ls : List LinkState). joined_in ls name) c.in_ok-push_if_joined.ensures.ok
    ∙ pushed-same c.args.self.now c.args.place ToHub c.args.packet c.requires name
