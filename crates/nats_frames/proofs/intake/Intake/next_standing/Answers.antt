use Rattle.nats_frames.specs.Stream.{first_by}
use Rattle.nats_frames.proofs.Feeds.{gives_more, is_waiting, front_within, told_waits}
use Rattle.nats_frames.proofs.intake.Intake.next_standing.Goals as goal

pub returns-then-waits-clause-gives : goal.returns-then-waits-clause-gives
returns-then-waits-clause-gives g c =
    let p = g.P.Protocol in
    let it = c.args.self.now in
    gives_more (first_by p.most (p.said c.args.protocol.now) p.framed) it.pending c.requires.standing
    (is_waiting (first_by p.most (p.said c.args.protocol.now) p.framed) it.pending.rest it.wanted c.requires.waits (c.waits.ensures.few c.if-waits.true))

pub told-requires-clause-within : goal.told-requires-clause-within
told-requires-clause-within g c =
    let p = g.P.Protocol in
    front_within p.most (p.said c.args.protocol.now) p.framed c.look.new.self.pending.rest c.in_ok-front.front c.in_ok-front.ensures

pub returns-clause-waits : goal.returns-clause-waits
returns-clause-waits g c =
    let p = g.P.Protocol in
    told_waits p.most (p.said c.args.protocol.now) p.framed c.look.new.self.pending c.told.new.self.pending c.in_ok-front.front c.told.new.self.wanted c.in_ok-front.ensures c.told.ensures.left c.told.ensures.wanted
