use Rattle.std.proofs.Common.{◌≡◌, refl, sym, ap, Some}
use Rattle.log_replay.specs.Replays.{found}
use Rattle.log_replay.proofs.MapSteps.{writes}
use Rattle.shard_streams.proofs.Making.{found_same, keep_holds, takes_place}
use Rattle.shard_streams.proofs.streams.Streams.reserve.Goals as goal

pub returns-in-None-clause-held : goal.returns-in-None-clause-held
returns-in-None-clause-held c = λ i h. found_same c.args.self.now.replay _ i h refl (λ q. ap (found q) c.get_mut.follows.holds-at-none)

pub returns-in-Some-clause-held : goal.returns-in-Some-clause-held
returns-in-Some-clause-held c = λ i h.
    let here : found c.args.name.now c.args.self.now.replay.names ≡ Some c.in-Some.known.now = rw (← c.bytes.ensures.value) (sym c.in-Some.ensures.value) in
    keep_holds c.args.self.now.replay _ i c.args.name.now c.in-Some.known.now c.reserve_in.new.known h here refl
    (writes c.args.name.now c.bytes.result.now c.in-Some.known.now c.reserve_in.new.known c.args.self.now.replay.names (c.get_mut.follows.lender c.reserve_in.new.known) c.bytes.ensures.value here (c.get_mut.follows.holds c.reserve_in.new.known))
    c.reserve_in.ensures.incarnation c.reserve_in.ensures.stream c.reserve_in.ensures.same

pub returns-in-Some-clause-ok : goal.returns-in-Some-clause-ok
returns-in-Some-clause-ok c =
    let here : found c.args.name.now c.args.self.now.replay.names ≡ Some c.in-Some.known.now = rw (← c.bytes.ensures.value) (sym c.in-Some.ensures.value) in
    let f = c.requires in
    takes_place f.0 c.args.name.now c.args.self.now.replay (c.get_mut.follows.lender c.reserve_in.new.known) c.in-Some.known.now c.reserve_in.new.known c.args.entry.now c.reserve_in.result f.1 here f.2
    (writes c.args.name.now c.bytes.result.now c.in-Some.known.now c.reserve_in.new.known c.args.self.now.replay.names (c.get_mut.follows.lender c.reserve_in.new.known) c.bytes.ensures.value here (c.get_mut.follows.holds c.reserve_in.new.known))
    c.reserve_in.ensures.ok
