use Rattle.std.proofs.Common.{◌≡◌, refl, sym, ap, None, Some}
use Rattle.log_replay.specs.Replays.{found}
use Rattle.log_replay.proofs.MapSteps.{writes}
use Rattle.shard_streams.proofs.Making.{remove_holds, remove_none}
use Rattle.shard_streams.proofs.streams.Streams.commit_remove.Goals as goal

pub returns-in-None : goal.returns-in-None
returns-in-None c = λ i h.
    let here : found c.args.name.now c.args.self.now.replay.names ≡ None = rw (← c.bytes.ensures.value) (sym c.in-None.ensures.value) in
    remove_none c.args.self.now.replay _ i c.args.name.now h here refl (λ q. ap (found q) c.get_mut.follows.holds-at-none)

pub returns-in-Some : goal.returns-in-Some
returns-in-Some c = λ i h.
    let here : found c.args.name.now c.args.self.now.replay.names ≡ Some c.in-Some.known.now = rw (← c.bytes.ensures.value) (sym c.in-Some.ensures.value) in
    remove_holds c.args.self.now.replay _ i c.args.name.now c.in-Some.known.now c.remove_in.new.known h here refl
    (writes c.args.name.now c.bytes.result.now c.in-Some.known.now c.remove_in.new.known c.args.self.now.replay.names (c.get_mut.follows.lender c.remove_in.new.known) c.bytes.ensures.value here (c.get_mut.follows.holds c.remove_in.new.known))
    c.remove_in.ensures.incarnation c.remove_in.ensures.stream
