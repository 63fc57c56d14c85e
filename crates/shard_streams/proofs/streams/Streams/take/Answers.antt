use Rattle.std.proofs.Common.{◌≡◌, refl, sym, subst, None, Some, Option}
use Rattle.log_replay.specs.declared.replay.Known.{Known}
use Rattle.log_replay.specs.Replays.{found}
use Rattle.log_replay.proofs.MapSteps.{writes}
use Rattle.shard_streams.specs.Places.{MayTake}
use Rattle.shard_streams.proofs.Making.{held_of, may_change, take_holds}
use Rattle.shard_streams.proofs.streams.Streams.take.Goals as goal

pub returns-in-None : goal.returns-in-None
returns-in-None c =
    let here : found c.args.name.now c.args.self.now.replay.names ≡ None = rw (← c.bytes.ensures.value) (sym c.in-None.ensures.value) in
    absurd (subst (λ (o : Option Known). MayTake c.args.entry o) here c.requires.place)

pub take_in-requires : goal.take_in-requires
take_in-requires c =
    let here : found c.args.name.now c.args.self.now.replay.names ≡ Some c.in-Some.known.now = rw (← c.bytes.ensures.value) (sym c.in-Some.ensures.value) in
    let f = c.requires.follows in
    record {
      place = subst (λ (o : Option Known). MayTake c.args.entry o) here c.requires.place;
      fits = (c.args.name.now, f.2.1, (held_of c.args.self.now.replay f.0 c.args.name.now c.in-Some.known.now f.2.1 f.1 here f.2.2).1, f.2.3);
    }

pub returns-in-Some-clause-held : goal.returns-in-Some-clause-held
returns-in-Some-clause-held c = λ i h may.
    let here : found c.args.name.now c.args.self.now.replay.names ≡ Some c.in-Some.known.now = rw (← c.bytes.ensures.value) (sym c.in-Some.ensures.value) in
    take_holds c.args.self.now.replay _ i c.args.name.now c.in-Some.known.now c.take_in.new.known c.args.entry h here refl
    (writes c.args.name.now c.bytes.result.now c.in-Some.known.now c.take_in.new.known c.args.self.now.replay.names (c.get_mut.follows.lender c.take_in.new.known) c.bytes.ensures.value here (c.get_mut.follows.holds c.take_in.new.known))
    c.take_in.ensures.incarnation c.take_in.ensures.stream may

pub returns-in-Some-clause-gone : goal.returns-in-Some-clause-gone
returns-in-Some-clause-gone c = λ i known h may lives.
    let here : found c.args.name.now c.args.self.now.replay.names ≡ Some c.in-Some.known.now = rw (← c.bytes.ensures.value) (sym c.in-Some.ensures.value) in
    c.take_in.ensures.gone c.args.name.now known (held_of c.args.self.now.replay i c.args.name.now c.in-Some.known.now known h here lives).1 (may_change i c.args.name.now c.args.entry known may lives)
