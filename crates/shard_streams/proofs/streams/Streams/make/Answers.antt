use Rattle.std.proofs.Common.{◌≡◌, refl, sym, subst, None, Some, Option}
use Rattle.log_replay.specs.declared.replay.Known.{Known}
use Rattle.log_replay.specs.Replays.{found}
use Rattle.log_replay.proofs.MapSteps.{writes}
use Rattle.shard_streams.specs.Places.{IsFree}
use Rattle.shard_streams.proofs.Making.{make_holds, makes_room}
use Rattle.shard_streams.proofs.streams.Streams.make.Goals as goal

pub returns-in-None : goal.returns-in-None
returns-in-None c = λ i config h named stands may.
    let here : found c.args.name.now c.args.self.now.replay.names ≡ None = rw (← c.bytes.ensures.value) (sym c.in-None.ensures.value) in
    absurd (subst (λ (o : Option Known). IsFree o) here c.requires.place)

pub make_in-requires : goal.make_in-requires
make_in-requires c =
    let here : found c.args.name.now c.args.self.now.replay.names ≡ Some c.in-Some.known.now = rw (← c.bytes.ensures.value) (sym c.in-Some.ensures.value) in
    let f = c.requires.follows in
    makes_room c.args.self.now.replay f.0 c.args.name.now c.in-Some.known.now c.args.standing.created f.1 f.2 here f.3 f.5

pub returns-in-Some : goal.returns-in-Some
returns-in-Some c = λ i config h named stands may.
    let here : found c.args.name.now c.args.self.now.replay.names ≡ Some c.in-Some.known.now = rw (← c.bytes.ensures.value) (sym c.in-Some.ensures.value) in
    make_holds c.args.self.now.replay _ i c.args.name.now c.in-Some.known.now c.make_in.new.known c.args.standing config h here refl
    (writes c.args.name.now c.bytes.result.now c.in-Some.known.now c.make_in.new.known c.args.self.now.replay.names (c.get_mut.follows.lender c.make_in.new.known) c.bytes.ensures.value here (c.get_mut.follows.holds c.make_in.new.known))
    c.make_in.ensures.incarnation c.make_in.ensures.stream named stands may
