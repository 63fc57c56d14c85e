use Rattle.std.proofs.Common.{sym, None, Some}
use Rattle.shard_streams.proofs.Names.{at_name, none_lives, shows_live}
use Rattle.shard_streams.proofs.streams.Streams.live.Goals as goal

pub returns-in-None : goal.returns-in-None
returns-in-None c = λ i h.
    none_lives i c.args.name.now (at_name c.args.self.now.replay i c.args.name.now None h (rw (← c.bytes.ensures.value) (sym c.in-None.ensures.value)))

pub returns-in-Some : goal.returns-in-Some
returns-in-Some c = λ i h.
    let k = at_name c.args.self.now.replay i c.args.name.now (Some c.in-Some.known.now) h (rw (← c.bytes.ensures.value) (sym c.in-Some.ensures.value)) in
    rw c.as_ref.ensures.value (shows_live i c.args.name.now c.in-Some.known.now k)
