use Rattle.std.proofs.Common.{sym, None, Some}
use Rattle.std.specs.FinMap.{get}
use Rattle.shard_streams.proofs.Names.{at_name, counts_held, none_counts}
use Rattle.shard_streams.proofs.streams.Streams.incarnation.Goals as goal

pub returns-in-None : goal.returns-in-None
returns-in-None c = λ i h.
    none_counts i c.args.name.now (at_name c.args.self.now.replay i c.args.name.now None h (rw (← c.bytes.ensures.value) (sym c.in-None.ensures.value)))

pub returns-in-Some : goal.returns-in-Some
returns-in-Some c = λ i h.
    counts_held c.args.name.now c.in-Some.known.now (get i.names c.args.name.now) (at_name c.args.self.now.replay i c.args.name.now (Some c.in-Some.known.now) h (rw (← c.bytes.ensures.value) (sym c.in-Some.ensures.value)))
