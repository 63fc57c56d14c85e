use Rattle.shard_streams.proofs.halves.take_in.Goals as goal

pub returns-in-None : goal.returns-in-None
returns-in-None c = absurd (rw c.in-None.is at c.requires.place)

pub take_of-requires : goal.take_of-requires
take_of-requires c =
    let f = c.requires.fits in
    record {
      place = rw c.in-Some.is at c.requires.place;
      fits = (f.0, f.1, rw c.in-Some.is at f.2, f.3);
    }

pub returns-in-Some-clause-stream : goal.returns-in-Some-clause-stream
returns-in-Some-clause-stream c = λ name facts s may. c.take_of.ensures.stream name facts (rw c.in-Some.is at s) may

pub returns-in-Some-clause-gone : goal.returns-in-Some-clause-gone
returns-in-Some-clause-gone c = λ name facts s may. c.take_of.ensures.gone name facts (rw c.in-Some.is at s) may
