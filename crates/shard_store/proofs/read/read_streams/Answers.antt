use Rattle.shard_store.proofs.read.read_streams.Goals as goal

pub returns-clause-answer : goal.returns-clause-answer
returns-clause-answer g c = λ tells.
    let held = c.in_ok-replay.ensures.answer tells in
    (held.0, held.1, held.2, held.3.boot_is, c.in_ok-shown.ensures held.1 held.2.stands.legal held.3)
