use Rattle.shard_streams.proofs.Decides.{creates-again, creates-new, creates-too-many}
use Rattle.shard_streams.proofs.streams.Streams.creates_right.Goals as goal

pub returns-in-Some : goal.returns-in-Some
returns-in-Some c = λ v now holds fault.
    let live = c.in-Some.ensures v.image holds in
    creates-again c.facts_of_histories.ensures.tell c.in-Some.standing.now c.args.config.now c.claim.result (c.claim.ensures live.2.history live.2.state) v now fault live

pub returns-then-count-lt-MOST_STREAMS : goal.returns-then-count-lt-MOST_STREAMS
returns-then-count-lt-MOST_STREAMS c = λ v now holds fault.
    creates-new v c.args.config.now now c.count.result (c.count.ensures v.image holds) c.if-count-lt-MOST_STREAMS.true fault (c.in-None.ensures v.image holds)

pub returns-else-count-lt-MOST_STREAMS : goal.returns-else-count-lt-MOST_STREAMS
returns-else-count-lt-MOST_STREAMS c = λ v now holds fault.
    creates-too-many v c.args.config.now now c.count.result (c.count.ensures v.image holds) c.if-count-lt-MOST_STREAMS.false fault (c.in-None.ensures v.image holds)
