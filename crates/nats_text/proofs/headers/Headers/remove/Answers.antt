use Rattle.nats_text.proofs.LegalPairs.{block_without}
use Rattle.nats_text.proofs.headers.Headers.remove.Goals as goal

pub invariant_of-self : goal.invariant_of-self
invariant_of-self c = block_without c.self.inside.status c.args.name.now c.self.inside.pairs.items _ c.keep_others.ensures.items c.self.invariant
