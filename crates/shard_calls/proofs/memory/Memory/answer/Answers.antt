use Rattle.std.proofs.Common.{◌∙◌, ap}
use Rattle.shard_calls.specs.Memories.{MemoryParts}
use Rattle.shard_calls.proofs.FaultCounts.{gives-faultless}
use Rattle.shard_calls.proofs.TableKinds.{some-view, as-opened, as-whole, gives-opened, gives-ready}
use Rattle.shard_calls.proofs.memory.Memory.answer.Goals as goal

pub answer-requires : goal.answer-requires
answer-requires c = some-view c.self.inside.loaded c.self.inside.table c.self.invariant

pub invariant_of-self : goal.invariant_of-self
invariant_of-self c =
    let on = ap (λ (m : MemoryParts). m.loaded) c.self.view_is ∙ c.requires in
    let some = as-opened c.self.inside.loaded c.self.inside.table on c.self.invariant in
    as-whole c.self.inside.loaded _ on (gives-opened some.view c.args.call.now c.answer.result _ some.booted (c.answer.ensures some.view some.holds))

pub returns-clause-prepared : goal.returns-clause-prepared
returns-clause-prepared c =
    let on = ap (λ (m : MemoryParts). m.loaded) c.self.view_is ∙ c.requires in
    let some = as-opened c.self.inside.loaded c.self.inside.table on c.self.invariant in
    gives-ready some.view c.args.call.now c.answer.result _ some.booted (c.answer.ensures some.view some.holds)

pub returns-clause-faultless : goal.returns-clause-faultless
returns-clause-faultless c =
    let some = some-view c.self.inside.loaded c.self.inside.table c.self.invariant in
    gives-faultless some.0 c.args.call.now c.answer.result _ (c.answer.ensures some.0 some.1)
