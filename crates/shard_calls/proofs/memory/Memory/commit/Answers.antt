use Rattle.std.proofs.Common.{◌∙◌, sym, ap, subst}
use Rattle.shard_table.specs.declared.table.Table.{Table}
use Rattle.shard_calls.specs.Memories.{MemoryParts}
use Rattle.shard_calls.specs.PreparedCalls.{IsReadyIn}
use Rattle.shard_calls.proofs.TableKinds.{as-whole, commits-opened}
use Rattle.shard_calls.proofs.memory.Memory.commit.Goals as goal

pub commit-requires : goal.commit-requires
commit-requires c =
    let some = c.requires.ready in
    let ready = subst (λ (t : Table). IsReadyIn t c.args.prepared c.args.call.now some.0 some.1) (sym (ap (λ (m : MemoryParts). m.table) c.self.view_is)) some.2 in
    (some.0, some.1, ready.is_prepared, ready.follows some.3, ready.holds)

pub invariant_of-self : goal.invariant_of-self
invariant_of-self c =
    let some = c.requires.ready in
    let ready = subst (λ (t : Table). IsReadyIn t c.args.prepared c.args.call.now some.0 some.1) (sym (ap (λ (m : MemoryParts). m.table) c.self.view_is)) some.2 in
    let on = ap (λ (m : MemoryParts). m.loaded) c.self.view_is ∙ c.requires.loaded in
    as-whole c.self.inside.loaded _ on (commits-opened c.self.inside.table _ c.args.prepared c.args.call.now some.0 some.1 ready some.3 (c.commit.ensures some.0 some.1 ready.is_prepared (ready.follows some.3) ready.holds).1)
