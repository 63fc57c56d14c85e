use Rattle.std.proofs.Common.{◌≡◌, Bool, ◌<◌, ◌≤◌, length, true, false, subst}
use Rattle.std.specs.Prelude.{MatchBool}
use Rattle.stream_fold.specs.declared.config.Config.{Config}
use Rattle.shard_machine.specs.Views.{origins_of}
use Rattle.shard_table.proofs.Beginning.{seen-here, seen-past}
use Rattle.shard_table.proofs.table.Table.copy_of.Goals as goal

pub returns-then-copied : goal.returns-then-copied
returns-then-copied c = λ v known held live is.
    let copies = c.config.result.now.copies in
    let index = c.args.index in
    let below = subst (λ (b : Bool). MatchBool b (index < length (origins_of copies)) (length (origins_of copies) ≤ index)) c.if-copied.true c.has_copy-copied.ensures in
    seen-here v c.args.stream.now known live c.facts_of_histories.ensures.tell c.args.standing.now c.args.self.now.askers index c.phase.result c.bound.result is held.askers (subst (λ (x : Config). index < length (origins_of x.copies)) c.config.ensures below) c.phase.ensures c.bound.ensures

pub returns-else-copied : goal.returns-else-copied
returns-else-copied c = λ v known held live is.
    let copies = c.config.result.now.copies in
    let index = c.args.index in
    let past = subst (λ (b : Bool). MatchBool b (index < length (origins_of copies)) (length (origins_of copies) ≤ index)) c.if-copied.false c.has_copy-copied.ensures in
    seen-past v c.args.stream.now known live c.facts_of_histories.ensures.tell c.args.standing.now index is (subst (λ (x : Config). length (origins_of x.copies) ≤ index) c.config.ensures past)
