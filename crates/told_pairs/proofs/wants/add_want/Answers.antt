use Rattle.std.proofs.Common.{sym, Some, Option, subst, ◌≡◌, cond}
use Rattle.told_pairs.specs.declared.pair.Pair.{Pair}
use Rattle.told_pairs.specs.Keys.{same_key}
use Rattle.told_pairs.specs.Wants.{Weight, Alters, raised, weight_of}
use Rattle.told_pairs.proofs.Weights.{put_becomes}
use Rattle.told_pairs.proofs.wants.add_want.Goals as goal

pub returns-clause-ok : goal.returns-clause-ok
returns-clause-ok c =
    let old = c.args.wants.now.entries in
    let new = c.insert.new.self.entries in
    put_becomes c.args.pair.now c.args.link (raised c.args.weight) old new c.in_ok-want.want
    (subst (λ (k : Pair). (p : Pair) → weight_of p new ≡ cond (same_key k p) (Some c.in_ok-want.want) (weight_of p old)) c.in_ok-key.ensures c.in_ok-insert.ensures.updates.0)
    (subst (λ (o : Option Weight). Alters c.args.link (raised c.args.weight) o c.in_ok-want.want) (sym c.requires) c.in_ok-want.ensures)
