use Rattle.std.proofs.Common.{◌≡◌, List, take, ap, ◌∙◌, subst}
use Rattle.std.specs.Prelude.{flat_map}
use Rattle.std.proofs.lemmas.List.{take_all}
use Rattle.shard_machine.specs.Views.{Copy, copies_under}
use Rattle.shard_copies.specs.Asked.{Asks, chosen}
use Rattle.shard_table.proofs.Asking.{asks-more, asks-start}
use Rattle.shard_table.proofs.table.Table.ask_all.Goals as goal

pub loop-name-init : goal.loop-name-init
loop-name-init c = record {
  items = λ v held. c.as_slice-name-items.ensures ∙ c.in_ok-names.ensures v.image held.streams;
  held = λ v held. held;
  kept = λ kept. kept;
  asks = λ v held. asks-start c.args.asking.now v c.args.now c.args.which.now;
}

pub loop-name-preserved : goal.loop-name-preserved
loop-name-preserved c = record {
  items = c.loop-name.invariant.items;
  held = λ v held. c.in_ok-ask_under.ensures.held v (c.loop-name.invariant.held v held);
  kept = λ kept. c.in_ok-ask_under.ensures.kept (c.loop-name.invariant.kept kept);
  asks = λ v held.
      asks-more c.args.asking.now c.loop-name.asking c.ask_under.new.asking v c.args.now c.args.which.now c.as_slice-name-items.result.now c.loop-name.name-index c.name-item.result c.loop-name-test.true c.name-item.is
      (c.loop-name.invariant.asks v held) (c.in_ok-ask_under.ensures.asks v (c.loop-name.invariant.held v held));
}

pub returns-clause-asks : goal.returns-clause-asks
returns-clause-asks c = λ v held.
    let names = c.as_slice-name-items.result.now in
    subst (λ (cs : List Copy). Asks c.args.asking.now c.loop-name.asking v c.args.now (chosen c.args.which.now v c.args.now cs))
    (ap (flat_map (copies_under v.image)) (take_all c.loop-name.name-index names c.loop-name-test.false ∙ c.loop-name.invariant.items v held))
    (c.loop-name.invariant.asks v held)

pub returns-in_err-ask_under-clause-held : goal.returns-in_err-ask_under-clause-held
returns-in_err-ask_under-clause-held c = λ v held. c.ask_under.ensures.held v (c.loop-name.invariant.held v held)
