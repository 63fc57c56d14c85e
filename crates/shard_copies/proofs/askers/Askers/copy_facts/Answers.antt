use Rattle.std.proofs.Common.{◌≡◌, ℕ, ◌+◌, ◌++◌, List, [], ◌∷◌, map, take, sym, ap, ◌∙◌}
use Rattle.std.proofs.lemmas.List.{map-append}
use Rattle.stream_fold.specs.Facts.{facts}
use Rattle.shard_machine.specs.declared.facts.CopyFact.{CopyFact}
use Rattle.shard_machine.specs.Views.{Copy, copies_from}
use Rattle.shard_machine.specs.Answers.{fact_of_copy}
use Rattle.shard_copies.specs.Asked.{copy_of}
use Rattle.shard_copies.proofs.CopyAsks.{copies-more}
use Rattle.shard_copies.proofs.askers.Askers.copy_facts.Goals as goal

pub loop-want-preserved : goal.loop-want-preserved
loop-want-preserved c = record {
  index = c.in_ok-index.ensures ∙ ap (λ (n : ℕ). n + 1) c.loop-want.invariant.index;
  items = c.loop-want.invariant.items;
  told = λ v h shows stands.
      let name = c.args.name.now in
      let i = c.loop-want.want-index in
      let x = c.want-item.result in
      let before = c.loop-want.invariant.told v h shows stands in
      let one = c.in_ok-copy_fact.ensures v h shows stands ∙ ap (λ (n : ℕ). fact_of_copy v (copy_of name n (facts h) x)) c.loop-want.invariant.index in
      c.in_ok-push.ensures.ok
      ∙ (ap (λ (l : List CopyFact). l ++ c.in_ok-copy_fact.field-0 ∷ []) before
      ∙ (ap (λ (f : CopyFact). map (fact_of_copy v) (copies_from name (facts h) 0 (take i c.origins-want-items.result.now)) ++ f ∷ []) one
      ∙ (sym (map-append (fact_of_copy v) (copies_from name (facts h) 0 (take i c.origins-want-items.result.now)) (copy_of name i (facts h) x ∷ []))
      ∙ sym (ap (map (fact_of_copy v)) (copies-more name (facts h) c.origins-want-items.result.now i x c.loop-want-test.true c.want-item.is)))));
}
