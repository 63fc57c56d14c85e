use Rattle.std.proofs.Common.{◌≡◌, ◌∙◌, [], ◌++◌, ℕ, sym, ap, List, length, drop, arith, rules}
use Rattle.std.proofs.Math.Seq.{drop-length}
use Rattle.std.proofs.lemmas.List.{append-nil}
use Rattle.nats_text.specs.declared.origin.Origin.{Origin}
use Rattle.stream_fold.specs.Copying.{mark}
use Rattle.shard_store.specs.Streams.{copy_fact, source_facts}
use Rattle.shard_store.proofs.Listing.{facts_on}
use Rattle.shard_store.proofs.list.sources_of.Goals as goal

pub loop-index-preserved : goal.loop-index-preserved
loop-index-preserved c = λ h stands.
    let items = c.args.origins.now in
    let i = c.loop-index.index in
    let origin = c.index-origins-index.result in
    let number : c.in-Ok.number ≡ i = search rules in
    let fact = c.in_ok-copy_fact.ensures ∙ ap (λ (n : ℕ). copy_fact n origin) (c.mark.ensures h stands ∙ ap (λ (k : ℕ). mark k h) number) in
    facts_on h c.loop-index.facts c.push.new.self (source_facts h 0 items) c.in_ok-copy_fact.field-0 items i origin c.loop-index-test.true c.index-origins-index.is fact c.in_ok-push.ensures.ok (c.loop-index.invariant h stands)

pub returns : goal.returns
returns c = λ h stands.
    let items = c.args.origins.now in
    let all : c.loop-index.index ≡ length items = omega (arith, c.loop-index-test.false, c.loop-index.auto.index-end) in
    let end : drop c.loop-index.index items ≡ [] = ap (λ (i : ℕ). drop i items) all ∙ drop-length items in
    sym (append-nil c.loop-index.facts)
    ∙ sym (ap (λ (l : List Origin). c.loop-index.facts ++ source_facts h c.loop-index.index l) end)
    ∙ c.loop-index.invariant h stands
