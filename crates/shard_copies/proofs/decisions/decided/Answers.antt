use Rattle.std.proofs.Common.{◌≡◌, ℕ, refl, sym, ap, ◌∙◌, subst, arith}
use Rattle.std.specs.Prelude.{IfOk, slice_get}
use Rattle.nats_text.specs.declared.origin.Origin.{Origin}
use Rattle.stream_fold.specs.declared.config.Config.{Config}
use Rattle.stream_fold.specs.declared.config.Copies.{Copies}
use Rattle.stream_fold.specs.declared.config.Copies.TheVariants.{Mirror, Sources}
use Rattle.stream_fold.specs.declared.decision.Decision.{Decision}
use Rattle.stream_fold.specs.Copying.{origin_named}
use Rattle.stream_fold.specs.Facts.{facts}
use Rattle.shard_machine.specs.Views.{copies_of, origins_of}
use Rattle.shard_copies.specs.Asked.{copy_of, copy_at, decided_at}
use Rattle.shard_copies.proofs.Deciding.{decides-mirror, decides-source, decides-past, found-within, found-past}
use Rattle.shard_copies.proofs.decisions.decided.Goals as goal

pub returns-then-index-eq0-clause-exact : goal.returns-then-index-eq0-clause-exact
returns-then-index-eq0-clause-exact c = λ v h name stands same.
    let o = c.in-Mirror.field-0 in
    let copies : c.args.state.now.held.limits.copies ≡ Mirror o = ap (λ (x : Config). x.copies) (sym c.config.ensures) ∙ c.in-Mirror.is in
    let is = decides-mirror c.args.state.now h (facts h) (c.facts_of_histories.ensures.tell h) stands v c.args.now c.args.packet.now name o c.args.asker.now copies (same (copy_of name 0 (facts h) o) refl (sym c.if-index-eq0.true)) in
    subst (λ (n : ℕ). IfOk c.decide.result (λ d. d ≡ decided_at v c.args.now c.args.packet.now (copy_at n (copies_of name (facts h))))) (sym c.if-index-eq0.true)
    (subst (λ (x : Decision). IfOk c.decide.result (λ d. d ≡ x)) (sym is) c.decide.ensures.exact)

pub returns-then-index-len-clause-exact : goal.returns-then-index-len-clause-exact
returns-then-index-len-clause-exact c = λ v h name stands same.
    let os = c.in-Sources.origins in
    let index = c.args.index in
    let copies : c.args.state.now.held.limits.copies ≡ Sources os = ap (λ (x : Config). x.copies) (sym c.config.ensures) ∙ c.in-Sources.is in
    let found = found-within os index (omega (arith, c.len.ensures, c.if-index-len.true)) in
    let is = decides-source c.args.state.now h (facts h) (c.facts_of_histories.ensures.tell h) stands v c.args.now c.args.packet.now name os index found.0 c.args.asker.now copies found.1 (same (copy_of name index (facts h) found.0) refl refl) in
    let exact = c.decide-then-index-len.ensures.exact h found.0 stands (ap (origin_named index) copies ∙ found.1) in
    subst (λ (x : Decision). IfOk c.decide-then-index-len.result (λ d. d ≡ x)) (sym is) exact

pub returns-else-index-len-clause-exact : goal.returns-else-index-len-clause-exact
returns-else-index-len-clause-exact c = λ v h name stands same.
    let os = c.in-Sources.origins in
    let index = c.args.index in
    let copies : c.args.state.now.held.limits.copies ≡ Sources os = ap (λ (x : Config). x.copies) (sym c.config.ensures) ∙ c.in-Sources.is in
    let past = found-past os index (omega (arith, c.len.ensures, c.if-index-len.false)) in
    sym (decides-past c.args.state.now h (facts h) (c.facts_of_histories.ensures.tell h) stands v c.args.now c.args.packet.now name index (ap (λ (x : Copies). slice_get (origins_of x) index) copies ∙ past))
