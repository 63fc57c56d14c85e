use Rattle.std.proofs.Common.{◌≡◌, ℕ, ◌+◌, List, [], ◌∷◌, take, sym, ap, ◌∙◌, subst}
use Rattle.std.specs.Prelude.{filter}
use Rattle.std.proofs.lemmas.List.{take_all}
use Rattle.nats_text.specs.declared.origin.Origin.{Origin}
use Rattle.stream_fold.specs.Facts.{facts}
use Rattle.shard_machine.specs.Views.{View, Copy, copies_from, copies_of}
use Rattle.shard_copies.specs.Asked.{AskersState, AskingState, ShowsSame, AreKept, Asks, copy_of}
use Rattle.shard_copies.specs.Places.{is_chosen}
use Rattle.shard_copies.proofs.CopyAsks.{same-trans, shows-same, asks-passes, asks-fails, chosen-filter}
use Rattle.shard_copies.proofs.askers.Askers.ask.Goals as goal
use Rattle.shard_copies.proofs.askers.Askers.ask.Goals.{then-is_chosen+in_ok-ask_one, else-is_chosen}

pub loop-want-preserved : goal.loop-want-preserved
loop-want-preserved c = record {
  index = c.in_ok-index.ensures ∙ ap (λ (n : ℕ). n + 1) c.loop-want.invariant.index;
  items = c.loop-want.invariant.items;
  shown = elim c.if-is_chosen.branch [
    | then-is_chosen+in_ok-ask_one w ↦ subst (λ (s : AskersState). ShowsSame c.args.self.now s) (sym w.self-is) (same-trans c.args.self.now c.loop-want.self w.ask_one.new.self c.loop-want.invariant.shown w.in_ok-ask_one.ensures.shown)
    | else-is_chosen w ↦ subst (λ (s : AskersState). ShowsSame c.args.self.now s) (sym w.self-is) c.loop-want.invariant.shown
  ];
  kept = λ k. elim c.if-is_chosen.branch [
    | then-is_chosen+in_ok-ask_one w ↦
        subst (λ (s : AskersState). AreKept s c.if-is_chosen.asking) (sym w.self-is)
        (subst (λ (a : AskingState). AreKept w.ask_one.new.self a) (sym w.asking-is) (w.in_ok-ask_one.ensures.kept (c.loop-want.invariant.kept k)))
    | else-is_chosen w ↦
        subst (λ (s : AskersState). AreKept s c.if-is_chosen.asking) (sym w.self-is)
        (subst (λ (a : AskingState). AreKept c.loop-want.self a) (sym w.asking-is) (c.loop-want.invariant.kept k))
  ];
  asks = λ v h shows stands.
      let p = is_chosen c.args.which.now v c.args.now in
      let name = c.args.name.now in
      let i = c.loop-want.want-index in
      let now_shows = shows-same c.args.self.now c.loop-want.self v v.askers c.loop-want.invariant.shown shows in
      let before = c.loop-want.invariant.asks v h shows stands in
      let x = c.want-item.result in
      let test : c.is_chosen.result ≡ p (copy_of name i (facts h) x) = c.is_chosen.ensures v (facts h) now_shows ∙ ap (λ (n : ℕ). p (copy_of name n (facts h) x)) c.loop-want.invariant.index in
      elim c.if-is_chosen.branch [
        | then-is_chosen+in_ok-ask_one w ↦
            let one = subst (λ (n : ℕ). Asks c.loop-want.asking w.ask_one.new.asking v c.args.now (copy_of name n (facts h) x ∷ [])) c.loop-want.invariant.index (w.in_ok-ask_one.ensures.asks v h now_shows stands) in
            subst (λ (a : AskingState). Asks c.args.asking.now a v c.args.now (filter p (copies_from name (facts h) 0 (take (i + 1) c.origins-want-items.result.now)))) (sym w.asking-is)
            (asks-passes c.args.asking.now c.loop-want.asking v c.args.now p name (facts h) c.origins-want-items.result.now i x c.loop-want-test.true c.want-item.is w.ask_one.new.asking before (sym test ∙ w.if-is_chosen.true) one)
        | else-is_chosen w ↦
            subst (λ (a : AskingState). Asks c.args.asking.now a v c.args.now (filter p (copies_from name (facts h) 0 (take (i + 1) c.origins-want-items.result.now)))) (sym w.asking-is)
            (asks-fails c.args.asking.now c.loop-want.asking v c.args.now p name (facts h) c.origins-want-items.result.now i x c.loop-want-test.true c.want-item.is before (sym test ∙ w.if-is_chosen.false))
      ];
}

pub returns-clause-asks : goal.returns-clause-asks
returns-clause-asks c = λ v h shows stands.
    let name = c.args.name.now in
    let p = is_chosen c.args.which.now v c.args.now in
    let all : take c.loop-want.want-index c.origins-want-items.result.now ≡ c.origins-want-items.result.now = take_all c.loop-want.want-index c.origins-want-items.result.now c.loop-want-test.false in
    subst (λ (cs : List Copy). Asks c.args.asking.now c.loop-want.asking v c.args.now cs)
    (ap (λ (os : List Origin). filter p (copies_from name (facts h) 0 os)) (all ∙ c.loop-want.invariant.items h stands) ∙ chosen-filter c.args.which.now v c.args.now (copies_of name (facts h)))
    (c.loop-want.invariant.asks v h shows stands)
