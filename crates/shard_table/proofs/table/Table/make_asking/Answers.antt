use Rattle.std.proofs.Common.{◌≡◌, [], refl, sym, ap, ◌∙◌, subst}
use Rattle.stream_fold.specs.Held.{State, StandsFor}
use Rattle.shard_copies.specs.Asked.{AskingState}
use Rattle.shard_machine.specs.Answers.{with_record}
use Rattle.record_codec.specs.declared.records.Rec.TheVariants.{Create}
use Rattle.shard_table.proofs.Asking.{holds-same, kept-none}
use Rattle.shard_table.proofs.Doing.{shows-in}
use Rattle.shard_table.proofs.Preparing.{prepares-makes}
use Rattle.shard_table.proofs.table.Table.make_asking.Goals as goal

pub returns-in-Ok : goal.returns-in-Ok
returns-in-Ok c = λ v held makes ready.
    let config = c.args.config.now in
    let now = c.args.now in
    let w = with_record v (Create now config) in
    let before = c.behind-asking.result in
    let no_packets : before.packets ≡ [] = ap (λ (a : AskingState). a.packets) c.behind-asking.ensures ∙ c.new.ensures in
    let no_askers : before.askers ≡ [] = ap (λ (a : AskingState). a.askers) c.behind-asking.ensures in
    let after = holds-same c.args.self.now _ v refl refl c.in-Ok.ensures.shown held in
    let asks = c.in-Ok.ensures.asks w (record { config = config; entries = [] }) (shows-in c.args.self.now.askers v w v.askers refl refl held.askers) (subst (λ (s : State). StandsFor s (record { config = config; entries = [] })) (sym c.state.ensures) ready.state) in
    prepares-makes v config now c.args.stream before c.ask.new.asking _ makes ready (c.in-Ok.ensures.kept (kept-none c.args.self.now.askers before no_askers)) no_packets no_askers asks after

pub returns-in-Err : goal.returns-in-Err
returns-in-Err c = λ v held makes ready. (tt, holds-same c.args.self.now _ v refl refl c.ask.ensures.shown held)
