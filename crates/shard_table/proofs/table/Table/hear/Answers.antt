use Rattle.std.proofs.Common.{◌≡◌, ℕ, List, [], ◌∷◌, ◌++◌, true, false, Option, Some, None, refl, sym, ap, ◌∙◌, subst}
use Rattle.std.specs.Option.{option_copied}
use Rattle.log_replay.specs.declared.replay.Standing.{Standing}
use Rattle.stream_fold.specs.FactLaws.{FactsTellFits}
use Rattle.shard_machine.specs.Views.{View}
use Rattle.shard_streams.specs.HeldImages.{ShowsLive}
use Rattle.shard_table.proofs.Hears.{copy-gone, gives-ignored}
use Rattle.shard_table.proofs.Decided.{heard-here}
use Rattle.shard_table.proofs.table.Table.hear.Goals as goal

pub decide-requires : goal.decide-requires
decide-requires c =
    let v = c.requires.0 in
    let h = c.requires.1 in
    let live = subst (ShowsLive v.image c.args.id.now.stream) (ap option_copied c.in-Some.is) (c.live.ensures v.image h.streams) in
    live.2.faultless

pub follow-requires : goal.follow-requires
follow-requires c =
    let v = c.requires.0 in
    let h = c.requires.1 in
    let live = subst (ShowsLive v.image c.args.id.now.stream) (ap option_copied c.in-Some.is) (c.live.ensures v.image h.streams) in
    let s = live.2 in
    (v, h, heard-here v c.args.id.now c.in-Ok.decision c.args.packet.now c.args.now c.in-Some.standing.now live.0 c.requires.2 c.requires.3 live.1 s c.facts_of_histories.ensures.fits (c.in-Ok.ensures.exact v s.history h.askers s.state) (c.in-Ok.ensures.fits s.history s.state))

pub returns-in-None : goal.returns-in-None
returns-in-None c = λ v h addressed here.
    let packet = c.args.packet.now in
    let gone = subst (ShowsLive v.image c.args.id.now.stream) (ap option_copied c.in-None.is) (c.live.ensures v.image h.streams) in
    gives-ignored c.args.self.now v packet c.args.now c.ignored.result c.ignored.ensures (copy-gone v c.args.id.now packet addressed here gone) h

pub returns-in-Ok : goal.returns-in-Ok
returns-in-Ok c = λ v h addressed here.
    let live = subst (ShowsLive v.image c.args.id.now.stream) (ap option_copied c.in-Some.is) (c.live.ensures v.image h.streams) in
    let s = live.2 in
    c.follow.ensures v h (heard-here v c.args.id.now c.in-Ok.decision c.args.packet.now c.args.now c.in-Some.standing.now live.0 addressed here live.1 s c.facts_of_histories.ensures.fits (c.in-Ok.ensures.exact v s.history h.askers s.state) (c.in-Ok.ensures.fits s.history s.state))
