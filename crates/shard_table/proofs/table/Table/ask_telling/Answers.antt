use Rattle.std.proofs.Common.{◌≡◌, ℕ, List, [], ◌∷◌, ◌++◌, map, true, false, Option, Some, None, refl, sym, ap, ◌∙◌, subst}
use Rattle.std.specs.Option.{option_copied}
use Rattle.shard_table.specs.declared.table.Table.{Table}
use Rattle.stream_fold.specs.declared.decision.Decision.{Decision}
use Rattle.stream_fold.specs.declared.decision.Decision.TheVariants.{AskAgain, Reply, Stop}
use Rattle.js_wire.specs.declared.packet.Packet.{Packet}
use Rattle.shard_machine.specs.declared.call.ShardCall.TheVariants as call
use Rattle.shard_machine.specs.declared.reply.Outcome.TheVariants as outcome
use Rattle.shard_machine.specs.Views.{replied}
use Rattle.shard_table.specs.declared.answered.Answered.TheVariants.{Done}
use Rattle.shard_machine.specs.Images.{NameFacts}
use Rattle.shard_machine.specs.Views.{Copy, asks_of, copies_of}
use Rattle.stream_fold.specs.Facts.{StreamFacts, facts}
use Rattle.shard_copies.specs.Asked.{AreKept, AskingState, asked_of, copy_at}
use Rattle.shard_streams.specs.HeldImages.{ShowsLive}
use Rattle.shard_table.proofs.Hears.{for-copy, gives-done}
use Rattle.shard_table.proofs.Moving.{does-asked, holds-askers, shows-still}
use Rattle.shard_table.proofs.table.Table.ask_telling.Goals as goal

pub asked-packets-requires : goal.asked-packets-requires
asked-packets-requires c = c.in-Ok.ensures.kept (subst (λ (a : AskingState). AreKept c.args.self.now.askers a) (sym c.behind-asking.ensures) tt)

pub returns-in-Ok : goal.returns-in-Ok
returns-in-Ok c = λ v packet h x told.
    let id = c.args.id.now in
    let old = c.args.self.now in
    let new : Table = record { alloc = old.alloc; streams = old.streams; consumers = old.consumers; askers = c.asked-packets.new.self } in
    let f = for-copy v id (AskAgain c.args.why) packet c.args.now x (λ e. cc) in
    let live = subst (ShowsLive v.image id.stream) (ap option_copied c.in-Some.is) (c.live.ensures v.image h.streams) in
    let s = live.2 in
    let same : x.known ≡ live.0 = let e : Some x.known ≡ Some live.0 = sym x.stands ∙ live.1 in cc in
    let at : copy_at id.index (copies_of id.stream (facts s.history)) ≡ Some f.copy =
    ap (λ (y : StreamFacts). copy_at id.index (copies_of id.stream y)) (sym (ap (λ (k : NameFacts). k.stream) same ∙ s.facts_are)) ∙ f.at in
    let asks = c.in-Ok.ensures.asks v s.history f.copy h.askers s.state at in
    let none = c.behind-asking.ensures in
    let sent : c.asked-packets.result ≡ asks_of v (f.copy ∷ []) = c.asked-packets.ensures.packets ∙ (asks.packets ∙ ap (λ (a : AskingState). a.packets ++ asks_of v (f.copy ∷ [])) none ∙ ap (λ (ps : List Packet). ps ++ asks_of v (f.copy ∷ [])) c.new.ensures) in
    let shows = c.asked-packets.ensures.shown v c.args.now (f.copy ∷ []) (shows-still old.askers c.ask_again.new.self v v.askers c.in-Ok.ensures.shown h.askers) (asks.askers ∙ ap (λ (a : AskingState). a.askers ++ map (asked_of v c.args.now) (f.copy ∷ [])) none) in
    gives-done v (call.Heard packet c.args.now) c.heard_reply.result (replied (outcome.Heard (AskAgain c.args.why)) None c.asked-packets.result c.args.notices) new c.heard_reply.ensures
    (does-asked old new v id c.args.why packet c.args.now x.known f c.asked-packets.result c.args.notices sent told h refl refl shows)

pub returns-in-Err : goal.returns-in-Err
returns-in-Err c = λ v packet h x told.
    let old = c.args.self.now in
    let new : Table = record { alloc = old.alloc; streams = old.streams; consumers = old.consumers; askers = c.ask_again.new.self } in
    (tt, holds-askers old new v h refl refl (shows-still old.askers c.ask_again.new.self v v.askers c.ask_again.ensures.shown h.askers))
