-- What is done once the record of a call is in the journal.
use Rattle.std.proofs.Common.{◌≡◌, ℕ, true, List, [], ◌∷◌, ◌++◌, map, not, Option, Some, None, refl, sym, ap, ◌∙◌, subst}
use Rattle.std.specs.Prelude.{Ok, filter}
use Rattle.js_wire.specs.declared.packet.Packet.{Packet}
use Rattle.stream_fold.specs.declared.config.Config.{Config}
use Rattle.stream_fold.specs.declared.decision.Decision.{Decision}
use Rattle.stream_fold.specs.declared.decision.Decision.TheVariants.{Store, Bind as Binding}
use Rattle.stream_fold.specs.declared.entry.Entry.{Entry}
use Rattle.stream_fold.specs.Facts.{StreamFacts}
use Rattle.record_codec.specs.declared.records.Rec.{Rec}
use Rattle.record_codec.specs.declared.records.Rec.TheVariants.{Create, Remove, Of}
use Rattle.tap_row.specs.declared.notice.Notice.{Notice}
use Rattle.tap_row.specs.declared.notice.Notice.TheVariants.{Bound as BoundNotice}
use Rattle.shard_machine.specs.declared.call.ShardCall.{ShardCall}
use Rattle.shard_machine.specs.declared.call.ShardCall.TheVariants as call
use Rattle.shard_machine.specs.declared.reply.Outcome.{Outcome}
use Rattle.shard_machine.specs.declared.reply.Outcome.TheVariants as outcome
use Rattle.shard_machine.specs.declared.reply.ShardReply.{ShardReply}
use Rattle.shard_machine.specs.Images.{LogImage, NameFacts, MayFollowImage, image_after, live_in, next}
use Rattle.shard_machine.specs.Views.{View, Effect, Askers, Copy, asker_of, asks_of, copies_under, entry_notices, idle_under, replied, with_all_asked, writes}
use Rattle.shard_machine.specs.Answers.{Answered, addressee, copy_of_asker, creates, follows, hears, reads_stream, removes, with_record}
use Rattle.push_consumer.specs.Progress.{ConsumerState}
use Rattle.shard_streams.specs.declared.halves.PreparedCreate.{PreparedCreate}
use Rattle.shard_streams.specs.declared.halves.PreparedEntry.{PreparedEntry}
use Rattle.shard_streams.specs.HeldImages.{HoldsImage}
use Rattle.shard_copies.specs.Standing.{ConsumersState}
use Rattle.shard_copies.specs.Asked.{AskersState, AskingState, ShowsAskers, asked_of, decided_at}
use Rattle.shard_table.specs.declared.answered.Prepared.{Prepared}
use Rattle.shard_table.specs.declared.answered.Prepared.TheVariants.{Writes, Stores, Binds, Makes, Takes}
use Rattle.shard_table.specs.declared.table.Table.{Table}
use Rattle.shard_table.specs.Answering.{BindsReady, Commits, HearsReady, IsPrepared, MakesReady, MayCommit, StoresReady, TakesReady, WritesReady, record_in}
use Rattle.shard_table.specs.Effects.{effected}
use Rattle.shard_table.specs.Hearing.{moved_on}
use Rattle.shard_table.specs.Holding.{Holds}
use Rattle.shard_table.proofs.Hears.{reply-is}

-- ---- what may be committed

-- what is prepared is this
pub may-commit : (t : Table) (prepared this : Prepared) (v : View) (called : ShardCall) (e : Effect) → prepared ≡ this → IsPrepared t prepared v called e → MayFollowImage v.image (record_in prepared) → Holds t v → MayCommit t this v called e
may-commit t prepared this v called e is ready follows holds = record {
  is_prepared = subst (λ (p : Prepared). IsPrepared t p v called e) is ready;
  holds = holds;
  follows = subst (λ (p : Prepared). MayFollowImage v.image (record_in p)) is follows;
}

-- the shards' askers show a view that is of the same node and opening
pub shows-there : (s : AskersState) (v w : View) (askers : Askers) → v.node ≡ w.node → v.image.boot ≡ w.image.boot → ShowsAskers s v askers → ShowsAskers s w askers
shows-there s v w askers n b h = record { node = h.node ∙ n; boot = h.boot ∙ b; each = h.each }

-- ---- the copy moves on

-- the packet and the moment are those of the call
pub moves-with : (s : AskersState) (v : View) (c : Copy) (d : Decision) (p q : Packet) (n m : ℕ) → call.Heard p n ≡ call.Heard q m
    → (copy_of_asker v (addressee p) ≡ Some c → d ≡ decided_at v n p (Some c) → ShowsAskers s v (moved_on v c d p n))
    → copy_of_asker v (addressee q) ≡ Some c → d ≡ decided_at v m q (Some c) → ShowsAskers s v (moved_on v c d q m)
moves-with s v c d p q n m e h =
    let same : p ≡ q = cc in
    let moment : n ≡ m = cc in
    subst (λ (x : Packet). copy_of_asker v (addressee x) ≡ Some c → d ≡ decided_at v m x (Some c) → ShowsAskers s v (moved_on v c d x m)) same
    (subst (λ (k : ℕ). copy_of_asker v (addressee p) ≡ Some c → d ≡ decided_at v k p (Some c) → ShowsAskers s v (moved_on v c d p k)) moment h)

-- ---- an entry is written

pub commits-write : (old new : Table) (v : View) (called : ShardCall) (e : Effect) (entry : PreparedEntry) (what : Outcome) (r : WritesReady old entry what v e) (made : Entry) (sent : List Packet) (told : List Notice)
    → made ≡ r.change → sent ≡ [] → told ≡ entry_notices r.name r.known.stream r.change
    → Holds old v → HoldsImage new.streams.replay (next v.image entry.rec) → new.consumers ≡ old.consumers → new.askers ≡ old.askers
    → Commits v e (replied what (Some made) sent told) new
commits-write old new v called e entry what r made sent told m s t h i c a =
    subst (λ (x : Effect). Commits v x (replied what (Some made) sent told) new) (sym r.does)
    (record {
      replies = reply-is what (Some made) (Some r.change) sent [] told (entry_notices r.name r.known.stream r.change) (ap Some m) s t;
      becomes = record {
        streams = subst (λ (x : Rec). HoldsImage new.streams.replay (next v.image x)) r.ready.record_is i;
        boot = ap (λ (x : ConsumersState). x.boot) c ∙ h.boot;
        given = ap (λ (x : ConsumersState). x.given) c ∙ h.given;
        consumers = ap (λ (x : ConsumersState). x.all) c ∙ h.consumers;
        askers = subst (λ (x : AskersState). ShowsAskers x (effected v (writes v r.name r.known.stream r.change what)) v.askers) (sym a) (record { node = h.askers.node; boot = h.askers.boot; each = h.askers.each });
      };
    })

-- ---- a copy follows a decision that brings an entry

-- the effect of a decision
abbrev followed : View → Copy → ℕ → Packet → Decision → Effect
followed v c now packet d = follows v c now packet (asker_of v c).phase d

pub commits-store : (old new : Table) (v : View) (called : ShardCall) (e : Effect) (entry : PreparedEntry) (decision : Decision) (r : StoresReady old entry decision v called e) (made : Entry) (sent : List Packet) (told : List Notice)
    → made ≡ r.change → sent ≡ [] → told ≡ entry_notices r.hears.copy.stream r.hears.known.stream r.change
    → Holds old v → HoldsImage new.streams.replay (next v.image entry.rec) → new.consumers ≡ old.consumers → ShowsAskers new.askers v (moved_on v r.hears.copy decision r.hears.packet r.hears.now)
    → Commits v e (replied (outcome.Heard decision) (Some made) sent told) new
commits-store old new v called e entry decision r made sent told m s t h i c a =
    let x = r.hears in
    let d : Decision = Store r.change in
    let does : e ≡ followed v x.copy x.now x.packet d = x.decided.does ∙ ap (followed v x.copy x.now x.packet) (sym x.decided.decided ∙ r.brings) in
    let notices : told ≡ entry_notices x.copy.stream x.copy.facts r.change = t ∙ ap (λ (f : StreamFacts). entry_notices x.copy.stream f r.change) (sym x.facts_are) in
    subst (λ (y : Effect). Commits v y (replied (outcome.Heard decision) (Some made) sent told) new) (sym does)
    (record {
      replies =
          ap (λ (y : Decision). replied (outcome.Heard y) (Some made) sent told) r.brings
          ∙ reply-is (outcome.Heard d) (Some made) (Some r.change) sent [] told (entry_notices x.copy.stream x.copy.facts r.change) (ap Some m) s notices;
      becomes = record {
        streams = subst (λ (y : Rec). HoldsImage new.streams.replay (next v.image y)) x.ready.record_is i;
        boot = ap (λ (y : ConsumersState). y.boot) c ∙ h.boot;
        given = ap (λ (y : ConsumersState). y.given) c ∙ h.given;
        consumers = ap (λ (y : ConsumersState). y.all) c ∙ h.consumers;
        askers = shows-there new.askers v (effected v (followed v x.copy x.now x.packet d)) (moved_on v x.copy d x.packet x.now) refl refl (subst (λ (y : Decision). ShowsAskers new.askers v (moved_on v x.copy y x.packet x.now)) r.brings a);
      };
    })

pub commits-bind : (old new : Table) (v : View) (called : ShardCall) (e : Effect) (entry : PreparedEntry) (decision : Decision) (told : List Notice) (r : BindsReady old entry decision told v called e) (made : Entry) (sent : List Packet)
    → made ≡ r.change → sent ≡ []
    → Holds old v → HoldsImage new.streams.replay (next v.image entry.rec) → new.consumers ≡ old.consumers → ShowsAskers new.askers v (moved_on v r.hears.copy decision r.hears.packet r.hears.now)
    → Commits v e (replied (outcome.Heard decision) (Some made) sent told) new
commits-bind old new v called e entry decision told r made sent m s h i c a =
    let x = r.hears in
    let d : Decision = Binding r.change in
    let does : e ≡ followed v x.copy x.now x.packet d = x.decided.does ∙ ap (followed v x.copy x.now x.packet) (sym x.decided.decided ∙ r.brings) in
    subst (λ (y : Effect). Commits v y (replied (outcome.Heard decision) (Some made) sent told) new) (sym does)
    (record {
      replies =
          ap (λ (y : Decision). replied (outcome.Heard y) (Some made) sent told) r.brings
          ∙ reply-is (outcome.Heard d) (Some made) (Some r.change) sent [] told (BoundNotice x.copy.stream x.copy.index ∷ []) (ap Some m) s r.told;
      becomes = record {
        streams = subst (λ (y : Rec). HoldsImage new.streams.replay (next v.image y)) x.ready.record_is i;
        boot = ap (λ (y : ConsumersState). y.boot) c ∙ h.boot;
        given = ap (λ (y : ConsumersState). y.given) c ∙ h.given;
        consumers = ap (λ (y : ConsumersState). y.all) c ∙ h.consumers;
        askers = shows-there new.askers v (effected v (followed v x.copy x.now x.packet d)) (moved_on v x.copy d x.packet x.now) refl refl (subst (λ (y : Decision). ShowsAskers new.askers v (moved_on v x.copy y x.packet x.now)) r.brings a);
      };
    })

-- ---- a stream is made, or goes

-- a call is answered by an effect
abbrev answered : Effect → Answered
answered e = Ok e

-- the askers show the view once the stream is made
pub shows-made : (s : AskersState) (v : View) (config : Config) (now : ℕ) → ShowsAskers s v v.askers → ShowsAskers s (with_record v (Create now config)) v.askers
shows-made s v config now h = record { node = h.node; boot = h.boot; each = h.each }

pub commits-make : (old new : Table) (v : View) (e : Effect) (stream : PreparedCreate) (asking : AskingState) (r : MakesReady old stream asking v e) (sent : List Packet) (told : List Notice)
    → sent ≡ asking.packets → told ≡ []
    → Holds old v → HoldsImage new.streams.replay (next v.image stream.rec) → new.consumers ≡ old.consumers
    → ShowsAskers new.askers (with_record v (Create r.now r.config)) (with_all_asked (with_record v (Create r.now r.config)) r.now (copies_under (with_record v (Create r.now r.config)).image r.config.name) v.askers)
    → Commits v e (replied (outcome.Made true) None sent told) new
commits-make old new v e stream asking r sent told s t h i c a =
    subst (λ (x : Effect). Commits v x (replied (outcome.Made true) None sent told) new) (sym r.does)
    (record {
      replies = reply-is (outcome.Made true) None None sent (asks_of (with_record v (Create r.now r.config)) (copies_under (with_record v (Create r.now r.config)).image r.config.name)) told [] refl (s ∙ r.packets) t;
      becomes = record {
        streams = subst (λ (x : Rec). HoldsImage new.streams.replay (next v.image x)) r.ready.record_is i;
        boot = ap (λ (x : ConsumersState). x.boot) c ∙ h.boot;
        given = ap (λ (x : ConsumersState). x.given) c ∙ h.given;
        consumers = ap (λ (x : ConsumersState). x.all) c ∙ h.consumers;
        askers = record { node = a.node; boot = a.boot; each = a.each };
      };
    })

-- what is answered so is this effect
same-effect : (e f : Effect) → answered e ≡ answered f → e ≡ f
same-effect e f q = cc

pub commits-take : (old new : Table) (v : View) (e : Effect) (name : List ℕ) (removal : Rec) (r : TakesReady name removal v e) (sent : List Packet) (told : List Notice)
    → sent ≡ [] → told ≡ []
    → Holds old v → HoldsImage new.streams.replay (next v.image (Remove name))
    → new.consumers.boot ≡ old.consumers.boot → new.consumers.given ≡ old.consumers.given → new.consumers.all ≡ filter (λ x. not (reads_stream name x)) old.consumers.all
    → ShowsAskers new.askers v (idle_under name v.askers)
    → Commits v e (replied outcome.Removed None sent told) new
commits-take old new v e name removal r sent told s t h i b g c a =
    let gone : Effect = record { reply = replied outcome.Removed None [] []; records = Remove name ∷ []; given = v.given; consumers = filter (λ x. not (reads_stream name x)) v.consumers; askers = idle_under name v.askers } in
    let does : e ≡ gone = same-effect e gone r.does in
    subst (λ (x : Effect). Commits v x (replied outcome.Removed None sent told) new) (sym does)
    (record {
      replies = reply-is outcome.Removed None None sent [] told [] refl s t;
      becomes = record {
        streams = i;
        boot = b ∙ h.boot;
        given = g ∙ h.given;
        consumers = c ∙ ap (filter (λ (x : ConsumerState). not (reads_stream name x))) h.consumers;
        askers = record { node = a.node; boot = a.boot; each = a.each };
      };
    })
