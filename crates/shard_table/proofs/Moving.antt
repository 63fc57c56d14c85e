-- What is done where a copy follows its decision, and no record is made.
use Rattle.std.proofs.Common.{◌≡◌, ℕ, List, [], ◌∷◌, Option, Some, None, refl, sym, ap, ◌∙◌, subst}
use Rattle.std.specs.Prelude.{Ok}
use Rattle.std.specs.FinMap.{get}
use Rattle.js_wire.specs.declared.packet.AskerId.{AskerId}
use Rattle.js_wire.specs.declared.packet.Packet.{Packet}
use Rattle.stream_fold.specs.declared.decision.Decision.{Decision}
use Rattle.stream_fold.specs.declared.decision.Decision.TheVariants.{Store, Bind, Rebind, Skip, Ignore, AskAgain, Reply, Heard, Refused, Stop}
use Rattle.stream_fold.specs.declared.decision.Reason.TheVariants.{Foreign}
use Rattle.stream_fold.specs.declared.decision.Why.{Why}
use Rattle.tap_row.specs.declared.notice.Notice.{Notice}
use Rattle.tap_row.specs.declared.notice.Notice.TheVariants.{AskedAgain, Stopped as StoppedNotice}
use Rattle.shard_machine.specs.declared.call.ShardCall.TheVariants as call
use Rattle.shard_machine.specs.declared.reply.Outcome.TheVariants as outcome
use Rattle.shard_machine.specs.declared.reply.ShardReply.{ShardReply}
use Rattle.shard_machine.specs.Images.{NameFacts, live_in}
use Rattle.shard_machine.specs.Views.{View, Effect, Askers, Copy, asker_of, askers_of, asker_or_new, asks_of, ask_of, with_all_asked, replied}
use Rattle.shard_machine.specs.Answers.{addressee, copy_of_asker, follows, hears, hears_with, flow_answer}
use Rattle.shard_copies.specs.Standing.{ConsumersState}
use Rattle.shard_copies.specs.Asked.{AskersState, ShowsAskers, ShowsSame, asked_of, id_in, shown, phase_behind}
use Rattle.shard_streams.specs.declared.streams.Streams.{Streams}
use Rattle.shard_streams.specs.HeldImages.{HoldsImage}
use Rattle.shard_table.specs.declared.table.Table.{Table}
use Rattle.shard_table.specs.Answering.{Does}
use Rattle.shard_table.specs.Effects.{effected}
use Rattle.shard_table.specs.Hearing.{IsHeard, MovesOn, moved_on}
use Rattle.shard_table.specs.Holding.{Holds}
use Rattle.shard_table.proofs.Hears.{IsFor, hears-follows}

-- no decision of a copy that moves on is that a packet is foreign
pub moves-not-foreign : (d : Decision) → MovesOn d → d ≡ Ignore Foreign → ⊥
moves-not-foreign (Store entry) m e = m
moves-not-foreign (Bind entry) m e = m
moves-not-foreign Rebind m e = cc
moves-not-foreign Skip m e = cc
moves-not-foreign (Ignore reason) m e = m
moves-not-foreign (AskAgain why) m e = m
moves-not-foreign Reply m e = cc
moves-not-foreign Heard m e = cc
moves-not-foreign Refused m e = m
moves-not-foreign (Stop kept seen) m e = m

-- a copy that moves on sends and tells nothing
pub moves-follow : (d : Decision) → MovesOn d → (v : View) (c : Copy) (now : ℕ) (packet : Packet) → follows v c now packet (asker_of v c).phase d ≡ hears_with v c d None [] [] (phase_behind d packet now (asker_of v c).phase)
moves-follow (Store entry) m v c now packet = absurd m
moves-follow (Bind entry) m v c now packet = absurd m
moves-follow Rebind m v c now packet = refl
moves-follow Skip m v c now packet = refl
moves-follow (Ignore reason) m v c now packet = absurd m
moves-follow (AskAgain why) m v c now packet = absurd m
moves-follow Reply m v c now packet = absurd m
moves-follow Heard m v c now packet = refl
moves-follow Refused m v c now packet = absurd m
moves-follow (Stop kept seen) m v c now packet = absurd m

-- ---- tables whose askers changed

-- the askers show this view
pub holds-askers : (old new : Table) (v : View) → Holds old v → new.streams ≡ old.streams → new.consumers ≡ old.consumers → ShowsAskers new.askers v v.askers → Holds new v
holds-askers old new v h s c a = record {
  streams = subst (λ (x : Streams). HoldsImage x.replay v.image) (sym s) h.streams;
  boot = ap (λ (x : ConsumersState). x.boot) c ∙ h.boot;
  given = ap (λ (x : ConsumersState). x.given) c ∙ h.given;
  consumers = ap (λ (x : ConsumersState). x.all) c ∙ h.consumers;
  askers = a;
}

-- the streams hold the image
pub holds-streams : (old new : Table) (v : View) → Holds old v → HoldsImage new.streams.replay v.image → new.consumers ≡ old.consumers → new.askers ≡ old.askers → Holds new v
holds-streams old new v h s c a = record {
  streams = s;
  boot = ap (λ (x : ConsumersState). x.boot) c ∙ h.boot;
  given = ap (λ (x : ConsumersState). x.given) c ∙ h.given;
  consumers = ap (λ (x : ConsumersState). x.all) c ∙ h.consumers;
  askers = subst (λ (x : AskersState). ShowsAskers x v v.askers) (sym a) h.askers;
}

-- each look-up finds what it found
pub shows-still : (old new : AskersState) (v : View) (askers : Askers) → ShowsSame old new → ShowsAskers old v askers → ShowsAskers new v askers
shows-still old new v askers same h = record {
  node = same.node ∙ h.node;
  boot = same.boot ∙ h.boot;
  each = λ t j.
      same.each t j ∙ (h.each t j
      ∙ (ap (λ (n : List ℕ). asker_or_new (record { node = n; stream = t; index = j }) old.boot (get (askers_of askers t) j)) (sym same.node)
      ∙ ap (λ (m : ℕ). asker_or_new (id_in new t j) m (get (askers_of askers t) j)) (sym same.boot)));
}

-- ---- effects without a record

-- the effect changes the askers alone
pub does-asking : (old new : Table) (v : View) (packet : Packet) (now : ℕ) (d : Decision) (sent : List Packet) (told : List Notice) (askers : Askers)
    → hears v now packet (copy_of_asker v (addressee packet)) ≡ record { reply = replied (outcome.Heard d) None sent told; records = []; given = v.given; consumers = v.consumers; askers = askers }
    → Holds old v → new.streams ≡ old.streams → new.consumers ≡ old.consumers → ShowsAskers new.askers v askers
    → Does v (call.Heard packet now) (replied (outcome.Heard d) None sent told) new
does-asking old new v packet now d sent told askers e h s c a = record {
  effect = record { reply = replied (outcome.Heard d) None sent told; records = []; given = v.given; consumers = v.consumers; askers = askers };
  answers = ap Ok (sym e);
  none = refl;
  replies = refl;
  becomes = record {
    streams = subst (λ (x : Streams). HoldsImage x.replay v.image) (sym s) h.streams;
    boot = ap (λ (x : ConsumersState). x.boot) c ∙ h.boot;
    given = ap (λ (x : ConsumersState). x.given) c ∙ h.given;
    consumers = ap (λ (x : ConsumersState). x.all) c ∙ h.consumers;
    askers = record { node = a.node; boot = a.boot; each = a.each };
  };
}

-- the copy is in another phase
pub does-moved : (old new : Table) (v : View) (id : AskerId) (d : Decision) (packet : Packet) (now : ℕ) (known : NameFacts) (f : IsFor v id d packet now known) (sent : List Packet) (told : List Notice)
    → follows v f.copy now packet (asker_of v f.copy).phase d ≡ hears_with v f.copy d None sent told (phase_behind d packet now (asker_of v f.copy).phase)
    → Holds old v → new.streams ≡ old.streams → new.consumers ≡ old.consumers → ShowsAskers new.askers v (moved_on v f.copy d packet now)
    → Does v (call.Heard packet now) (replied (outcome.Heard d) None sent told) new
does-moved old new v id d packet now known f sent told e h s c a =
    does-asking old new v packet now d sent told (moved_on v f.copy d packet now) (hears-follows v id d packet now known f ∙ e) h s c a

-- the copy asks again
pub does-asked : (old new : Table) (v : View) (id : AskerId) (why : Why) (packet : Packet) (now : ℕ) (known : NameFacts) (f : IsFor v id (AskAgain why) packet now known) (sent : List Packet) (told : List Notice)
    → sent ≡ asks_of v (f.copy ∷ []) → told ≡ AskedAgain id.stream id.index ∷ []
    → Holds old v → new.streams ≡ old.streams → new.consumers ≡ old.consumers → ShowsAskers new.askers v (with_all_asked v now (f.copy ∷ []) v.askers)
    → Does v (call.Heard packet now) (replied (outcome.Heard (AskAgain why)) None sent told) new
does-asked old new v id why packet now known f sent told sends tells h s c a =
    let notice : AskedAgain f.copy.stream f.copy.index ∷ [] ≡ told = ap (λ (x : List ℕ). AskedAgain x f.copy.index ∷ []) f.stream ∙ (ap (λ (n : ℕ). AskedAgain id.stream n ∷ []) f.index ∙ sym tells) in
    let reply : replied (outcome.Heard (AskAgain why)) None (asks_of v (f.copy ∷ [])) (AskedAgain f.copy.stream f.copy.index ∷ []) ≡ replied (outcome.Heard (AskAgain why)) None sent told =
    ap (λ (ps : List Packet). replied (outcome.Heard (AskAgain why)) None ps (AskedAgain f.copy.stream f.copy.index ∷ [])) (sym sends) ∙ ap (replied (outcome.Heard (AskAgain why)) None sent) notice in
    does-asking old new v packet now (AskAgain why) sent told (with_all_asked v now (f.copy ∷ []) v.askers)
    (hears-follows v id (AskAgain why) packet now known f
    ∙ ap (λ (r : ShardReply). record { reply = r; records = []; given = v.given; consumers = v.consumers; askers = with_all_asked v now (f.copy ∷ []) v.askers }) reply)
    h s c a

-- the copy stops
pub does-stop : (old new : Table) (v : View) (id : AskerId) (kept seen : ℕ) (packet : Packet) (now : ℕ) (known : NameFacts) (f : IsFor v id (Stop kept seen) packet now known) (told : List Notice)
    → told ≡ StoppedNotice id.stream id.index kept seen ∷ []
    → Holds old v → new.streams ≡ old.streams → new.consumers ≡ old.consumers → ShowsAskers new.askers v (moved_on v f.copy (Stop kept seen) packet now)
    → Does v (call.Heard packet now) (replied (outcome.Heard (Stop kept seen)) None [] told) new
does-stop old new v id kept seen packet now known f told tells h s c a =
    let notice : StoppedNotice f.copy.stream f.copy.index kept seen ∷ [] ≡ told =
    ap (λ (x : List ℕ). StoppedNotice x f.copy.index kept seen ∷ []) f.stream ∙ (ap (λ (n : ℕ). StoppedNotice id.stream n kept seen ∷ []) f.index ∙ sym tells) in
    does-moved old new v id (Stop kept seen) packet now known f [] told
    (ap (λ (ns : List Notice). hears_with v f.copy (Stop kept seen) None [] ns (phase_behind (Stop kept seen) packet now (asker_of v f.copy).phase)) notice)
    h s c a
