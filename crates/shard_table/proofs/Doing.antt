-- Calls that make no record.
use Rattle.std.proofs.Common.{◌≡◌, ℕ, List, [], Option, Some, None, refl, sym, ap, ◌∙◌, subst}
use Rattle.std.specs.Prelude.{Ok}
use Rattle.js_wire.specs.declared.packet.Packet.{Packet}
use Rattle.stream_fold.specs.declared.entry.Entry.{Entry}
use Rattle.push_consumer.specs.Progress.{ConsumerState}
use Rattle.shard_machine.specs.declared.call.ShardCall.{ShardCall}
use Rattle.shard_machine.specs.declared.reply.Outcome.{Outcome}
use Rattle.shard_machine.specs.declared.reply.Outcome.TheVariants.{Sent}
use Rattle.shard_machine.specs.declared.reply.ShardReply.{ShardReply}
use Rattle.shard_machine.specs.Views.{View, Effect, Askers, reads, sends, replied}
use Rattle.shard_machine.specs.Answers.{Answers}
use Rattle.shard_copies.specs.Asked.{AskersState, ShowsAskers, ShowsSame, id_in}
use Rattle.shard_copies.specs.Standing.{ConsumersState, ShowsConsumers}
use Rattle.shard_streams.specs.HeldImages.{HoldsImage}
use Rattle.shard_streams.specs.Plans.{DoesWith}
use Rattle.shard_table.specs.declared.table.Table.{Table}
use Rattle.shard_table.specs.Answering.{Does}
use Rattle.shard_table.specs.Effects.{effected}
use Rattle.shard_table.specs.Holding.{Holds}

-- ---- what is held

-- the consumers of a table are those of its view
pub shows-consumers : (t : Table) (v : View) → Holds t v → ShowsConsumers t.consumers v
shows-consumers t v h = record { boot = h.boot; given = h.given; all = h.consumers }

-- the same askers, in a view of the same node and opening
pub shows-in : (s : AskersState) (v w : View) (askers : Askers) → w.node ≡ v.node → w.image.boot ≡ v.image.boot → ShowsAskers s v askers → ShowsAskers s w askers
shows-in s v w askers node boot h = record { node = h.node ∙ sym node; boot = h.boot ∙ sym boot; each = h.each }

-- ---- effects

-- nothing changes
pub does-reads : (v : View) (called : ShardCall) (what : Outcome) (reply : ShardReply) (t : Table) → Answers v called (Ok (reads v what)) → reply ≡ replied what None [] [] → Holds t v → Does v called reply t
does-reads v called what reply t a r h = record { effect = reads v what; answers = a; none = refl; replies = r; becomes = record { streams = h.streams; boot = h.boot; given = h.given; consumers = h.consumers; askers = shows-in t.askers v (effected v (reads v what)) v.askers refl refl h.askers } }

-- packets are sent, and the consumers and the askers change
pub does-sends : (v : View) (called : ShardCall) (sent : List Packet) (consumers : List ConsumerState) (askers : Askers) (reply : ShardReply) (t : Table) → Answers v called (Ok (sends v sent consumers askers)) → reply ≡ replied Sent None sent []
    → HoldsImage t.streams.replay v.image → t.consumers ≡ record { boot = v.image.boot; given = v.given; all = consumers } → ShowsAskers t.askers v askers → Does v called reply t
does-sends v called sent consumers askers reply t a r image are shown = record {
  effect = sends v sent consumers askers;
  answers = a;
  none = refl;
  replies = r;
  becomes = record {
    streams = image;
    boot = ap (λ (s : ConsumersState). s.boot) are;
    given = ap (λ (s : ConsumersState). s.given) are;
    consumers = ap (λ (s : ConsumersState). s.all) are;
    askers = shows-in t.askers v (effected v (sends v sent consumers askers)) askers refl refl shown;
  };
}

-- no entry is written
pub does-with : (v : View) (called : ShardCall) (name : List ℕ) (what : Outcome) (entry : Option Entry) (reply : ShardReply) (t : Table) → DoesWith v called name what entry → entry ≡ None → reply ≡ replied what None [] [] → Holds t v → Does v called reply t
does-with v called name what entry reply t d none r h = does-reads v called what reply t (subst (DoesWith v called name what) none d) r h
